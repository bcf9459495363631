-- What the steps ask of a seat, and what a peek leaves.
use Rattle.std.specs.Prelude.{◌≡◌, ℕ}
use Rattle.atomic_table.specs.Seated.{TableId}
use Rattle.pg_book.specs.declared.view.View.{View}
use Rattle.pg_book.specs.Views.{Sound}
use Rattle.pg_book.specs.Kinds.{looked}
use Rattle.pg_book.specs.Tells.{Sees}

-- the seat is one of the table, which has the two words of a book
pub record IsSeatOf (table seat : TableId) : Type 0 where
  pub same : seat ≡ table
  pub words : table.words ≡ 2

-- the view after a peek
pub record HasLooked {E : Type 0} (v w : View E) : Type 0 where
  pub found : ℕ
  pub view : w ≡ looked v found
  pub sound : Sound w
  pub sees : Sees w
