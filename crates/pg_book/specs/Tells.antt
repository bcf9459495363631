-- What a step tells the seat that makes it.
use Rattle.std.specs.Prelude.{◌≡◌, ℕ, ◌<◌, ◌≤◌, List, length, MatchBool, ◌==◌, Option, None, Some}
use Rattle.atomic_table.specs.Table.{Step, Me}
use Rattle.pg_book.specs.declared.receipt.Receipt.{Receipt}
use Rattle.pg_book.specs.declared.view.View.{View}
use Rattle.pg_book.specs.Needs.{parts_of, entries_at}
use Rattle.pg_book.specs.Lists.{Among, IsLog, of_part, of_caller}
use Rattle.pg_book.specs.Views.{list_at, Holds, Sound}
use Rattle.pg_book.specs.Kinds.{named, looked, drawn}

module _ {E : Type 0} where
  -- The view is a view of all receipts that there are: it knows how many, and each list that it holds of a part has all of that part
  pub record Sees (v : View E) : Type 0 where
    pub log : List (Receipt E)
    pub logged : IsLog v.needs log
    pub floor : v.floor ≡ length log
    pub parts : (k : ℕ) → k < parts_of v.needs → Holds v k → list_at v k ≡ of_part k log
    pub known : (k : ℕ) (r : Receipt E) → k < parts_of v.needs → Among r (list_at v k) → Among r log

  -- a load of word 0
  pub record Looked (s : Step (Unit {0})) (me : Me (Unit {0}) (View E)) (found : ℕ) (now : Me (Unit {0}) (View E)) : Type 0 where
    pub slots : now.1 ≡ me.1
    pub view : now.0 ≡ looked me.0 found
    pub sound : Sound now.0
    pub sees : Sees now.0

  -- a compare-exchange on word 1, which registers a name where it finds the number that it wants
  pub record Registered (s : Step (Unit {0})) (me : Me (Unit {0}) (View E)) (found : ℕ) (now : Me (Unit {0}) (View E)) : Type 0 where
    pub slots : now.1 ≡ me.1
    pub view : MatchBool (found == s.first) (now.0 ≡ named me.0 s.first) (now.0 ≡ me.0)
    pub sound : Sound now.0

  -- What a draw asks of the view: it holds the part, nothing is due in it, and the caller has fewer entries there than it needs
  pub record MayDraw (v : View E) (part caller : ℕ) : Type 0 where
    pub is_part : part < parts_of v.needs
    pub holds : Holds v part
    pub settled : v.due ≡ None
    pub is_caller : caller < length v.needs
    pub fewer : length (of_caller caller (list_at v part)) < entries_at v.needs caller part

  -- a draw: the stamp is not below the former floor
  pub record Drew (part caller : ℕ) (entry : E) (s : Step (Unit {0})) (me : Me (Unit {0}) (View E)) (found : ℕ) (now : Me (Unit {0}) (View E)) : Type 0 where
    pub slots : now.1 ≡ me.1
    pub view : now.0 ≡ drawn me.0 part caller entry found
    pub floor : me.0.floor ≤ found
    pub sound : Sound now.0

  -- the same of an entry that a call picks
  abbrev pub DrewFor : ℕ → ℕ → Option E → Step (Unit {0}) → Me (Unit {0}) (View E) → ℕ → Me (Unit {0}) (View E) → Type 0
  DrewFor part caller None s me found now = ⊥
  DrewFor part caller (Some entry) s me found now = Drew part caller entry s me found now
