-- What contracts see of a spine, a pass and a book: which book it is, its number, and what it knows.
use Rattle.std.specs.Prelude.{◌≡◌, ℕ, ◌<◌, ◌≤◌, List, length, map, None, vec_len, vec_capacity}
use Rattle.std.specs.Global.{Vec}
use Rattle.atomic_table.specs.Seated.{TableId}
use Rattle.pg_book.specs.declared.receipt.Receipt.{Receipt}
use Rattle.pg_book.specs.declared.receipt.Stamped.{Stamped}
use Rattle.pg_book.specs.declared.view.View.{View}
use Rattle.pg_book.specs.Stamps.{stamped}
use Rattle.pg_book.specs.Needs.{parts_of, part_entries}
use Rattle.pg_book.specs.Views.{list_at, caller_name, caller_list, Holds, Sound}

pub record SpineOf (E : Type 0) : Type 0 where
  pub book : TableId
  pub part : ℕ
  pub view : View E

pub record PassOf (E : Type 0) : Type 0 where
  pub book : TableId
  pub caller : ℕ
  pub view : View E

pub record BookOf (E : Type 0) : Type 0 where
  pub book : TableId
  pub view : View E

module _ {E : Type 0} where
  -- the receipts of all draws on the spine, in their order
  abbrev pub spine_receipts : SpineOf E → List (Receipt E)
  spine_receipts s = list_at s.view s.part

  -- the receipts of all draws of the pass, in their order
  abbrev pub pass_receipts : PassOf E → List (Receipt E)
  pass_receipts p = caller_list p.view p.caller

  -- a spine of the book with this part
  pub record IsSpineAt (book : TableId) (part : ℕ) (s : SpineOf E) : Type 0 where
    pub same_book : s.book ≡ book
    pub is_part : s.part ≡ part

  -- a pass of the book with this caller number
  pub record IsPassAt (book : TableId) (caller : ℕ) (p : PassOf E) : Type 0 where
    pub same_book : p.book ≡ book
    pub is_caller : p.caller ≡ caller

  -- between calls nothing is due or sent
  pub record IsReady (v : View E) : Type 0 where
    pub sound : Sound v
    pub settled : v.due ≡ None
    pub unsent : v.sent ≡ None

  -- the view holds the part, and nothing else
  pub record IsSpineView (part : ℕ) (v : View E) : Type 0 where
    pub ready : IsReady v
    pub is_part : part < parts_of v.needs
    pub holds : Holds v part
    pub only : (k : ℕ) → Holds v k → k ≡ part

  -- the entries of the part that the view knows, in a vector with room for all that callers need there
  pub record AreEntriesOf (part : ℕ) (v : View E) (entries : Vec (Stamped E)) : Type 0 where
    pub items : entries.items ≡ map stamped (list_at v part)
    pub count : vec_len entries ≡ length (list_at v part)
    pub room : part_entries v.needs part ≤ vec_capacity entries

  -- the view holds the caller, and nothing else
  pub record IsPassView (caller : ℕ) (v : View E) : Type 0 where
    pub ready : IsReady v
    pub is_caller : caller < length v.needs
    pub holds : Holds v (caller_name v caller)
    pub only : (k : ℕ) → Holds v k → k ≡ caller_name v caller

  -- the view holds no name
  pub record IsBookView (v : View E) : Type 0 where
    pub ready : IsReady v
    pub nothing : (k : ℕ) → Holds v k → ⊥
