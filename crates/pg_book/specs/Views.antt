-- What a view knows, read by the number of a name: part k is name k, and caller c the name c behind the parts.
use Rattle.std.specs.Prelude.{◌≡◌, ℕ, ◌+◌, ◌<◌, ◌≤◌, ◌^◌, ◌⊎◌, true, false, List, [], ◌∷◌, ◌++◌, length, slice_index_or, Some}
use Rattle.pg_book.specs.declared.needs.Needs.{Needs}
use Rattle.pg_book.specs.declared.receipt.Receipt.{Receipt}
use Rattle.pg_book.specs.declared.view.Name.{Name}
use Rattle.pg_book.specs.declared.view.View.{View}
use Rattle.pg_book.specs.Needs.{parts_of, names_of, entries_at, all_entries}
use Rattle.pg_book.specs.Lists.{Among, Rising, IsPrefix, of_caller}

module _ {E : Type 0} where
  abbrev pub blank : Name E
  blank = record { held = false; list = []; former = []; former_other = [] }

  abbrev pub name_at : View E → ℕ → Name E
  name_at v k = slice_index_or v.names k blank

  abbrev pub list_at : View E → ℕ → List (Receipt E)
  list_at v k = (name_at v k).list

  abbrev pub caller_name : View E → ℕ → ℕ
  caller_name v caller = parts_of v.needs + caller

  -- the receipts of the caller that the view knows
  abbrev pub caller_list : View E → ℕ → List (Receipt E)
  caller_list v caller = list_at v (caller_name v caller)

  abbrev pub Holds : View E → ℕ → Type 0
  Holds v k = (name_at v k).held ≡ true

  -- A list of the name k: its stamps rise and are below the floor. A part's has receipts of that part, and no more of a caller than it needs there
  pub record IsListOf (needs : List (List Needs)) (floor k : ℕ) (xs : List (Receipt E)) : Type 0 where
    pub rising : Rising xs
    pub below : (r : Receipt E) → Among r xs → r.stamp < floor
    pub of_part : (r : Receipt E) → k < parts_of needs → Among r xs → r.part ≡ k
    pub callers : (r : Receipt E) → k < parts_of needs → Among r xs → r.caller < length needs
    pub within : (caller : ℕ) → k < parts_of needs → length (of_caller caller xs) ≤ entries_at needs caller k

  -- The receipt is the last of its part's list, which the view holds
  pub record IsDue (v : View E) (r : Receipt E) : Type 0 where
    pub part : r.part < parts_of v.needs
    pub held : Holds v r.part
    pub before : List (Receipt E)
    pub last : list_at v r.part ≡ before ++ r ∷ []

  -- The receipt stands in its part's list
  pub record Stands (v : View E) (r : Receipt E) : Type 0 where
    pub part : r.part < parts_of v.needs
    pub there : Among r (list_at v r.part)

  -- what the rule says of one view alone
  pub record Sound (v : View E) : Type 0 where
    pub live : v.spent ≡ false
    pub same_needs : v.other_needs ≡ v.needs
    pub small : all_entries v.needs < 2 ^ 63
    pub whole : length v.names ≡ names_of v.needs
    -- the lists that the two views of the last join had are beginnings of this view's
    pub former : (k : ℕ) → IsPrefix (name_at v k).former (list_at v k)
    pub former_other : (k : ℕ) → IsPrefix (name_at v k).former_other (list_at v k)
    pub lists : (k : ℕ) → IsListOf v.needs v.floor k (list_at v k)
    -- each receipt of a caller has that caller, and stands in its part's list
    pub callers : (caller : ℕ) (r : Receipt E) → Among r (caller_list v caller) → (r.caller ≡ caller) × Stands v r
    pub due : (r : Receipt E) → v.due ≡ Some r → IsDue v r
    pub sent : (r : Receipt E) → v.sent ≡ Some r → Stands v r
    -- each receipt of a held part but the due one stands in its caller's list
    pub settled : (k : ℕ) (r : Receipt E) → k < parts_of v.needs → Holds v k → Among r (list_at v k) → (v.due ≡ Some r) ⊎ Among r (caller_list v r.caller)
