-- Lists of entries that are merged into one.
use Rattle.std.specs.Prelude.{◌≡◌, ℕ, ◌+◌, List, [], ◌++◌, length, vec_len, vec_capacity, IsPermutation}
use Rattle.std.specs.Global.{Vec}
use Rattle.pg_book.specs.declared.receipt.Stamped.{Stamped}
use Rattle.pg_book.specs.declared.merge.Space.{Space}

module _ {E : Type 0} where
  -- Entries went from lists, which had `all` and have `left`, to the end of a vector, in the same capacity
  pub record Moves (old : Vec (Stamped E)) (all : List (Stamped E)) (new : Vec (Stamped E)) (left : List (Stamped E)) : Type 0 where
    pub same : IsPermutation (old.items ++ all) (new.items ++ left)
    pub count : vec_len new + length left ≡ vec_len old + length all
    pub capacity : vec_capacity new ≡ vec_capacity old

  -- nothing is there yet, and there is room for so many entries and so many lists
  pub record IsSpaceFor (entries lists : ℕ) (s : Space E) : Type 0 where
    pub no_entries : (s.entries.items ≡ []) × (vec_len s.entries ≡ 0)
    pub entry_room : vec_capacity s.entries ≡ entries
    pub no_lists : (s.lists.items ≡ []) × (vec_len s.lists ≡ 0)
    pub list_room : vec_capacity s.lists ≡ lists
