-- How cdhashes compare: by their bytes from the first on.
use Rattle.std.specs.Prelude.{ℕ, ◌≤◌, Bool, List, map, length, nat_eq, IsSorted}
use Rattle.std.specs.Ordering.{nat_cmp}
use Rattle.std.specs.Cmp.Lexicographic.{slice_cmp, pointwise}
use Rattle.std.specs.declared.cmp.Ordering.{Ordering}
use Rattle.cs_trust.specs.declared.entries.Entry.{Entry}

-- the first byte that differs decides
abbrev pub order : List ℕ → List ℕ → Ordering
order = slice_cmp nat_cmp

-- whether two cdhashes have the same bytes
abbrev pub is_same : List ℕ → List ℕ → Bool
is_same = pointwise nat_eq

-- the cdhashes of entries, in their order
abbrev pub cdhashes_of : List Entry → List (List ℕ)
cdhashes_of entries = map (λ entry. entry.cdhash) entries

-- The entries of a module: no cdhash is less than the one before, and there are no more than a trust cache can have.
pub record IsTable (entries : List Entry) : Type 0 where
  pub sorted : IsSorted order (cdhashes_of entries)
  pub limited : length entries ≤ 65536
