-- The regions of a process: which addresses they have, and which files. A page has so many bytes, and a region as many
-- addresses for each of its pages.
use Rattle.std.specs.Prelude.{ℕ, ◌≡◌, ◌<◌, ◌≤◌, ◌+◌, ◌-◌, ◌*◌, ◌/◌, ◌^◌, ⊤, Bool, ◌&&◌, ◌==◌, nat_lt, nat_le, List, [], ◌∷◌, length, filter, fold, min, Option, bit_or}
use Rattle.std.specs.List.{AllByRecursion, AllWithin, HoldsAt, reduce}
use Rattle.pg_bytes.specs.Order.{in_order}
use Rattle.pg_process.specs.declared.mapping.Mapping.{Mapping}

-- the first address behind a region
abbrev pub end_of : ℕ → Mapping → ℕ
end_of page m = m.at + page * m.pages

-- the addresses of a region meet those of so many pages at an address
abbrev pub is_met : ℕ → ℕ → ℕ → Mapping → Bool
is_met page at pages m = nat_lt at (end_of page m) && nat_lt m.at (at + page * pages)

-- the regions that so many pages at an address meet
abbrev pub met : ℕ → ℕ → ℕ → List Mapping → List Mapping
met page at pages regions = filter (λ m. is_met page at pages m) regions

-- a region has the address
abbrev pub has_address : ℕ → ℕ → Mapping → Bool
has_address page addr m = nat_le m.at addr && nat_lt addr (end_of page m)

-- a region begins at the address
abbrev pub begins_at : ℕ → Mapping → Bool
begins_at at m = m.at == at

-- the page of the file that an address of a region means
abbrev pub file_page : ℕ → Mapping → ℕ → ℕ
file_page page m addr = m.first + (addr - m.at) / page

-- the least of some numbers, or none
abbrev pub least : List ℕ → Option ℕ
least ns = reduce min ns

-- the files of some regions, as the number in which bit k is set for the file k
abbrev pub files_of : List Mapping → ℕ
files_of regions = fold (λ files m. bit_or files (2 ^ m.file)) 0 regions

-- one region more, in the order of their first addresses
abbrev pub with_mapping : Mapping → List Mapping → List Mapping
with_mapping = in_order (λ m other. nat_lt m.at other.at)

-- each region ends before those that stand behind it in the list begin
abbrev pub AreInOrder : ℕ → List Mapping → Type 0
AreInOrder page [] = ⊤
AreInOrder page (m ∷ ms) = AllByRecursion (λ other. end_of page m ≤ other.at) ms × AreInOrder page ms

-- a region is of one of 16 files, and its pages, of which it has one at least, have numbers of 64 bits
pub record IsInFile (m : Mapping) : Type 0 where
  pub file : m.file < 16
  pub some : 0 < m.pages
  pub pages : m.first + m.pages < 2 ^ 64

-- the region at this place of the list is the first that begins at the address
pub record IsPlaceOf (regions : List Mapping) (at place : ℕ) : Type 0 where
  pub within : place < length regions
  pub here : HoldsAt (λ m. m.at ≡ at) regions place
  pub before : AllWithin (λ m. m.at < at) regions 0 place
