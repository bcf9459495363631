-- Lists of regions, of records and of private copies, and what is found in them.
use Rattle.std.specs.Prelude.{ℕ, ◌+◌, ◌≡◌, ◌==◌, ◌≤◌, nat_le, nat_lt, min, Bool, true, false, ◌&&◌, ◌||◌, IsTrue, List, filter, find, map, count_by, AllPairs, Option, IsSomeAnd, is_some, Result, Ok, Err, if◌then◌else◌}
use Rattle.std.specs.List.{reduce}
use Rattle.std.specs.Option.{option_map, option_map_or}
use Rattle.cs_policy.specs.declared.region.Region.{Region}
use Rattle.cs_policy.specs.declared.region.Record.{Record}

-- a private copy: the bytes of a page as one region alone sees them
pub record Copy : Type 0 where
  pub region : ℕ
  pub page : ℕ
  pub bytes : List ℕ

-- ---- one of each: a region by its number, a record and a copy by region and page

abbrev pub is_region : ℕ → Region → Bool
is_region id region = region.id == id

abbrev pub region_of : List Region → ℕ → Option Region
region_of regions id = find (is_region id) regions

abbrev pub is_record : ℕ → ℕ → Record → Bool
is_record id page r = (r.region == id) && (r.page == page)

abbrev pub record_of : List Record → ℕ → ℕ → Option Record
record_of records id page = find (is_record id page) records

abbrev pub is_copy : ℕ → ℕ → Copy → Bool
is_copy id page copy = (copy.region == id) && (copy.page == page)

abbrev pub copy_of : List Copy → ℕ → ℕ → Option Copy
copy_of copies id page = find (is_copy id page) copies

-- the bytes of that copy
abbrev pub bytes_of : List Copy → ℕ → ℕ → Option (List ℕ)
bytes_of copies id page = option_map (λ copy. copy.bytes) (copy_of copies id page)

-- ---- at most one of each

-- no two regions have one number
abbrev pub RegionsDiffer : List Region → Type 0
RegionsDiffer regions = AllPairs (λ one other. is_region one.id other ≡ false) regions

-- no two records are of one region and page
abbrev pub RecordsDiffer : List Record → Type 0
RecordsDiffer records = AllPairs (λ one other. is_record one.region one.page other ≡ false) records

-- no two copies are of one region and page
abbrev pub CopiesDiffer : List Copy → Type 0
CopiesDiffer copies = AllPairs (λ one other. is_copy one.region one.page other ≡ false) copies

-- ---- the order in which they stand

-- the key of a page and a region is less than that of another page and region: the page decides first
abbrev pub comes_before : ℕ → ℕ → ℕ → ℕ → Bool
comes_before page region other_page other_region =
    nat_lt page other_page || (page == other_page && nat_lt region other_region)

abbrev pub record_before : Record → Record → Bool
record_before one other = comes_before one.page one.region other.page other.region

abbrev pub copy_before : Copy → Copy → Bool
copy_before one other = comes_before one.page one.region other.page other.region

abbrev pub region_before : Region → Region → Bool
region_before one other = nat_lt one.id other.id

-- regions stand in the order of their numbers
abbrev pub RegionsRise : List Region → Type 0
RegionsRise regions = AllPairs (λ one other. region_before one other ≡ true) regions

-- records stand in the order of their pages, and those of a page in the order of their regions
abbrev pub RecordsRise : List Record → Type 0
RecordsRise records = AllPairs (λ one other. record_before one other ≡ true) records

-- and so do copies
abbrev pub CopiesRise : List Copy → Type 0
CopiesRise copies = AllPairs (λ one other. copy_before one other ≡ true) copies

-- the record of a region and page: how many records have a lesser page, or the same page and a lesser region, and
-- whether the record stands
abbrev pub placed : ℕ → ℕ → List Record → Result ℕ ℕ
placed page id records =
    if is_some (record_of records id page) then Ok (count_by (λ r. comes_before r.page r.region page id) records)
    else Err (count_by (λ r. comes_before r.page r.region page id) records)

-- ---- what a region is, by its number

-- the page is one of the region's
abbrev pub has_page : ℕ → Region → Bool
has_page page region = nat_le region.first page && nat_lt page (region.first + region.pages)

-- the region stands, and has the page
abbrev pub HasPage : List Region → ℕ → ℕ → Type 0
HasPage regions id page = IsSomeAnd (region_of regions id) (λ region. IsTrue (has_page page region))

-- the same of a private region
abbrev pub HasPrivatePage : List Region → ℕ → ℕ → Type 0
HasPrivatePage regions id page =
    IsSomeAnd (region_of regions id) (λ region. IsTrue (has_page page region) × (region.shared ≡ false))

-- the region stands, and is shared
abbrev pub is_shared : List Region → ℕ → Bool
is_shared regions id = option_map_or (λ region. region.shared) (region_of regions id) false

-- the region stands, and is of the process
abbrev pub is_of_pid : List Region → ℕ → ℕ → Bool
is_of_pid regions pid id = option_map_or (λ region. region.pid == pid) (region_of regions id) false

-- ---- who may write a page of the file

-- the record permits a shared region to write the page
abbrev pub permits_write : List Region → ℕ → Record → Bool
permits_write regions page r = (r.page == page) && r.write && is_shared regions r.region

-- the least number of a shared region with such a record
abbrev pub writer_of : List Region → List Record → ℕ → Option ℕ
writer_of regions records page = reduce min (map (λ r. r.region) (filter (permits_write regions page) records))

-- the region is shared, and has a record that permits it to write the page
pub record IsWriter (regions : List Region) (records : List Record) (page id : ℕ) : Type 0 where
  pub shared : is_shared regions id ≡ true
  pub writes : IsSomeAnd (record_of records id page) (λ r. r.write ≡ true)

-- the region is such a one, and no other has a lesser number
pub record IsLeastWriter (regions : List Region) (records : List Record) (page id : ℕ) : Type 0 where
  pub writer : IsWriter regions records page id
  pub least : (other : ℕ) → IsWriter regions records page other → id ≤ other

-- there is no such region
abbrev pub HasNoWriter : List Region → List Record → ℕ → Type 0
HasNoWriter regions records page = (id : ℕ) → ¬ IsWriter regions records page id
