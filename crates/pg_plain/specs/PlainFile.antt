-- A plain file, and what is found in it.
use Rattle.std.specs.Prelude.{ℕ, ◌==◌, ◌&&◌, Bool, false, List, [], find, filter, map, min, take, drop, slice_index_or, Option, Some, None, is_some, if◌then◌else◌}
use Rattle.std.specs.List.{concat, reduce}
use Rattle.std.specs.Option.{option_map_or}
use Rattle.cs_policy.specs.declared.layout.Layout.{Layout}
use Rattle.cs_policy.specs.declared.region.Region.{Region}
use Rattle.cs_policy.specs.declared.region.Record.{Record}
use Rattle.cs_blob.specs.Signature.{Signature}
use Rattle.pg_regions.specs.Lookups.{region_of, has_page}

-- an attached signature, and the number of the slice that it signs
pub record Attached : Type 0 where
  pub slice : ℕ
  pub signature : Signature

-- a resident page, and whether a store has changed it since it was last read or written
pub record Resident : Type 0 where
  pub page : ℕ
  pub dirty : Bool

pub record PlainFile : Type 0 where
  -- how many bytes a page has
  pub page_size : ℕ
  -- how many bytes the file has
  pub length : ℕ
  -- how many pages may be resident
  pub limit : ℕ
  -- what each page holds now
  pub pages : List (List ℕ)
  -- where the slices and their signatures lie
  pub layout : Layout
  -- the attached signatures, by their numbers
  pub blobs : List Attached
  -- the regions that map the file, in the order of their numbers
  pub regions : List Region
  -- what a region was given of a page
  pub records : ℕ → ℕ → Option Record
  -- the private copy that a region has of a page
  pub copies : ℕ → ℕ → Option (List ℕ)
  -- the resident pages, most recent first
  pub residents : List Resident

-- ---- content

-- the bytes of a page
abbrev pub page_of : PlainFile → ℕ → List ℕ
page_of file page = slice_index_or file.pages page []

-- so many bytes of the file, from a place on
abbrev pub bytes_of_file : PlainFile → ℕ → ℕ → List ℕ
bytes_of_file file at count = take count (drop at (concat file.pages))

-- ---- regions and records

-- the region, where it has the page
abbrev pub having : ℕ → Option Region → Option Region
having page None = None
having page (Some region) = if has_page page region then Some region else None

-- the region of this number, where it stands and has the page
abbrev pub region_with : PlainFile → ℕ → ℕ → Option Region
region_with file id page = having page (region_of file.regions id)

-- the region has a private copy of the page
abbrev pub has_copy : PlainFile → ℕ → ℕ → Bool
has_copy file id page = is_some (file.copies id page)

-- the region has a record of the page
abbrev pub has_record : PlainFile → ℕ → ℕ → Bool
has_record file id page = is_some (file.records id page)

-- the record of a region and page permits it to read, to write, to execute
abbrev pub may_read : PlainFile → ℕ → ℕ → Bool
may_read file id page = option_map_or (λ r. r.read) (file.records id page) false

abbrev pub may_write : PlainFile → ℕ → ℕ → Bool
may_write file id page = option_map_or (λ r. r.write) (file.records id page) false

abbrev pub may_execute : PlainFile → ℕ → ℕ → Bool
may_execute file id page = option_map_or (λ r. r.execute) (file.records id page) false

-- it permits that, and was given so to a guarded process
abbrev pub may_execute_guarded : PlainFile → ℕ → ℕ → Bool
may_execute_guarded file id page = option_map_or (λ r. r.execute && r.guarded) (file.records id page) false

-- the least number of a shared region that may write the page
abbrev pub writer : PlainFile → ℕ → Option ℕ
writer file page =
    reduce min (map (λ region. region.id) (filter (λ region. region.shared && may_write file region.id page) file.regions))

-- ---- resident pages

abbrev pub is_page : ℕ → Resident → Bool
is_page page resident = resident.page == page

-- the page is resident
abbrev pub is_resident : PlainFile → ℕ → Bool
is_resident file page = is_some (find (is_page page) file.residents)

-- the page is resident and dirty
abbrev pub is_dirty : PlainFile → ℕ → Bool
is_dirty file page = option_map_or (λ resident. resident.dirty) (find (is_page page) file.residents) false

-- ---- the opening

-- a file of these pages and this layout that nobody has mapped yet
abbrev pub opened : ℕ → ℕ → ℕ → List (List ℕ) → Layout → PlainFile
opened page_size length limit pages layout = record {
  page_size = page_size;
  length = length;
  limit = limit;
  pages = pages;
  layout = layout;
  blobs = [];
  regions = [];
  records = λ id page. None;
  copies = λ id page. None;
  residents = [];
}
