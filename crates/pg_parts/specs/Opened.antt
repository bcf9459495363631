-- The parts of a machine as they are held without locks, and what is asked of them where a run opens.
use Rattle.std.specs.Prelude.{ℕ, ◌≡◌, ◌+◌, ◌<◌, ◌≤◌, ◌^◌, Bool, List, [], ◌∷◌, length, map, slice_get, Option, Some, IfSome}
use Rattle.std.specs.Option.{option_map, option_and_then}
use Rattle.pg_bytes.specs.PageSize.{IsPageSize}
use Rattle.pg_digest.specs.Kinds.{Hash}
use Rattle.pg_book.specs.declared.needs.Needs.{Needs}
use Rattle.pg_book.specs.Needs.{all_entries}
use Rattle.cs_policy.specs.declared.entry.Place.{Place}
use Rattle.cs_policy.specs.declared.entry.Place.TheVariants as place
use Rattle.cs_policy.specs.Entry.{part_number}
use Rattle.pg_cache.specs.Contents.{overlaid}
use Rattle.pg_regions.specs.RegionsNow.{spare}
use Rattle.pg_plain.specs.PlainFile.{opened}
use Rattle.pg_object.specs.Object.{ObjectNow, seen}
use Rattle.pg_object.specs.Kept.{IsKept}
use Rattle.pg_process.specs.ProcessStep.{PlainProcess, fresh}
use Rattle.pg_trusted.specs.TrustStep.{TrustList}
use Rattle.pg_history.specs.Machine.{Reading, FilePart}
use Rattle.pg_history.specs.Opening.{Opening, Numbers}
use Rattle.pg_parts.specs.Rooms.{part_needs}

-- The files and the processes by their numbers, and the trust list.
pub record OpenedNow : Type 0 where
  -- how many bytes a page has
  pub page_size : ℕ
  -- whether the policy lets ad hoc signatures be attached that no trust cache lists
  pub adhoc : Bool
  pub files : List ObjectNow
  pub processes : List PlainProcess
  pub trust : TrustList
  -- what each worker may use of each part
  pub needs : List (List Needs)

-- the numbers that calls go by
abbrev pub numbers_in : OpenedNow → Numbers
numbers_in now = record {
  page_size = now.page_size;
  adhoc = now.adhoc;
  files = map (λ object. record { pages = object.pages.cache.pager.pages; layout = object.layout }) now.files;
  processes = length now.processes;
  caches = length now.trust.caches;
}

-- ---- what the pagers tell

-- the file with its pager, where that tells its content; these signatures were read of it
abbrev pub told_part : ObjectNow → List Reading → Option FilePart
told_part now readings = option_map (λ told. record {
  file = seen now (overlaid now.pages.cache.held 0 told.holds);
  made = told.made;
  fails = told.fails;
  readings = readings;
}) now.pages.cache.pager.told

-- all of them, where each pager tells; none was read of yet
abbrev pub told_parts : List ObjectNow → Option (List FilePart)
told_parts [] = Some []
told_parts (object ∷ objects) =
    option_and_then (λ part. option_map (λ parts. part ∷ parts) (told_parts objects)) (told_part object [])

-- what a run starts from, where the pagers of all files tell
abbrev pub opening_in : OpenedNow → Option Opening
opening_in now = option_map (λ files. record {
  page_size = now.page_size;
  adhoc = now.adhoc;
  machine = record { files = files; processes = now.processes; trust = now.trust };
}) (told_parts now.files)

-- ---- room

-- what all workers may use of the part at a place
abbrev pub needs_at : OpenedNow → Place → Needs
needs_at now at = part_needs now.needs (part_number (length now.files) (length now.processes) at)

-- The file has room for so many more regions, records, private copies and attached signatures.
pub record HasSpare (object : ObjectNow) (needs : Needs) : Type 0 where
  pub regions : needs.regions ≤ (spare object.regions).regions
  pub records : needs.records ≤ (spare object.regions).records
  pub copies : needs.copies ≤ (spare object.regions).copies
  pub blobs : length object.blobs + needs.blobs ≤ 64

-- The process has so many numbers for regions left.
abbrev pub HasNumbers : PlainProcess → Needs → Type 0
HasNumbers p needs = p.made + needs.numbers ≤ 4096

-- ---- the opening

-- Nobody has mapped the file, and its pager has made no call, where that is told.
pub record IsFreshFile (hash : Hash) (size : ℕ) (object : ObjectNow) : Type 0 where
  pub kept : IsKept hash object
  pub plain : (pages : List (List ℕ)) → seen object pages ≡ opened size object.length object.pages.cache.limit pages object.layout
  pub uncalled : IfSome object.pages.cache.pager.told (λ told. told.made ≡ 0)

-- The parts were just opened: nobody has mapped a file, started a process or loaded a trust cache. Each part has room for
-- all that the workers may use of it.
pub record IsOpenable (hash : Hash) (now : OpenedNow) : Type 0 where
  pub known : IsPageSize now.page_size
  pub few_files : length now.files ≤ 16
  pub few_processes : length now.processes ≤ 64
  pub files : (number : ℕ) (object : ObjectNow) → slice_get now.files number ≡ Some object → IsFreshFile hash now.page_size object
  pub spare : (number : ℕ) (object : ObjectNow) → slice_get now.files number ≡ Some object
      → HasSpare object (needs_at now (place.File number))
  -- each process has its place as its number
  pub processes : (number : ℕ) (p : PlainProcess) → slice_get now.processes number ≡ Some p
      → p ≡ fresh number p.declared now.page_size
  pub numbers : (number : ℕ) (p : PlainProcess) → slice_get now.processes number ≡ Some p
      → HasNumbers p (needs_at now (place.Process number))
  pub unloaded : now.trust.loaded ≡ []
  pub entries : all_entries now.needs < 2 ^ 63
