-- A machine before its first event, and the numbers of it that calls go by.
use Rattle.std.specs.Prelude.{ℕ, ◌≡◌, ◌<◌, Bool, IsTrue, List, [], length, map, slice_get, Option, Some, None}
use Rattle.std.specs.Option.{option_map_or, option_and_then}
use Rattle.pg_bytes.specs.PageSize.{is_page_size}
use Rattle.pg_bytes.specs.declared.fields.Range.{Range}
use Rattle.cs_policy.specs.declared.layout.Layout.{Layout}
use Rattle.pg_plain.specs.PlainFile.{opened}
use Rattle.pg_process.specs.ProcessStep.{PlainProcess, fresh}
pub use Rattle.pg_plain.specs.Slices.{seat_in}
use Rattle.pg_history.specs.Machine.{FilePart, Machine, signed_range}

-- What a run starts from: the size of a page, whether the scene's policy lets ad hoc signatures be attached that no trust
-- cache lists, and the machine.
pub record Opening : Type 0 where
  pub page_size : ℕ
  pub adhoc : Bool
  pub machine : Machine

-- a file that nobody has mapped, whose pager has made no call
pub record IsFresh (size : ℕ) (part : FilePart) : Type 0 where
  pub file : part.file ≡ opened size part.file.length part.file.limit part.file.pages part.file.layout
  pub some : 0 < part.file.limit
  pub unread : part.readings ≡ []
  pub uncalled : part.made ≡ 0

pub record IsOpening (o : Opening) : Type 0 where
  pub known : IsTrue (is_page_size o.page_size)
  -- nobody has mapped a file
  pub files : (number : ℕ) (part : FilePart) → slice_get o.machine.files number ≡ Some part → IsFresh o.page_size part
  -- no process was started, and each has its place as its number
  pub processes : (number : ℕ) (p : PlainProcess) → slice_get o.machine.processes number ≡ Some p
      → p ≡ fresh number p.declared o.page_size
  -- no trust cache is loaded
  pub unloaded : o.machine.trust.loaded ≡ []

-- ---- the numbers of an opening

-- how many pages a file has, and where its slices lie
pub record FileNumbers : Type 0 where
  pub pages : ℕ
  pub layout : Layout

pub record Numbers : Type 0 where
  pub page_size : ℕ
  pub adhoc : Bool
  pub files : List FileNumbers
  pub processes : ℕ
  pub caches : ℕ

abbrev pub numbers_of : Opening → Numbers
numbers_of o = record {
  page_size = o.page_size;
  adhoc = o.adhoc;
  files = map (λ part. record { pages = length part.file.pages; layout = part.file.layout }) o.machine.files;
  processes = length o.machine.processes;
  caches = length o.machine.trust.caches;
}

-- the number of pages of a file, 0 where there is no such file
abbrev pub pages_of : Numbers → ℕ → ℕ
pages_of numbers file = option_map_or (λ known. known.pages) (slice_get numbers.files file) 0

-- the range of a slice of a file, where the file has such a slice that is a signed image
abbrev pub range_of : Numbers → ℕ → ℕ → Option Range
range_of numbers file slice =
    signed_range (option_and_then (λ known. seat_in slice known.layout) (slice_get numbers.files file))
