-- A part after entries of its own: what it answered to each, and what it is then.
use Rattle.std.specs.Prelude.{ℕ, ◌≡◌, ◌+◌, ◌<◌, ◌≤◌, List, [], ◌∷◌, length, Some, IfSome, unwrap_or}
use Rattle.std.specs.List.{AllByRecursion}
use Rattle.std.specs.Option.{option_map}
use Rattle.pg_digest.specs.Kinds.{Hash}
use Rattle.pg_book.specs.declared.needs.Needs.{Needs}
use Rattle.pg_cache.specs.Cache.{KeepsSizes}
use Rattle.pg_regions.specs.RegionsNow.{spare}
use Rattle.pg_object.specs.Object.{ObjectNow}
use Rattle.pg_object.specs.Kept.{IsKept}
use Rattle.pg_process.specs.ProcessStep.{PlainProcess}
use Rattle.pg_trusted.specs.TrustStep.{TrustList}
use Rattle.pg_history.specs.Machine.{Line, FilePart}
use Rattle.pg_history.specs.ByParts.{file_answer, process_answer, trust_answer, FileAnswers, ProcessAnswers, TrustAnswers}
use Rattle.pg_parts.specs.Opened.{told_part}
use Rattle.pg_parts.specs.Rooms.{uses_in}

-- ---- what a part is after entries

abbrev pub file_after : Hash → FilePart → List Line → FilePart
file_after hash part [] = part
file_after hash part (e ∷ es) = file_after hash (unwrap_or (option_map (λ a. a.1) (file_answer hash part e.stamp e.entry.event)) part) es

abbrev pub process_after : PlainProcess → List Line → PlainProcess
process_after p [] = p
process_after p (e ∷ es) = process_after (unwrap_or (option_map (λ a. a.1) (process_answer p e.entry.event)) p) es

abbrev pub trust_after : TrustList → List Line → TrustList
trust_after list [] = list
trust_after list (e ∷ es) = trust_after (unwrap_or (option_map (λ a. a.1) (trust_answer list e.entry.event)) list) es

-- ---- a file

-- of the room that was left, all but this is left still
pub record LeavesSpare (used : Needs) (old new : ObjectNow) : Type 0 where
  pub regions : (spare old.regions).regions ≤ (spare new.regions).regions + used.regions
  pub records : (spare old.regions).records ≤ (spare new.regions).records + used.records
  pub copies : (spare old.regions).copies ≤ (spare new.regions).copies + used.copies
  pub blobs : length new.blobs ≤ length old.blobs + used.blobs

-- A file that told its content answered these entries, and is what they leave.
pub record TellsOn (hash : Hash) (part : FilePart) (entries : List Line) (now : ObjectNow) : Type 0 where
  pub answers : FileAnswers hash part entries
  pub is : told_part now (file_after hash part entries).readings ≡ Some (file_after hash part entries)

-- The file has gone on by these entries.
pub record FileWent (hash : Hash) (old : ObjectNow) (entries : List Line) (now : ObjectNow) : Type 0 where
  pub kept : IsKept hash now
  pub sizes : KeepsSizes old.pages.cache now.pages.cache
  pub layout : now.layout ≡ old.layout
  pub spare : LeavesSpare (uses_in entries) old now
  -- where the pager told at the opening
  pub told : IfSome (told_part old []) (λ part. TellsOn hash part entries now)

-- ---- a process, and the trust list

-- The process has gone on by these entries. Its regions are of so many files.
pub record ProcessWent (files : ℕ) (old : PlainProcess) (entries : List Line) (now : PlainProcess) : Type 0 where
  pub answers : ProcessAnswers old entries
  pub is : process_after old entries ≡ now
  pub made : now.made ≤ old.made + (uses_in entries).numbers
  pub declared : AllByRecursion (λ m. m.file < files) now.regions

pub record TrustWent (old : TrustList) (entries : List Line) (now : TrustList) : Type 0 where
  pub answers : TrustAnswers old entries
  pub is : trust_after old entries ≡ now
  pub caches : now.caches ≡ old.caches
