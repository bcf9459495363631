-- A machine without locks: how it started, and what was made on it.
use Rattle.std.specs.Prelude.{ℕ, ◌≡◌, ◌<◌, List, length, slice_get, Some}
use Rattle.std.specs.List.{AllByRecursion}
use Rattle.pg_digest.specs.Kinds.{Hash}
use Rattle.cs_policy.specs.declared.entry.Place.{Place}
use Rattle.cs_policy.specs.declared.entry.Place.TheVariants as place
use Rattle.pg_object.specs.Object.{ObjectNow}
use Rattle.pg_process.specs.ProcessStep.{PlainProcess}
use Rattle.pg_history.specs.Machine.{Line}
use Rattle.pg_history.specs.Opening.{Opening, IsOpening, Numbers, numbers_of}
use Rattle.pg_history.specs.ByParts.{entries_at, AnsweredByParts}
use Rattle.pg_history.specs.Legal.{IsStamped, Agrees}
use Rattle.pg_calls.specs.Room.{Within, used_by, given_to, IsPlaceIn}
use Rattle.pg_calls.specs.Parts.{PartsNow}
use Rattle.pg_parts.specs.Opened.{OpenedNow, numbers_in, opening_in, IsOpenable}
use Rattle.pg_parts.specs.Replays.{FileWent, ProcessWent, TrustWent}

-- the parts as they were opened, and the entries that were made, one after another
pub record SoloNow : Type 0 where
  pub start : OpenedNow
  pub made : List Line

-- the same as calls see it
abbrev pub shown : SoloNow → PartsNow
shown now = record {
  numbers = numbers_in now.start;
  opening = opening_in now.start;
  needs = now.start.needs;
  made = now.made;
}

-- Each part has gone on by its own entries: it answered them, and is what they leave. Of a file the answers are known where
-- its pager told its content at the start.
pub record WentOn (hash : Hash) (start : OpenedNow) (history : List Line) (now : OpenedNow) : Type 0 where
  pub page_size : now.page_size ≡ start.page_size
  pub adhoc : now.adhoc ≡ start.adhoc
  pub needs : now.needs ≡ start.needs
  pub files_count : length now.files ≡ length start.files
  pub processes_count : length now.processes ≡ length start.processes
  pub files : (number : ℕ) (old new : ObjectNow) → slice_get start.files number ≡ Some old → slice_get now.files number ≡ Some new
      → FileWent hash old (entries_at (place.File number) history) new
  pub processes : (pid : ℕ) (old new : PlainProcess) → slice_get start.processes pid ≡ Some old → slice_get now.processes pid ≡ Some new
      → ProcessWent (length (numbers_in start).files) old (entries_at (place.Process pid) history) new
  pub trust : TrustWent start.trust (entries_at place.Trust history) now.trust

-- The machine answers the history part by part, from an opening with these numbers.
pub record IsAnswered (hash : Hash) (numbers : Numbers) (history : List Line) (o : Opening) : Type 0 where
  pub opening : IsOpening o
  pub same_numbers : numbers_of o ≡ numbers
  pub answered : AnsweredByParts hash o.machine history

-- What stands while calls are made: the parts were openable and have gone on by the entries, and no worker has used more
-- of a part than it may.
pub record IsRunning (hash : Hash) (start : OpenedNow) (history : List Line) (now : OpenedNow) : Type 0 where
  pub openable : IsOpenable hash start
  pub went : WentOn hash start history now
  pub stamps : IsStamped history
  pub agrees : Agrees (numbers_in start) history
  pub placed : AllByRecursion (λ e. IsPlaceIn (numbers_in start) e.entry.place) history
  pub workers : AllByRecursion (λ e. e.entry.who.worker < length start.needs) history
  pub within : (worker : ℕ) (at : Place) → Within (used_by worker at history) (given_to (numbers_in start) start.needs worker at)
