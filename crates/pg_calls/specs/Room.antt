-- How much of the room of a part entries use, and how much a call may use.
--
-- Room of a part is taken before the run and shared out to the workers. What a worker has used of a part, and what an event
-- uses besides, stay within what it was given of that part.
use Rattle.std.specs.Prelude.{ℕ, ◌≤◌, ◌<◌, ◌+◌, ◌==◌, ◌&&◌, Bool, true, false, List, [], ◌∷◌, length, slice_index_or, if◌then◌else◌}
use Rattle.pg_book.specs.declared.needs.Needs.{Needs}
use Rattle.pg_book.specs.Needs.{nothing_needed}
use Rattle.cs_policy.specs.declared.access.Access.{Access}
use Rattle.cs_policy.specs.declared.access.Access.TheVariants.{Read, Write, Execute}
use Rattle.cs_policy.specs.declared.file.FileEvent.{FileEvent}
use Rattle.cs_policy.specs.declared.file.FileEvent.TheVariants as file
use Rattle.cs_policy.specs.declared.process.ProcEvent.{ProcEvent}
use Rattle.cs_policy.specs.declared.process.ProcEvent.TheVariants as process
use Rattle.cs_policy.specs.declared.entry.Event.{Event}
use Rattle.cs_policy.specs.declared.entry.Event.TheVariants as event
use Rattle.cs_policy.specs.declared.entry.Place.{Place}
use Rattle.cs_policy.specs.declared.entry.Place.TheVariants as place
use Rattle.cs_policy.specs.declared.call.Call.{Call}
use Rattle.cs_policy.specs.declared.call.Call.TheVariants as call
use Rattle.cs_policy.specs.Entry.{part_number}
use Rattle.pg_history.specs.Machine.{Line}
use Rattle.pg_history.specs.Opening.{Numbers}
use Rattle.pg_history.specs.ByParts.{is_at}

-- room of each kind, and twice so
abbrev pub plus : Needs → Needs → Needs
plus one other = record {
  entries = one.entries + other.entries;
  regions = one.regions + other.regions;
  records = one.records + other.records;
  copies = one.copies + other.copies;
  blobs = one.blobs + other.blobs;
  numbers = one.numbers + other.numbers;
}

-- no more of any kind
pub record Within (one other : Needs) : Type 0 where
  pub entries : one.entries ≤ other.entries
  pub regions : one.regions ≤ other.regions
  pub records : one.records ≤ other.records
  pub copies : one.copies ≤ other.copies
  pub blobs : one.blobs ≤ other.blobs
  pub numbers : one.numbers ≤ other.numbers

-- the place is that of a part which the opening has
abbrev pub IsPlaceIn : Numbers → Place → Type 0
IsPlaceIn numbers (place.File number) = number < length numbers.files
IsPlaceIn numbers (place.Process pid) = pid < numbers.processes
IsPlaceIn numbers place.Trust = Unit {0}

-- ---- what an event uses of its part

abbrev pub one_entry : Needs
one_entry = record nothing_needed { entries = 1 }

-- a fault uses a record, and for a write a private copy besides
abbrev pub fault_uses : Access → Needs
fault_uses Read = record one_entry { records = 1 }
fault_uses Write = record one_entry { records = 1; copies = 1 }
fault_uses Execute = record one_entry { records = 1 }

abbrev pub file_uses : FileEvent → Needs
file_uses (file.AddRegion region insert) = record one_entry { regions = 1 }
file_uses (file.AddBlob slice cdhash read lookup) = record one_entry { blobs = 1 }
file_uses (file.Enter id page access flags resolve) = fault_uses access
file_uses other = one_entry

abbrev pub process_uses : ProcEvent → Needs
process_uses (process.Insert at number file_pages first pages prot shared) = record one_entry { numbers = 1 }
process_uses other = one_entry

abbrev pub event_uses : Event → Needs
event_uses (event.File e) = file_uses e
event_uses (event.Proc e) = process_uses e
event_uses (event.Trust e) = one_entry

-- what a worker has used of a part
abbrev pub used_by : ℕ → Place → List Line → Needs
used_by worker at [] = nothing_needed
used_by worker at (e ∷ es) =
    if e.entry.who.worker == worker && is_at at e.entry.place then plus (event_uses e.entry.event) (used_by worker at es)
    else used_by worker at es

-- what a worker may use of it
abbrev pub given_to : Numbers → List (List Needs) → ℕ → Place → Needs
given_to numbers needs worker at =
    slice_index_or (slice_index_or needs worker []) (part_number (length numbers.files) numbers.processes at) nothing_needed

-- ---- what a call may use of a part

-- where an event of a call happens: at a part that the call names, or at a file that is known only when the call runs
pub data Where : Type 0 where
  At : Place → Where
  AtSomeFile : Where

abbrev pub is_within : Where → Place → Bool
is_within (At place) other = is_at place other
is_within AtSomeFile (place.File number) = true
is_within AtSomeFile (place.Process pid) = false
is_within AtSomeFile place.Trust = false

-- what one event of a call uses at most, and where; an event at some file is counted at every file
pub record Use : Type 0 where
  pub where_it_is : Where
  pub uses : Needs

abbrev pub use_at : Place → Use → Needs
use_at at one = if is_within one.where_it_is at then one.uses else nothing_needed

abbrev pub uses_at : Place → List Use → Needs
uses_at at [] = nothing_needed
uses_at at (one ∷ others) = plus (use_at at one) (uses_at at others)

abbrev pub at_process : ℕ → Needs → Use
at_process pid uses = record { where_it_is = At (place.Process pid); uses = uses }

abbrev pub at_file : ℕ → Needs → Use
at_file number uses = record { where_it_is = At (place.File number); uses = uses }

abbrev pub at_trust : Use
at_trust = record { where_it_is = At place.Trust; uses = one_entry }

abbrev pub at_some_file : Needs → Use
at_some_file uses = record { where_it_is = AtSomeFile; uses = uses }

-- The events of a call, at most; the events of an exit at its files, one a file, are counted as one at every file.
abbrev pub uses_of : Call → List Use
uses_of (call.Spawn pid) = at_process pid one_entry ∷ []
uses_of (call.Map pid addr number first pages prot shared) =
    at_process pid (record one_entry { numbers = 1 }) ∷ at_file number (record one_entry { regions = 1 }) ∷ []
uses_of (call.Unmap pid addr) = at_process pid one_entry ∷ at_some_file one_entry ∷ []
uses_of (call.Attach number slice) =
    at_file number one_entry ∷ at_trust ∷ at_file number (record one_entry { blobs = 1 }) ∷ []
uses_of (call.LoadTrust cache) = at_trust ∷ []
uses_of (call.Fault pid addr access) =
    at_process pid one_entry ∷ at_some_file (fault_uses access) ∷ at_process pid one_entry ∷ []
uses_of (call.Store pid addr bytes) = at_process pid one_entry ∷ at_some_file one_entry ∷ []
uses_of (call.Load pid addr count) = at_process pid one_entry ∷ at_some_file one_entry ∷ []
uses_of (call.Fetch pid addr count) = at_process pid one_entry ∷ at_some_file one_entry ∷ []
uses_of (call.Write number at piece) = at_file number one_entry ∷ []
uses_of (call.Evict number page) = at_file number one_entry ∷ []
uses_of (call.Debug pid) = at_process pid one_entry ∷ []
uses_of (call.Exit pid) = at_process pid one_entry ∷ at_some_file one_entry ∷ []

abbrev pub call_uses : Call → Place → Needs
call_uses c at = uses_at at (uses_of c)
