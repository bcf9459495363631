-- What a call adds to the entries of its worker.
use Rattle.std.specs.Prelude.{◌≡◌, ◌%◌, ◌<◌, ◌≤◌, Bool, true, false, not, List, [], ◌∷◌, ◌++◌, length, filter, All, Option, Some, None}
use Rattle.std.specs.Option.{option_map}
use Rattle.pg_digest.specs.Kinds.{Hash}
use Rattle.cs_policy.specs.declared.file.FileEvent.TheVariants as file
use Rattle.cs_policy.specs.declared.process.ProcEvent.TheVariants as process
use Rattle.cs_policy.specs.declared.entry.Event.{Event}
use Rattle.cs_policy.specs.declared.entry.Event.TheVariants as event
use Rattle.cs_policy.specs.declared.entry.Reply.{Reply}
use Rattle.cs_policy.specs.declared.entry.Place.{Place}
use Rattle.cs_policy.specs.declared.entry.Who.{Who}
use Rattle.cs_policy.specs.declared.call.Call.{Call}
use Rattle.cs_policy.specs.declared.call.Call.TheVariants as call
use Rattle.cs_policy.specs.Entry.{part_number}
use Rattle.pg_history.specs.Machine.{Line}
use Rattle.pg_history.specs.Opening.{Numbers}
use Rattle.pg_history.specs.Calls.{next_event}
use Rattle.pg_history.specs.Legal.{Follows}
use Rattle.pg_calls.specs.Room.{plus, Within, IsPlaceIn, used_by, given_to, call_uses}
use Rattle.pg_calls.specs.Parts.{PartsNow}
use Rattle.pg_calls.specs.Asking.{StaysInPage}

-- ---- what a call may name

-- The processes, files and caches that a call names are declared, at least one page is mapped, and bytes stay in their page.
abbrev pub IsDeclared : Numbers → Call → Type 0
IsDeclared numbers (call.Spawn pid) = pid < numbers.processes
IsDeclared numbers (call.Map pid addr number first pages prot shared) =
    (pid < numbers.processes) × (number < length numbers.files) × (0 < pages)
IsDeclared numbers (call.Unmap pid addr) = pid < numbers.processes
IsDeclared numbers (call.Attach number slice) = number < length numbers.files
IsDeclared numbers (call.LoadTrust cache) = cache < numbers.caches
IsDeclared numbers (call.Fault pid addr access) = pid < numbers.processes
IsDeclared numbers (call.Store pid addr bytes) =
    (pid < numbers.processes) × StaysInPage numbers.page_size (addr % numbers.page_size) (length bytes)
IsDeclared numbers (call.Load pid addr count) =
    (pid < numbers.processes) × StaysInPage numbers.page_size (addr % numbers.page_size) count
IsDeclared numbers (call.Fetch pid addr count) =
    (pid < numbers.processes) × StaysInPage numbers.page_size (addr % numbers.page_size) count
IsDeclared numbers (call.Write number at piece) = number < length numbers.files
IsDeclared numbers (call.Evict number page) = number < length numbers.files
IsDeclared numbers (call.Debug pid) = pid < numbers.processes
IsDeclared numbers (call.Exit pid) = pid < numbers.processes

-- What the worker has used of each part, and what the call may use, is no more than it may use of it.
abbrev pub HasRoomFor : PartsNow → Who → Call → Type 0
HasRoomFor now who c = (at : Place) → IsPlaceIn now.numbers at
    → Within (plus (used_by who.worker at now.made) (call_uses c at)) (given_to now.numbers now.needs who.worker at)

-- ---- what a call answers

-- a consequence of the reply before it, which the call does not answer
abbrev pub is_consequence : Event → Bool
is_consequence (event.File (file.DropPid pid)) = true
is_consequence (event.Proc process.Punish) = true
is_consequence (event.Proc process.ClearValid) = true
is_consequence _ = false

abbrev pub last_of : List Line → Option Line
last_of [] = None
last_of (e ∷ []) = Some e
last_of (e ∷ es) = last_of es

-- the reply to the last event that is no consequence of another
abbrev pub answer_of : List Line → Option Reply
answer_of own = option_map (λ e. e.entry.reply) (last_of (filter (λ e. not (is_consequence e.entry.event)) own))

-- ---- what a call adds

-- the entry is of the call, and agrees with its place
pub record IsOf (numbers : Numbers) (who : Who) (e : Line) : Type 0 where
  pub by_whom : e.entry.who ≡ who
  pub part : e.part ≡ part_number (length numbers.files) numbers.processes e.entry.place
  pub caller : e.caller ≡ who.worker

-- entries of a call were made, one after another
pub record Adds (who : Who) (old : PartsNow) (own : List Line) (new : PartsNow) : Type 0 where
  pub made : new ≡ record old { made = old.made ++ own }
  pub of_call : All (IsOf old.numbers who) own

-- The call was made: its entries are complete, and it used of each part no more than it may.
pub record Enters (hash : Hash) (c : Call) (who : Who) (old : PartsNow) (answer : Reply) (new : PartsNow) : Type 0 where
  pub own : List Line
  pub adds : Adds who old own new
  pub follows : Follows hash old.numbers c [] own
  pub answers : answer_of own ≡ Some answer
  pub room : (at : Place) → Within (used_by who.worker at own) (call_uses c at)

-- the entries are the events that the call makes after those, as far as it goes
abbrev pub Begins : Hash → Numbers → Call → List Line → List Line → Type 0
Begins hash numbers c made [] = Unit {0}
Begins hash numbers c made (e ∷ es) =
    (next_event hash numbers c made ≡ Some (e.entry.place, e.entry.event)) × Begins hash numbers c (made ++ e ∷ []) es

-- The call was broken off: it made its first entry, or none.
pub record BreaksOff (hash : Hash) (c : Call) (who : Who) (old new : PartsNow) : Type 0 where
  pub own : List Line
  pub adds : Adds who old own new
  pub begins : Begins hash old.numbers c [] own
  pub few : length own ≤ 1
