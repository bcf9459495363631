-- Laws of parts over any events.
use Rattle.std.specs.Prelude.{ℕ, ◌≡◌, ◌<◌, List, length, Option, Some}
use Rattle.std.specs.List.{AllByRecursion}
use Rattle.pg_digest.specs.Kinds.{Hash}
use Rattle.pg_book.specs.declared.needs.Needs.{Needs}
use Rattle.cs_policy.specs.declared.file.FileEvent.{FileEvent}
use Rattle.cs_policy.specs.declared.file.FileReply.{FileReply}
use Rattle.cs_policy.specs.declared.entry.Place.{Place}
use Rattle.cs_policy.specs.Entry.{part_number}
use Rattle.cs_blob.specs.Signature.{Signature}
use Rattle.pg_object.specs.Object.{ObjectNow}
use Rattle.pg_object.specs.Acts.{Acts}
use Rattle.pg_history.specs.Machine.{Line, Reading, FilePart, blob_of, part_step}
use Rattle.pg_history.specs.Opening.{Numbers}
use Rattle.pg_history.specs.ByParts.{entries_at}
use Rattle.pg_calls.specs.Room.{Within, used_by, given_to}
use Rattle.pg_parts.specs.Rooms.{part_needs, uses_in}
use Rattle.pg_parts.specs.Opened.{told_part}

-- What was told of a file has stepped by the event.
pub record StepsTold (hash : Hash) (stamp : ℕ) (part : FilePart) (e : FileEvent) (answer : FileReply) (new : ObjectNow) : Type 0 where
  pub answers : answer ≡ (part_step hash stamp part e).0
  pub is : told_part new (part_step hash stamp part e).1.readings ≡ Some (part_step hash stamp part e).1

-- a call of an object whose pager tells is the step of the part that is told, and the part is told after it
abbrev pub ToldCallsAreSteps : Type 0
ToldCallsAreSteps = (hash : Hash) (old new : ObjectNow) (e : FileEvent) (blob : Option Signature) (answer : FileReply) (stamp : ℕ)
    (readings : List Reading) (part : FilePart) → Acts hash old e blob answer new → told_part old readings ≡ Some part
    → blob ≡ blob_of hash part e → StepsTold hash stamp part e answer new

-- where no worker has used more of a part than it may, all together have used no more of it than all may
abbrev pub SharesAreEnough : Type 0
SharesAreEnough = (numbers : Numbers) (needs : List (List Needs)) (at : Place) (history : List Line)
    → AllByRecursion (λ e. e.entry.who.worker < length needs) history
    → ((worker : ℕ) → Within (used_by worker at history) (given_to numbers needs worker at))
    → Within (uses_in (entries_at at history)) (part_needs needs (part_number (length numbers.files) numbers.processes at))
