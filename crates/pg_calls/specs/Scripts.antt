-- What the calls of a script add.
use Rattle.std.specs.Prelude.{ℕ, ◌≡◌, List, [], ◌∷◌, ◌++◌, All}
use Rattle.pg_book.specs.declared.needs.Needs.{Needs}
use Rattle.pg_book.specs.Needs.{nothing_needed}
use Rattle.pg_digest.specs.Kinds.{Hash}
use Rattle.cs_policy.specs.declared.entry.Place.{Place}
use Rattle.cs_policy.specs.declared.entry.Reply.{Reply}
use Rattle.cs_policy.specs.declared.entry.Who.{Who}
use Rattle.cs_policy.specs.declared.call.Call.{Call}
use Rattle.pg_history.specs.Machine.{Line}
use Rattle.pg_history.specs.Opening.{Numbers}
use Rattle.pg_history.specs.Legal.{Scripted, AgreesIn}
use Rattle.pg_calls.specs.Room.{plus, Within, IsPlaceIn, used_by, given_to, call_uses}
use Rattle.pg_calls.specs.Parts.{PartsNow}
use Rattle.pg_calls.specs.Calls.{Enters}

-- the call was made, with some answer
pub record IsMade (hash : Hash) (c : Call) (who : Who) (old new : PartsNow) : Type 0 where
  pub answer : Reply
  pub enters : Enters hash c who old answer new

-- what calls may use of a part
abbrev pub calls_use : List Call → Place → Needs
calls_use [] at = nothing_needed
calls_use (c ∷ cs) at = plus (call_uses c at) (calls_use cs at)

-- What the worker has used of each part, and what the calls may use, is no more than it may use of it.
abbrev pub HasRoomForAll : PartsNow → ℕ → List Call → Type 0
HasRoomForAll now worker calls = (at : Place) → IsPlaceIn now.numbers at
    → Within (plus (used_by worker at now.made) (calls_use calls at)) (given_to now.numbers now.needs worker at)

-- the entry is of the worker, and agrees with its place
pub record IsBy (numbers : Numbers) (worker : ℕ) (e : Line) : Type 0 where
  pub by_whom : e.entry.who.worker ≡ worker
  pub agrees : AgreesIn numbers e

-- The script was played: its calls were made, each once and complete, in their order, and nothing else.
pub record Plays (hash : Hash) (worker : ℕ) (script : List Call) (old new : PartsNow) : Type 0 where
  pub own : List Line
  pub made : new ≡ record old { made = old.made ++ own }
  pub scripted : Scripted hash old.numbers worker 0 script own
  pub by_worker : All (IsBy old.numbers worker) own
