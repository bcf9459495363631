-- The workers of a run, one for each pass. Each plays the script of its number.
use Rattle.std.specs.Prelude.{ℕ, ◌≡◌, ◌<◌, ◌^◌, true, List, length, All, Some}
use Rattle.pg_digest.specs.Kinds.{Hash}
use Rattle.cs_policy.specs.declared.call.Call.{Call}
use Rattle.cs_policy.specs.declared.entry.Entry.{Entry}
use Rattle.cs_policy.specs.declared.entry.Place.{Place}
use Rattle.pg_book.specs.Models.{PassOf}
use Rattle.pg_history.specs.Legal.{Scripted, script_at}
use Rattle.pg_calls.specs.Calls.{IsDeclared}
use Rattle.pg_calls.specs.Room.{Within, IsPlaceIn, given_to}
use Rattle.pg_calls.specs.Scripts.{calls_use}
use Rattle.pg_parts.specs.Opened.{numbers_in}
use Rattle.pg_shared.specs.Plan.{Plan}
use Rattle.pg_shared.specs.Drawn.{drawn_by}
use Rattle.pg_shared.specs.Passes.{IsPassOf}
use Rattle.pg_shared.specs.Opening.{IsNewPassOf}
use Rattle.scene_threads.specs.declared.worker.Worker.{Worker}

-- The scripts name what is declared, and each worker may use of each part what its script may use.
pub record MayPlay (plan : Plan) (scripts : List (List Call)) : Type 0 where
  pub workers : length plan.start.needs < 2 ^ 32
  pub few : (number : ℕ) → length (script_at scripts number) < 2 ^ 32
  pub declared : (number : ℕ) → All (IsDeclared (numbers_in plan.start)) (script_at scripts number)
  pub room : (number : ℕ) (at : Place) → number < length plan.start.needs → IsPlaceIn (numbers_in plan.start) at
      → Within (calls_use (script_at scripts number) at) (given_to (numbers_in plan.start) plan.start.needs number at)

-- what the pass drew are the entries of this script, each call's once and complete, in the order of the calls
pub record HasPlayed (hash : Hash) (plan : Plan) (number : ℕ) (script : List Call) (pass : PassOf Entry) : Type 0 where
  pub is_pass : IsPassOf plan number pass
  pub scripted : Scripted hash (numbers_in plan.start) number 0 script (drawn_by pass)

-- the worker has its pass, by which nothing was drawn yet
pub record IsIdle (plan : Plan) (number : ℕ) (worker : Worker) : Type 0 where
  pub pass : PassOf Entry
  pub has : worker.pass ≡ Some pass
  pub new : IsNewPassOf plan number pass

-- the worker has its pass, and where its script was not broken off, it played that
pub record IsDone (hash : Hash) (plan : Plan) (scripts : List (List Call)) (number : ℕ) (worker : Worker) : Type 0 where
  pub pass : PassOf Entry
  pub has : worker.pass ≡ Some pass
  pub is_pass : IsPassOf plan number pass
  pub played : worker.played ≡ true → HasPlayed hash plan number (script_at scripts number) pass

-- the same of the script of its number
abbrev pub HasPlayedAt : Hash → Plan → List (List Call) → ℕ → PassOf Entry → Type 0
HasPlayedAt hash plan scripts number pass = HasPlayed hash plan number (script_at scripts number) pass
