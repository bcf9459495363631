-- Scripts one after another.
use Rattle.std.specs.Prelude.{ℕ, ◌≡◌, ◌+◌, List, [], ◌∷◌, ◌++◌, All}
use Rattle.pg_digest.specs.Kinds.{Hash}
use Rattle.cs_policy.specs.declared.call.Call.{Call}
use Rattle.pg_history.specs.Machine.{Line}
use Rattle.pg_history.specs.Opening.{Numbers}
use Rattle.pg_history.specs.Legal.{Scripted}
use Rattle.pg_calls.specs.Parts.{PartsNow}
use Rattle.pg_calls.specs.Scripts.{IsBy}

-- the entries of the first of some scripts, which this worker plays, and those of the others
pub record Turn (hash : Hash) (numbers : Numbers) (worker : ℕ) (script : List Call) (es own others : List Line) : Type 0 where
  pub whole : es ≡ own ++ others
  pub scripted : Scripted hash numbers worker 0 script own
  pub by_worker : All (IsBy numbers worker) own

-- The entries are those of the scripts, one script after another. The first script's worker has this number.
abbrev pub InTurn : Hash → Numbers → ℕ → List (List Call) → List Line → Type 0
InTurn hash numbers worker [] es = es ≡ []
InTurn hash numbers worker (script ∷ scripts) es =
    (own : List Line) × (others : List Line) × Turn hash numbers worker script es own others
    × InTurn hash numbers (worker + 1) scripts others

-- The scripts were played, one after another: their entries were made, and nothing else.
pub record PlaysAll (hash : Hash) (scripts : List (List Call)) (old new : PartsNow) : Type 0 where
  pub own : List Line
  pub made : new ≡ record old { made = old.made ++ own }
  pub in_turn : InTurn hash old.numbers 0 scripts own
