-- What a run of scripts one after another gives.
use Rattle.std.specs.Prelude.{◌≡◌, List}
use Rattle.pg_digest.specs.Kinds.{Hash}
use Rattle.cs_policy.specs.declared.call.Call.{Call}
use Rattle.pg_history.specs.Machine.{Line}
use Rattle.pg_history.specs.Opening.{Opening}
use Rattle.pg_history.specs.Legal.{Legal}
use Rattle.pg_history.specs.Solo.{solo}
use Rattle.pg_history.specs.Sealing.{KeptThroughout, SealedThroughout}
use Rattle.pg_history.specs.Denials.{DenialsAreVerdicts}

-- The history is legal, at the opening and after each of its entries every file keeps what files keep and the sealing
-- stands, and each denial states the first rule that was broken.
pub record IsSound (hash : Hash) (o : Opening) (scripts : List (List Call)) (history : List Line) : Type 0 where
  pub legal : Legal hash o scripts history
  pub kept : KeptThroughout hash o history
  pub is_sealed : SealedThroughout hash o history
  pub denials : DenialsAreVerdicts hash o history

-- It is the one in which the entries of each script stand before those of the next.
pub record RunsSolo (hash : Hash) (o : Opening) (scripts : List (List Call)) (history : List Line) : Type 0 where
  pub is_solo : history ≡ solo hash o scripts
  pub sound : IsSound hash o scripts history
