use Rattle.cs_policy.proofs.FlagFacts.{guarded-with_debugged, guarded-with_valid, guarded-without_valid, guarded-with_killed}
use Rattle.cs_policy.proofs.laws.flags_guard.Goals as goal

pub returns : goal.returns
returns c = λ f. record {
  debugged = guarded-with_debugged f;
  valid_set = guarded-with_valid f;
  valid_cleared = guarded-without_valid f;
  killed = guarded-with_killed f;
}
