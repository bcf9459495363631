use Rattle.pg_parts.proofs.ActFacts.{calls_are_steps}
use Rattle.pg_parts.proofs.laws.told_calls_are_steps.Goals as goal

pub returns : goal.returns
returns c = calls_are_steps
