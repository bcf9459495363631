use Rattle.std.proofs.Common.{◌≤◌}
use Rattle.pg_process.proofs.tests.fills_up.Given as goal

abbrev pub invariant-loop-id : goal.invariant-loop-id
invariant-loop-id g l = l.process.made ≤ l.id
