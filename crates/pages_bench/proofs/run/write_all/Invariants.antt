use Rattle.std.proofs.Common.{◌≤◌}
use Rattle.pages_bench.proofs.run.write_all.Given as goal

abbrev pub invariant-loop-step : goal.invariant-loop-step
invariant-loop-step l = l.made ≤ l.step
