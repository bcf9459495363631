use Rattle.std.proofs.Common.{◌≤◌}
use Rattle.pages_bench.specs.Benched.{IsBenched}
use Rattle.pages_bench.proofs.run.check_all.Given as goal

abbrev pub invariant-loop-step : goal.invariant-loop-step
invariant-loop-step l = record {
  pages : IsBenched l.pages;
  count : l.checked ≤ l.step;
}
