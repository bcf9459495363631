use Rattle.std.proofs.Common.{◌+◌, ◌≤◌}
use Rattle.pg_regions.specs.RegionsNow.{spare}
use Rattle.object_bench.proofs.run.fault_each.Given as goal

abbrev pub invariant-loop-step : goal.invariant-loop-step
invariant-loop-step l = record {
  count : l.given ≤ l.step;
  room : (spare l.initial.object.regions).records ≤ (spare l.object.regions).records + l.step;
}
