use Rattle.std.proofs.Common.{◌≡◌, ◌+◌, ◌≤◌}
use Rattle.pg_regions.specs.RegionsNow.{spare}
use Rattle.pg_regions.proofs.tests.two_processes_map_a_file.Given as goal

-- each call so far has taken at most one of each
abbrev pub invariant-loop-call : goal.invariant-loop-call
invariant-loop-call g l = record {
  size : l.regions.page ≡ 4096;
  regions : 26 ≤ (spare l.regions).regions + l.call-index;
  records : 26 ≤ (spare l.regions).records + l.call-index;
  copies : 26 ≤ (spare l.regions).copies + l.call-index;
}
