use Rattle.std.proofs.Common.{◌≡◌}
use Rattle.pg_regions.specs.RegionsNow.{empty}
use Rattle.pg_regions.proofs.tests.comes_and_goes.Given as goal

abbrev pub invariant-loop : goal.invariant-loop
invariant-loop g l = l.regions ≡ empty l.page 1 1 1
