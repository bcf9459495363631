use Rattle.std.proofs.Common.{length, ◌≡◌, ◌≤◌, ◌+◌, ◌-◌, ◌*◌, arith}
use Rattle.pg_bytes.proofs.CostFacts.{few_steps}
use Rattle.pg_regions.proofs.tests.place_of_three.Goals as goal

-- two to the power of the steps is at most 7
pub at_most-requires : goal.at_most-requires
at_most-requires g c =
    let none : c.open-steps.result ≡ 0 = c.open-steps.ensures in
    let few = few_steps 2 (c.place-place.new.steps - c.open-steps.result) (2 * length c.args.among.now.records + 1) c.place-place.ensures.cost (omega (arith, c.requires.three)) in
    omega arith
