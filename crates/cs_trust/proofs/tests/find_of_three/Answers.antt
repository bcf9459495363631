use Rattle.std.proofs.Common.{length, ◌≡◌, ◌+◌, ◌-◌, ◌*◌, arith}
use Rattle.cs_trust.proofs.HalfFacts.{few_steps}
use Rattle.cs_trust.proofs.tests.find_of_three.Goals as goal

-- two to the power of the steps is at most 7
pub at_most-requires : goal.at_most-requires
at_most-requires g c =
    let three : length c.args.among.now ≡ 3 = c.requires.three in
    let none : c.open-steps.result ≡ 0 = c.open-steps.ensures in
    let few = few_steps 2 (c.find-place.new.steps - c.open-steps.result) (2 * length c.args.among.now + 1) c.find-place.ensures.cost (omega arith) in
    omega arith
