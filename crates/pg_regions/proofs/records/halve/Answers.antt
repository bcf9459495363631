use Rattle.std.proofs.Common.{◌≡◌, ◌+◌, ◌-◌, ◌*◌, ◌/◌, length, sym, arith}
use Rattle.pg_bytes.proofs.CostFacts.{costs_more, few_steps}
use Rattle.pg_regions.specs.Lookups.{record_before, is_record}
use Rattle.pg_regions.proofs.OrderFacts as order
use Rattle.pg_regions.proofs.PlaceFacts.{lesser, earlier, above, apart, found_at, gap_at}
use Rattle.pg_regions.proofs.records.halve.Goals as goal

pub tick-requires : goal.tick-requires
tick-requires g c =
    let few = few_steps 65 (c.loop-low.steps - c.args.steps.now) (2 * length c.args.records.now + 1) c.loop-low.invariant.costs.bounded (omega arith) in
    omega (arith, c.loop-low.invariant.costs.later)

pub loop-low-preserved-then-comes_before : goal.loop-low-preserved-then-comes_before
loop-low-preserved-then-comes_before g c =
    let before = lesser c.args.page c.args.id in
    let own = is_record c.args.id c.args.page in
    let known = c.loop-low.invariant in
    record {
      ordered = omega arith;
      within = known.within;
      front =
          order.lesser_in_front record_before before own (earlier c.args.page c.args.id) (above c.args.page c.args.id) (apart c.args.page c.args.id) c.args.records.now
          (c.loop-low.low + (c.loop-low.high - c.loop-low.low) / 2) _ c.requires.rises (omega arith) (sym c.if-comes_before.ensures);
      rest = known.rest;
      others = known.others;
      costs = rw c.tick.ensures (costs_more _ _ _ _ _ known.costs (omega arith) (omega arith));
      untried = λ same. absurd (omega (arith, known.costs.later));
    }

pub returns-then-is_of-clause-placed : goal.returns-then-is_of-clause-placed
returns-then-is_of-clause-placed g c =
    (found_at c.args.page c.args.id c.args.records.now (c.loop-low.low + (c.loop-low.high - c.loop-low.low) / 2) _ c.requires.rises (omega arith) (sym c.if-comes_before.ensures) (sym c.if-is_of.ensures)).0

pub returns-then-is_of-clause-found : goal.returns-then-is_of-clause-found
returns-then-is_of-clause-found g c =
    (found_at c.args.page c.args.id c.args.records.now (c.loop-low.low + (c.loop-low.high - c.loop-low.low) / 2) _ c.requires.rises (omega arith) (sym c.if-comes_before.ensures) (sym c.if-is_of.ensures)).1

pub returns-then-is_of-clause-cost : goal.returns-then-is_of-clause-cost
returns-then-is_of-clause-cost g c =
    rw c.tick.ensures (costs_more _ _ (c.loop-low.high - c.loop-low.low) 0 _ c.loop-low.invariant.costs (omega arith) (omega arith)).bounded

pub loop-low-preserved : goal.loop-low-preserved
loop-low-preserved g c =
    let before = lesser c.args.page c.args.id in
    let own = is_record c.args.id c.args.page in
    let known = c.loop-low.invariant in
    let middle = c.loop-low.low + (c.loop-low.high - c.loop-low.low) / 2 in
    record {
      ordered = omega arith;
      within = omega (arith, known.within);
      front = known.front;
      rest =
          order.not_lesser_behind record_before before own (earlier c.args.page c.args.id) (above c.args.page c.args.id) (apart c.args.page c.args.id) c.args.records.now
          middle _ c.requires.rises (omega (arith, known.within)) (sym c.if-comes_before.ensures);
      others =
          order.not_own_behind record_before before own (earlier c.args.page c.args.id) (above c.args.page c.args.id) (apart c.args.page c.args.id) c.args.records.now
          middle _ c.requires.rises (omega (arith, known.within)) (sym c.if-comes_before.ensures) (sym c.if-is_of.ensures);
      costs = rw c.tick.ensures (costs_more _ _ _ _ _ known.costs (omega arith) (omega arith));
      untried = λ same. absurd (omega (arith, known.costs.later));
    }

pub returns-clause-placed : goal.returns-clause-placed
returns-clause-placed g c =
    let known = c.loop-low.invariant in
    let same : c.loop-low.high ≡ c.loop-low.low = omega (arith, known.ordered) in
    (gap_at c.args.page c.args.id c.args.records.now c.loop-low.low (omega (arith, known.within)) known.front (rw same at known.rest) (rw same at known.others)).0

pub returns-clause-none : goal.returns-clause-none
returns-clause-none g c =
    let known = c.loop-low.invariant in
    let same : c.loop-low.high ≡ c.loop-low.low = omega (arith, known.ordered) in
    (gap_at c.args.page c.args.id c.args.records.now c.loop-low.low (omega (arith, known.within)) known.front (rw same at known.rest) (rw same at known.others)).1
