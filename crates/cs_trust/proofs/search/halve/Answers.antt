use Rattle.std.proofs.Common.{sym, ◌∙◌, arith}
use Rattle.std.specs.declared.cmp.Ordering.TheVariants.{Less, Equal, Greater}
use Rattle.cs_trust.proofs.HalfFacts.{rank_of, length-cdhashes, place_of-cdhashes, halved_less, halved_same, halved_greater, halved_all, costs_more, at_most_17}
use Rattle.cs_trust.proofs.search.halve.Goals as goal

pub compare-requires : goal.compare-requires
compare-requires g c =
    let few = at_most_17 _ _ c.loop-low.invariant.1.bounded c.requires.table.limited in
    omega arith

pub loop-low-preserved-in-Less : goal.loop-low-preserved-in-Less
loop-low-preserved-in-Less g c = (
  halved_less _ _ _ _ _ _ c.requires.table.sorted c.loop-low.invariant.0 (omega arith) (rank_of c.args.entries.now _ _ Less c.in-Less.ensures.order),
  rw c.compare.ensures.step (costs_more _ _ _ _ _ c.loop-low.invariant.1 (omega arith) (omega arith)),
)

pub loop-low-preserved-in-Equal : goal.loop-low-preserved-in-Equal
loop-low-preserved-in-Equal g c = (
  halved_same _ _ _ _ _ _ c.loop-low.invariant.0 (omega arith) (omega arith) (rank_of c.args.entries.now _ _ Equal c.in-Equal.ensures.order),
  rw c.compare.ensures.step (costs_more _ _ _ _ _ c.loop-low.invariant.1 (omega arith) (omega arith)),
)

pub loop-low-preserved : goal.loop-low-preserved
loop-low-preserved g c = (
  halved_greater _ _ _ _ _ _ c.requires.table.sorted c.loop-low.invariant.0 (omega arith) (omega arith) (rank_of c.args.entries.now _ _ Greater c.in-Greater.ensures.order),
  rw c.compare.ensures.step (costs_more _ _ _ _ _ c.loop-low.invariant.1 (omega arith) (omega arith)),
)

pub returns-clause-place : goal.returns-clause-place
returns-clause-place g c = halved_all _ _ _ _ _ c.loop-low.invariant.0 c.loop-low-test.false ∙ sym (place_of-cdhashes c.args.entries.now c.args.sought.now.cdhash.now)

pub returns-clause-at_most : goal.returns-clause-at_most
returns-clause-at_most g c =
    let few = at_most_17 _ _ c.loop-low.invariant.1.bounded c.requires.table.limited in
    omega arith

pub returns-clause-counted : goal.returns-clause-counted
returns-clause-counted g c some = c.loop-low.invariant.1.counted (omega arith)
