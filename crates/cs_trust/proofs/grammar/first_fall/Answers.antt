use Rattle.std.proofs.Common.{◌≡◌, ◌-◌, ◌<◌, length, sym, ap, ◌∙◌, below_more, arith}
use Rattle.std.specs.Ordering.{is_lt}
use Rattle.cs_trust.specs.Order.{cdhashes_of}
use Rattle.cs_trust.proofs.HalfFacts.{length-cdhashes}
use Rattle.cs_trust.proofs.RuleFacts.{first_fall_is, first_fall_none, falls-entries}
use Rattle.cs_trust.proofs.grammar.first_fall.Goals as goal

pub returns-then-is_lt : goal.returns-then-is_lt
returns-then-is_lt c =
    sym (first_fall_is (cdhashes_of c.args.entries.now) c.loop-place.place (omega (arith, length-cdhashes c.args.entries.now)) c.loop-place.invariant
    (falls-entries c.args.entries.now c.loop-place.place (c.loop-place.place - 1) (omega arith)
    ∙ sym (c.if-is_lt.ensures ∙ ap is_lt c.cmp.ensures)))

pub loop-place-preserved : goal.loop-place-preserved
loop-place-preserved c =
    below_more _ _ c.loop-place.invariant
    (falls-entries c.args.entries.now c.loop-place.place (c.loop-place.place - 1) (omega arith)
    ∙ sym (c.if-is_lt.ensures ∙ ap is_lt c.cmp.ensures))

pub returns : goal.returns
returns c =
    let long = length-cdhashes c.args.entries.now in
    sym (first_fall_none (cdhashes_of c.args.entries.now) (λ k lt. c.loop-place.invariant k (omega arith)))
