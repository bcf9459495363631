use Rattle.std.proofs.Common.{ℕ, ◌≡◌, length, subst, sym, ◌∙◌, arith}
use Rattle.pg_bytes.proofs.RuleFacts.{KeptBelow, KeptBelow-next, KeptBelow-end, broken_here}
use Rattle.cs_sign.specs.Rules.{past_rule}
use Rattle.cs_sign.proofs.rules.none_past.Goals as goal

pub returns-then-is_past : goal.returns-then-is_past
returns-then-is_past c =
    broken_here _ _ _ c.loop-index.invariant c.loop-index-test.true (sym c.is_past.ensures ∙ c.if-is_past.true)

pub loop-index-preserved : goal.loop-index-preserved
loop-index-preserved c =
    KeptBelow-next _ _ _ c.loop-index.invariant c.loop-index-test.true (sym c.is_past.ensures ∙ c.if-is_past.false)

pub returns : goal.returns
returns c =
    let P : ℕ → Type 0 = λ i. KeptBelow (past_rule c.args.segments.now c.args.place c.args.limit) i (length c.args.segments.now) in
    let done : c.loop-index.index ≡ length c.args.segments.now = omega arith in
    KeptBelow-end _ _ (subst P done c.loop-index.invariant)
