use Rattle.std.proofs.Common.{ℕ, ◌≡◌, ap, Some, subst, ◌∙◌, sym, arith}
use Rattle.cs_superblob.specs.Layout.{count}
use Rattle.cs_superblob.specs.Rules.{repeat_rule}
use Rattle.cs_superblob.specs.declared.refusal.SuperRefusal.TheVariants.{Twice}
use Rattle.pg_bytes.proofs.RuleFacts.{KeptBelow, KeptBelow-next, KeptBelow-end, broken_here}
use Rattle.cs_superblob.proofs.IndexFacts.{length-found, is_repeated-found, slot-found}
use Rattle.cs_superblob.proofs.grammar.distinct.Goals as goal

pub returns-then-has_slot : goal.returns-then-has_slot
returns-then-has_slot c =
    let long = length-found _ _ c.requires in
    let test = is_repeated-found _ _ c.loop-i.i _ c.requires c.loop-i-test.true in
    let broken = broken_here _ _ _ c.loop-i.invariant (omega arith) (sym test ∙ (sym c.has_slot.ensures ∙ c.if-has_slot.true)) in
    broken ∙ ap (λ slot. Some (Twice slot)) (sym (c.from.ensures ∙ slot-found _ _ _ _ c.requires c.loop-i-test.true))

pub loop-i-preserved : goal.loop-i-preserved
loop-i-preserved c =
    let long = length-found _ _ c.requires in
    let test = is_repeated-found _ _ c.loop-i.i _ c.requires c.loop-i-test.true in
    KeptBelow-next _ _ _ c.loop-i.invariant (omega arith) (sym test ∙ (sym c.has_slot.ensures ∙ c.if-has_slot.false))

pub returns : goal.returns
returns c =
    let long = length-found _ _ c.requires in
    let P : ℕ → Type 0 = λ i. KeptBelow (repeat_rule c.args.bytes.now) i (count c.args.bytes.now) in
    let done : c.loop-i.i ≡ count c.args.bytes.now = omega arith in
    KeptBelow-end _ _ (subst P done c.loop-i.invariant)
