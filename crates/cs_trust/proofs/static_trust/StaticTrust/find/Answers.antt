use Rattle.std.proofs.Common.{◌∙◌, arith}
use Rattle.cs_trust.proofs.CountFacts.{filled-more, filled-all}
use Rattle.cs_trust.proofs.static_trust.StaticTrust.find.Goals as goal

pub returns-in-Some-clause-counted : goal.returns-in-Some-clause-counted
returns-in-Some-clause-counted g c =
    let same = c.deref-module-items.ensures.value ∙ c.self.view_is in
    rw (← same)
    (filled-more c.deref-module-items.result.now c.loop-number.number c.module-item.result _ _ _ (omega arith) c.loop-number.invariant.3 c.find.ensures.later (λ some. c.find.ensures.counted (rw c.module-item.is some)))

pub returns-clause-counted : goal.returns-clause-counted
returns-clause-counted g c =
    let same = c.deref-module-items.ensures.value ∙ c.self.view_is in
    rw (← same)
    (omega (arith, filled-all c.deref-module-items.result.now c.loop-number.number (omega arith), c.loop-number.invariant.3))
