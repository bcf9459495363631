use Rattle.std.proofs.Common.{◌≡◌, ◌⊎◌, ⊎_elim, inl, inr, arith, ◌∙◌, ap, length}
use Rattle.std.proofs.lemmas.List.{get_or_default}
use Rattle.cs_sign.proofs.TakenFacts.{taken}
use Rattle.cs_sign.proofs.cacher.cache.Goals as goal

pub returns-clause-taken : goal.returns-clause-taken
returns-clause-taken c =
    let known : (c.args.version ≡ 1) ⊎ (c.args.version ≡ 2) = ⊎_elim (λ two. inr two.1) (λ one. inl one) c.else-version-ne1.either in
    let listed_is = c.in_ok-set.ensures in
    let few = c.if-count-gt-MOST.false in
    rw (c.in_ok-written.ensures.made, listed_is)
    (taken c.args.version c.args.uuid c.args.hashes.now known c.in_ok-written.ensures.number
    (omega (arith, c.len-count.ensures.len, ap length listed_is, few))
    (λ k d lt. ap length (get_or_default c.args.hashes.now k d _ lt) ∙ c.told-hashes k lt))
