use Rattle.std.proofs.Common.{◌≡◌, true, rules, subst}
use Rattle.pg_cache.specs.Buffers.{HasBuffers}
use Rattle.pg_cache.proofs.BufferFacts.{kept_entered}
use Rattle.pg_cache.proofs.cache.Cache.enter.Goals as goal

pub invariant_of-self : goal.invariant_of-self
invariant_of-self g c =
    let i = c.self.inside in
    let has : i.has_spare ≡ true = search rules in
    kept_entered i.store c.enter.new.self i.buffer (g.P.Pager.shows i.pager) (subst (λ b. HasBuffers i.store i.buffer b (g.P.Pager.shows i.pager)) has c.self.invariant) c.enter.ensures.enters
