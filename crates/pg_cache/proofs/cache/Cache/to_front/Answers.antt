use Rattle.std.proofs.Common.{sym, subst}
use Rattle.pg_cache.specs.Store.{Stored}
use Rattle.pg_cache.specs.Buffers.{HasBuffers}
use Rattle.pg_cache.proofs.BufferFacts.{kept_fronted}
use Rattle.pg_cache.proofs.cache.Cache.to_front.Goals as goal

pub invariant_of-self : goal.invariant_of-self
invariant_of-self g c =
    let i = c.self.inside in
    subst (λ (s : Stored). HasBuffers s i.buffer i.has_spare (g.P.Pager.shows i.pager)) (sym c.to_front.ensures.fronts) (kept_fronted _ _ _ _ c.self.invariant c.args.page)
