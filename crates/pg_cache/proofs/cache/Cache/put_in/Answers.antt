use Rattle.std.proofs.Common.{◌+◌, ◌≤◌, length, sym, subst}
use Rattle.pg_cache.specs.Cache.{CacheNow}
use Rattle.pg_cache.specs.Store.{Stored}
use Rattle.pg_cache.specs.Buffers.{HasBuffers}
use Rattle.pg_cache.proofs.BufferFacts.{kept_put}
use Rattle.pg_cache.proofs.cache.Cache.put_in.Goals as goal

pub invariant_of-self : goal.invariant_of-self
invariant_of-self g c =
    let i = c.self.inside in
    let fits = subst (λ (v : CacheNow). c.args.at + length c.args.bytes.now ≤ v.pager.page_size) (sym c.self.view_is) c.requires.fits in
    subst (λ (s : Stored). HasBuffers s i.buffer i.has_spare (g.P.Pager.shows i.pager)) (sym c.put.ensures) (kept_put _ _ _ _ c.self.invariant c.args.page c.args.at c.args.bytes.now fits)
