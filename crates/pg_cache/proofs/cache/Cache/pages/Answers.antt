use Rattle.std.proofs.Common.{◌≡◌, subst, length}
use Rattle.std.specs.Prelude.{IfSome}
use Rattle.pg_cache.specs.Cache.{CacheNow}
use Rattle.pg_cache.proofs.ContentsFacts.{length-now}
use Rattle.pg_cache.specs.Cache.{contents}
use Rattle.pg_cache.proofs.cache.Cache.pages.Goals as goal

pub returns-clause-whole : goal.returns-clause-whole
returns-clause-whole g c =
    subst (λ (v : CacheNow). IfSome (contents v) (λ pages. length pages ≡ c.pages.result)) c.self.view_is
    (length-now c.self.inside.store.held (g.P.Pager.shows c.self.inside.pager) c.pages.result (g.met.P.Pager.whole c.self.inside.pager) c.pages.ensures)
