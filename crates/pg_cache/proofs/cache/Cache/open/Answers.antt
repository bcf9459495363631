use Rattle.pg_cache.proofs.ContentsFacts.{now-none}
use Rattle.pg_cache.proofs.cache.Cache.open.Goals as goal

pub returns-clause-contents : goal.returns-clause-contents
returns-clause-contents g c = now-none c.in_ok-store.store.held (g.P.Pager.shows c.args.pager).told c.in_ok-store.ensures.held
