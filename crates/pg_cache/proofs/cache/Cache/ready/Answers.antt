use Rattle.pg_cache.proofs.GiveFacts.{peek_leaves}
use Rattle.pg_cache.proofs.cache.Cache.ready.Goals as goal

pub returns-clause-leaves : goal.returns-clause-leaves
returns-clause-leaves g c = peek_leaves _ _ _ _ c.look_up.ensures.sound c.requires c.look_up.ensures.steps

pub returns-clause-content : goal.returns-clause-content
returns-clause-content g c = (peek_leaves _ _ _ _ c.look_up.ensures.sound c.requires c.look_up.ensures.steps).content

pub returns-clause-sizes : goal.returns-clause-sizes
returns-clause-sizes g c = (peek_leaves _ _ _ _ c.look_up.ensures.sound c.requires c.look_up.ensures.steps).sizes
