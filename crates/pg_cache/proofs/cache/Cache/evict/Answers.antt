use Rattle.pg_cache.proofs.ChangeFacts.{evict_gives}
use Rattle.pg_cache.proofs.cache.Cache.evict.Goals as goal

pub returns : goal.returns
returns g c = record { gives = evict_gives _ _ _ _ c.put_out.ensures.sound c.put_out.ensures.steps c.put_out.ensures.fault }
