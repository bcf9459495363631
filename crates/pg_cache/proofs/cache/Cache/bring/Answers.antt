use Rattle.pg_cache.proofs.BringFacts.{bring_gives}
use Rattle.pg_cache.proofs.cache.Cache.bring.Goals as goal

pub returns : goal.returns
returns g c = record { gives = bring_gives _ _ _ _ c.bring_in.ensures.sound c.requires c.bring_in.ensures.steps }
