use Rattle.pg_cache.proofs.ChangeFacts.{write_gives}
use Rattle.pg_cache.proofs.cache.Cache.write.Goals as goal

pub returns : goal.returns
returns g c = record { gives = write_gives _ _ _ _ _ _ c.write_through.ensures.sound c.requires.inside c.requires.fits c.write_through.ensures.steps c.write_through.ensures.fault }
