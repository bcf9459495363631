use Rattle.pg_cache.proofs.ChangeFacts.{put_gives}
use Rattle.pg_cache.proofs.cache.Cache.put.Goals as goal

pub returns : goal.returns
returns g c = record { gives = put_gives _ _ _ _ _ c.put_in.ensures.sound c.requires.resident c.requires.fits c.put_in.ensures.after }
