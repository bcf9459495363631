use Rattle.pg_cache.proofs.GiveFacts.{hand_known_bytes, hand_whole_bytes}
use Rattle.pg_cache.proofs.cache.Cache.bytes.Goals as goal

pub returns-clause-known : goal.returns-clause-known
returns-clause-known g c = hand_known_bytes _ _ _ c.seat.ensures.sound c.requires.inside c.seat.ensures.bytes

pub returns-clause-whole : goal.returns-clause-whole
returns-clause-whole g c = hand_whole_bytes _ _ _ c.seat.ensures.sound c.seat.ensures.bytes
