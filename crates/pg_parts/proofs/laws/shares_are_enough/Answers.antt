use Rattle.pg_parts.proofs.RoomSums.{uses-within}
use Rattle.pg_parts.proofs.laws.shares_are_enough.Goals as goal

pub returns : goal.returns
returns c = uses-within
