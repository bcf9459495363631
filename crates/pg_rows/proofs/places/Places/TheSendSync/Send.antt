use denote.RattleType.{RattleType}
use denote.Param.Send.{IsSend}
use Rattle.pg_rows.proofs.Crossing.{places-send}
use Rattle.pg_rows.specs.contracts.places.Places.{the_row}

pub send : (R : RattleType) → IsSend R → IsSend (the_row R)
send = places-send
