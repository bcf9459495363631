use denote.RattleType.{RattleType}
use denote.Param.Send.{IsSync}
use Rattle.pg_rows.proofs.Crossing.{places-sync}
use Rattle.pg_rows.specs.contracts.places.Places.{the_row}

pub sync : (R : RattleType) → IsSync R → IsSync (the_row R)
sync = places-sync
