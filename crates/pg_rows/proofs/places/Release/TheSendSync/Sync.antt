use denote.RattleType.{RattleType}
use denote.Param.Send.{IsSync}
use Rattle.core.specs.declared.alloc.Allocator.{Ghosts}
use Rattle.pg_rows.proofs.Crossing.{release-sync}
use Rattle.pg_rows.specs.contracts.places.Release.{the_row}

pub sync : (R A : RattleType) (g : Ghosts A.Denot) → IsSync (the_row R A g)
sync = release-sync
