use Rattle.std.proofs.Common.{arith}
use Rattle.pg_book.proofs.NameStep.{registers}
use Rattle.pg_book.proofs.steps.name.register.Goals as goal

pub compare_exchange-requires : goal.compare_exchange-requires
compare_exchange-requires g c = (c.requires.seat.same, omega (arith, c.requires.seat.words), registers _ _ _ _ _ c.requires.name c.requires.live)
