use Rattle.std.proofs.Common.{arith}
use Rattle.pg_book.proofs.PeekStep.{looks}
use Rattle.pg_book.proofs.steps.peek.look.Goals as goal

pub load-requires : goal.load-requires
load-requires g c = (c.requires.seat.same, omega (arith, c.requires.seat.words), looks _ _ _ _ c.requires.live)
