use Rattle.std.proofs.Common.{arith}
use Rattle.pg_book.proofs.SplitStep.{splits}
use Rattle.pg_book.proofs.steps.split.note_of.Goals as goal

pub split_seat-requires : goal.split_seat-requires
split_seat-requires g c = (c.requires.seat.same, omega (arith, c.requires.seat.words), splits _ _ _ c.requires.live)
