use Rattle.std.proofs.Common.{arith, ◌∙◌}
use Rattle.pg_book.proofs.JoinStep.{joins}
use Rattle.pg_book.proofs.steps.join.take_in.Goals as goal

pub join_seat-requires : goal.join_seat-requires
join_seat-requires g c = (
  c.requires.seat.same,
  c.requires.other.0 ∙ c.requires.seat.same,
  c.requires.other.1,
  omega (arith, c.requires.seat.words),
  joins _ _ _ _ _ c.requires.live.0 c.requires.live.1 c.requires.settled,
)
