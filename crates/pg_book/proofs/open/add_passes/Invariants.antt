use Rattle.std.proofs.Common.{◌≡◌}
use Rattle.pg_book.specs.Opening.{IsNewPass}
use Rattle.pg_book.proofs.Placing.{IsSoFar}
use Rattle.pg_book.proofs.open.add_passes.Given as goal

abbrev pub invariant-loop-caller : goal.invariant-loop-caller
invariant-loop-caller g l =
    (l.seat.table_id ≡ l.initial.seat.table_id)
    × (l.seat.me ≡ l.initial.seat.me)
    × IsSoFar (IsNewPass l.initial.seat.me.0.needs l.initial.seat.table_id) l.callers l.caller l.passes
