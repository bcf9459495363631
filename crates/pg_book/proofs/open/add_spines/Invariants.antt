use Rattle.std.proofs.Common.{◌≡◌, ◌++◌, length}
use Rattle.std.specs.Vec.Iter.{into_iter_items, into_iter_len}
use Rattle.pg_book.specs.Needs.{parts_of}
use Rattle.pg_book.specs.Opening.{IsNewSpine}
use Rattle.pg_book.proofs.Placing.{IsSoFar}
use Rattle.pg_book.proofs.open.add_spines.Given as goal

abbrev pub invariant-loop-room : goal.invariant-loop-room
invariant-loop-room g l =
    (l.yielded ++ into_iter_items l.room-iterator ≡ l.fn.rooms.items)
    × (into_iter_len l.room-iterator ≡ length (into_iter_items l.room-iterator))
    × (length l.yielded ≡ l.part)
    × (l.seat.table_id ≡ l.initial.seat.table_id)
    × (l.seat.me ≡ l.initial.seat.me)
    × IsSoFar (IsNewSpine l.initial.seat.me.0.needs l.initial.seat.table_id) (parts_of l.initial.seat.me.0.needs) l.part l.spines
