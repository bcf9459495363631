use Rattle.std.proofs.Common.{◌≡◌, [], ◌++◌, length}
use Rattle.std.specs.Vec.Iter.{into_iter_items, into_iter_len}
use Rattle.pg_book.specs.Gathering.{TakesPasses}
use Rattle.pg_book.proofs.close.take_passes.Given as goal

abbrev pub invariant-loop-pass : goal.invariant-loop-pass
invariant-loop-pass g l =
    (l.yielded ++ into_iter_items l.pass-iterator ≡ l.fn.passes.items)
    × (into_iter_len l.pass-iterator ≡ length (into_iter_items l.pass-iterator))
    × (l.seat.table_id ≡ l.initial.seat.table_id)
    × (l.seat.me.1 ≡ [])
    × TakesPasses l.yielded l.initial.seat.me.0 l.seat.me.0
