use Rattle.std.proofs.Common.{◌≡◌, ◌+◌, [], ◌++◌, length, map, vec_len, vec_capacity}
use Rattle.std.specs.Vec.Iter.{into_iter_items, into_iter_len}
use Rattle.pg_book.specs.Gathering.{Gathered, spine_views}
use Rattle.pg_book.specs.Closing.{stamped, flat}
use Rattle.std.proofs.Common.{deque_items, flat_map}
use Rattle.pg_book.proofs.close.take_spines.Given as goal

abbrev pub invariant-loop-spine : goal.invariant-loop-spine
invariant-loop-spine g l =
    (l.yielded ++ into_iter_items l.spine-iterator ≡ l.fn.spines.items)
    × (into_iter_len l.spine-iterator ≡ length (into_iter_items l.spine-iterator))
    × (l.seat.table_id ≡ l.initial.seat.table_id)
    × (l.seat.me.1 ≡ [])
    × Gathered l.initial.seat.me.0.needs (spine_views l.yielded) l.seat.me.0
    × (flat_map deque_items l.lists.items ≡ flat_map deque_items l.initial.lists.items ++ map stamped (flat l.yielded))
    × (vec_len l.lists ≡ vec_len l.initial.lists + length l.yielded)
    × (vec_capacity l.lists ≡ vec_capacity l.initial.lists)
