use Rattle.std.proofs.Common.{deque_items, flat_map}
use Rattle.std.specs.Vec.Iter.{into_iter_items}
use Rattle.pg_book.specs.Merging.{Moves}
use Rattle.pg_book.proofs.merge.take_all_rest.Given as goal

abbrev pub invariant-loop-list : goal.invariant-loop-list
invariant-loop-list g l = Moves l.initial.entries (flat_map deque_items l.fn.lists.items) l.entries (flat_map deque_items (into_iter_items l.list-iterator))
