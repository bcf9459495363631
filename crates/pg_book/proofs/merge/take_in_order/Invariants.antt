use Rattle.std.proofs.Common.{deque_items, flat_map}
use Rattle.pg_book.specs.Merging.{Moves}
use Rattle.pg_book.proofs.merge.take_in_order.Given as goal

abbrev pub invariant-loop-part : goal.invariant-loop-part
invariant-loop-part g l = Moves l.initial.entries (flat_map deque_items l.fn.lists) l.entries (flat_map deque_items l.lists)
