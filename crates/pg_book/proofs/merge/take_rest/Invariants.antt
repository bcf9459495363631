use Rattle.std.proofs.Common.{deque_items}
use Rattle.std.specs.Vec.Iter.{into_iter_items}
use Rattle.pg_book.specs.Merging.{Moves}
use Rattle.pg_book.proofs.merge.take_rest.Given as goal

abbrev pub invariant-loop-entry : goal.invariant-loop-entry
invariant-loop-entry g l = Moves l.initial.entries (deque_items l.fn.list) l.entries (into_iter_items l.entry-iterator)
