use Rattle.std.proofs.Common.{◌≡◌, ◌+◌, ◌++◌, length}
use Rattle.std.specs.Vec.Iter.{into_iter_items}
use Rattle.pg_book.specs.Opening.{EachFrom, IsNewSpine}
use Rattle.pg_shared.proofs.ready.lock_processes.Given as goal

abbrev pub invariant-loop-process : goal.invariant-loop-process
invariant-loop-process g l =
    (l.yielded ++ into_iter_items l.process-iterator ≡ l.fn.processes.items)
    × EachFrom (IsNewSpine g.B.Naming.plan.start.needs g.B.Naming.plan.book) (length g.B.Naming.plan.start.files + length l.yielded) (into_iter_items l.spines)
    × (length l.yielded + length (into_iter_items l.spines) ≡ length (into_iter_items l.initial.spines))
    × (length l.cells.items ≡ length l.yielded)
