use Rattle.std.proofs.Common.{◌≡◌, ◌++◌, length}
use Rattle.std.specs.Vec.Iter.{into_iter_items}
use Rattle.pg_shared.specs.Closing.{AreKept}
use Rattle.pg_shared.proofs.CloseFacts.{ProcessAt}
use Rattle.pg_shared.proofs.closing.take_processes.Given as goal

abbrev pub invariant-loop-cell : goal.invariant-loop-cell
invariant-loop-cell g l =
    (l.yielded ++ into_iter_items l.cell-iterator ≡ l.fn.cells.items)
    × (length l.processes.items ≡ length l.yielded)
    × AreKept (ProcessAt g.B.Naming.plan) 0 l.processes.items l.spines.items
