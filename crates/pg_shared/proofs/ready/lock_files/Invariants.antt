use Rattle.std.proofs.Common.{◌≡◌, ◌+◌, ◌++◌, length}
use Rattle.std.specs.Vec.Iter.{into_iter_items, into_iter_len}
use Rattle.pg_book.specs.Opening.{EachFrom, IsNewSpine}
use Rattle.pg_shared.proofs.ready.lock_files.Given as goal

abbrev pub invariant-loop-object : goal.invariant-loop-object
invariant-loop-object g l =
    (l.yielded ++ into_iter_items l.object-iterator ≡ l.fn.files.items)
    × (into_iter_len l.object-iterator ≡ length (into_iter_items l.object-iterator))
    × EachFrom (IsNewSpine g.B.Naming.plan.start.needs g.B.Naming.plan.book) (length l.yielded) (into_iter_items l.spines)
    × (length l.yielded + length (into_iter_items l.spines) ≡ length (into_iter_items l.initial.spines))
    × (length l.cells.items ≡ length l.yielded)
