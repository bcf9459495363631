use Rattle.std.proofs.Common.{◌≡◌, ◌++◌, length}
use Rattle.std.specs.Vec.Iter.{into_iter_items}
use Rattle.pg_book.specs.Opening.{EachFrom}
use Rattle.scene_threads.specs.Workers.{IsIdle}
use Rattle.scene_threads.proofs.playing.workers_of.Given as goal

abbrev pub invariant-loop-pass : goal.invariant-loop-pass
invariant-loop-pass g l =
    (l.yielded ++ into_iter_items l.pass-iterator ≡ l.fn.passes.items)
    × (length l.workers.items ≡ length l.yielded)
    × EachFrom (IsIdle g.B.Naming.plan) 0 l.workers.items
