use Rattle.std.proofs.Common.{◌≡◌, ◌++◌, length}
use Rattle.std.specs.Vec.Iter.{into_iter_items}
use Rattle.pg_digest.specs.Digests.{sha_hash}
use Rattle.pg_book.specs.Opening.{EachFrom}
use Rattle.scene_threads.specs.Workers.{HasPlayedAt}
use Rattle.scene_threads.proofs.playing.passes_of.Given as goal

abbrev pub invariant-loop-worker : goal.invariant-loop-worker
invariant-loop-worker g l =
    (l.yielded ++ into_iter_items l.worker-iterator ≡ l.fn.workers.items)
    × (length l.passes.items ≡ length l.yielded)
    × EachFrom (HasPlayedAt sha_hash g.B.Naming.plan l.fn.scripts) 0 l.passes.items
