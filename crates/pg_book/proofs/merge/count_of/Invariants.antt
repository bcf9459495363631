use Rattle.std.proofs.Common.{◌≡◌, ◌+◌, drop, length}
use Rattle.pg_book.specs.Closing.{flat}
use Rattle.pg_book.proofs.merge.count_of.Given as goal

abbrev pub invariant-loop-spine : goal.invariant-loop-spine
invariant-loop-spine g l = l.count + length (flat (drop l.spine-index l.spines)) ≡ length (flat l.spines)
