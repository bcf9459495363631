use Rattle.std.proofs.Common.{◌≡◌, ◌++◌, length, map}
use Rattle.std.specs.Vec.Iter.{into_iter_items, into_iter_len}
use Rattle.book_bench.specs.declared.hand.Hand.{Hand}
use Rattle.book_bench.proofs.hand.apart.Given as goal

abbrev pub invariant-loop-spine : goal.invariant-loop-spine
invariant-loop-spine l =
    (l.yielded ++ into_iter_items l.spine-iterator ≡ l.fn.hands.items)
    × (into_iter_len l.spine-iterator ≡ length (into_iter_items l.spine-iterator))
    × (l.spines.items ≡ map (λ (h : Hand). h.spine) l.yielded)
    × (l.passes.items ≡ map (λ (h : Hand). h.pass) l.yielded)
