use Rattle.book_bench.specs.Hands.{DrewAll}
use Rattle.book_bench.proofs.hand.draw_all.Given as goal

abbrev pub invariant-loop-number : goal.invariant-loop-number
invariant-loop-number l = DrewAll l.number l.fn.hand l.hand
