use Rattle.book_bench.proofs.HandFacts.{may_draw, draws_on}
use Rattle.book_bench.proofs.hand.draw_all.Goals as goal

pub draw-requires-clause-room : goal.draw-requires-clause-room
draw-requires-clause-room c = may_draw c.args.hand c.loop-number.number c.loop-number.hand c.loop-number.invariant c.args.draws c.loop-number-test.true c.requires

pub loop-number-preserved : goal.loop-number-preserved
loop-number-preserved c = draws_on c.args.hand c.loop-number.number c.loop-number.hand c.loop-number.invariant c.draw.result c.draw.new.self c.draw.new.pass c.draw.ensures.drawn
