use Rattle.pg_book.proofs.Trials.{may_draw, draws_on}
use Rattle.pg_book.proofs.tests.Kept.draw.Goals as goal

pub draw-requires-clause-room : goal.draw-requires-clause-room
draw-requires-clause-room g c = may_draw g.B.Naming.book c.args.number c.requires.number c.args.self.now.spine c.args.pass.now c.args.self.now.is_first c.requires.drawing

pub returns-clause-drawing : goal.returns-clause-drawing
returns-clause-drawing g c = draws_on g.B.Naming.book c.args.number c.requires.number c.args.self.now.spine c.args.pass.now c.args.self.now.is_first c.requires.drawing c.args.number c.draw.result c.draw.new.self c.draw.new.pass c.draw.ensures.drawn
