use Rattle.std.proofs.Common.{◌≡◌}
use Rattle.pg_book.specs.Trials.{IsDrawing}
use Rattle.pg_book.proofs.tests.draw_many.Given as goal

abbrev pub invariant-loop-number : goal.invariant-loop-number
invariant-loop-number g l = IsDrawing g.B.Naming.book 100 l.number l.pass × (l.pass.caller ≡ l.initial.pass.caller)
