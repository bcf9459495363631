use Rattle.std.proofs.Common.{◌≡◌, replicate}
use Rattle.pg_book.specs.Needs.{rows_of}
use Rattle.pg_book.specs.Trials.{evenly}
use Rattle.pg_book.proofs.tests.table.Given as goal

abbrev pub invariant-loop-caller : goal.invariant-loop-caller
invariant-loop-caller l = rows_of l.all.items ≡ replicate l._caller (replicate l.parts (evenly l.entries))
