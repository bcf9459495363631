use Rattle.std.proofs.Common.{◌≡◌, replicate}
use Rattle.pg_book.specs.Trials.{evenly}
use Rattle.pg_book.proofs.tests.row_of.Given as goal

abbrev pub invariant-loop-part : goal.invariant-loop-part
invariant-loop-part l = l.row.items ≡ replicate l._part (evenly l.entries)
