use Rattle.pg_book.specs.Trials.{IsRun}
use Rattle.pg_book.proofs.tests.history_of.Given as goal

abbrev pub invariant-loop-used : goal.invariant-loop-used
invariant-loop-used l = IsRun record { book = l.book-inside.seat.table_id; view = l.book-inside.seat.me.0 } l.used l.spines.items l.passes.items
