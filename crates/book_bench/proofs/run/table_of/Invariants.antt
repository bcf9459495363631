use Rattle.std.proofs.Common.{◌≡◌, map}
use Rattle.std.specs.List.{range_with_len}
use Rattle.pg_book.specs.Needs.{rows}
use Rattle.book_bench.specs.OwnParts.{own_row}
use Rattle.book_bench.proofs.run.table_of.Given as goal

abbrev pub invariant-loop-caller : goal.invariant-loop-caller
invariant-loop-caller l = rows l.all ≡ map (own_row l.callers l.draws) (range_with_len 0 l.caller)
