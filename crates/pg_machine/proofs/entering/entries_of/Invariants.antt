use Rattle.std.proofs.Common.{◌≡◌, ◌+◌, drop}
use Rattle.pg_book.specs.Needs.{rows_of, all_entries}
use Rattle.pg_machine.proofs.entering.entries_of.Given as goal

abbrev pub invariant-loop-row : goal.invariant-loop-row
invariant-loop-row l = l.entries + all_entries (rows_of (drop l.row-index l.needs)) ≡ all_entries (rows_of l.needs)
