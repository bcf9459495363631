use Rattle.std.proofs.Common.{◌≡◌, ◌+◌, drop}
use Rattle.pg_book.specs.Needs.{row_entries}
use Rattle.pg_machine.proofs.entering.row_entries.Given as goal

abbrev pub invariant-loop-needs : goal.invariant-loop-needs
invariant-loop-needs l = l.entries + row_entries (drop l.needs-index l.row) ≡ row_entries l.row
