use Rattle.std.proofs.Common.{◌≡◌, ◌+◌, drop}
use Rattle.pg_book.specs.Needs.{rows_of, part_entries}
use Rattle.pg_book.proofs.open.room_of.Given as goal

abbrev pub invariant-loop-row : goal.invariant-loop-row
invariant-loop-row l = l.room + part_entries (rows_of (drop l.row-index l.needs)) l.part ≡ part_entries (rows_of l.needs) l.part
