use Rattle.std.proofs.Common.{◌≡◌, length}
use Rattle.std.specs.Arc.{arc_value}
use Rattle.pg_book.specs.Needs.{rows_of, part_entries}
use Rattle.pg_book.specs.Opening.{EachFrom}
use Rattle.pg_book.specs.Prepared.{IsPartRoom}
use Rattle.pg_book.proofs.open.part_rooms.Given as goal

abbrev pub invariant-loop-part : goal.invariant-loop-part
invariant-loop-part g l = (length l.all.items ≡ l.part) × EachFrom (λ k s. IsPartRoom (arc_value l.table).shared.table_id (part_entries (rows_of l.needs) k) s) 0 l.all.items
