use Rattle.std.proofs.Common.{◌≡◌, drop}
use Rattle.pg_book.specs.declared.needs.Needs.{Needs}
use Rattle.pg_book.specs.Needs.{rows_of}
use Rattle.pg_calls.specs.Room.{plus}
use Rattle.pg_parts.specs.Rooms.{part_needs}
use Rattle.scene_run.proofs.parts.part_needs.Given as goal

abbrev pub invariant-loop-number : goal.invariant-loop-number
invariant-loop-number l =
    ◌≡◌ {A = Needs} (plus l.all (part_needs (rows_of (drop l.number l.needs)) l.part)) (part_needs (rows_of l.needs) l.part)
