use Rattle.std.proofs.Common.{◌≡◌, take, map}
use Rattle.pg_book.specs.Needs.{rows}
use Rattle.scene_run.specs.Needs.{row_of}
use Rattle.scene_run.proofs.needs.needs_of.Given as goal

abbrev pub invariant-loop-number : goal.invariant-loop-number
invariant-loop-number l = rows l.needs ≡ map (row_of l.files l.processes) (take l.number l.scripts)
