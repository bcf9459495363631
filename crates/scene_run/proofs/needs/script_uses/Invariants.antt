use Rattle.std.proofs.Common.{◌≡◌, ◌*◌, drop}
use Rattle.pg_book.specs.declared.needs.Needs.{Needs}
use Rattle.pg_calls.specs.Room.{plus, Within}
use Rattle.pg_calls.specs.Scripts.{calls_use}
use Rattle.scene_run.specs.Needs.{of_each}
use Rattle.scene_run.proofs.needs.script_uses.Given as goal

abbrev pub invariant-loop-number : goal.invariant-loop-number
invariant-loop-number l =
    ◌≡◌ {A = Needs} (plus l.uses (calls_use (drop l.number l.script) l.at)) (calls_use l.script l.at)
    × Within l.uses (of_each (3 * l.number))
