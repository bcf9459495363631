use Rattle.std.proofs.Common.{◌≡◌, ◌+◌, drop}
use Rattle.pg_history.specs.Legal.{calls_in}
use Rattle.scene_run.proofs.ending.calls_in.Given as goal

abbrev pub invariant-loop-number : goal.invariant-loop-number
invariant-loop-number l = l.calls + calls_in (drop l.number l.scripts) ≡ calls_in l.scripts
