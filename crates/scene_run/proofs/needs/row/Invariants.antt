use Rattle.std.proofs.Common.{◌≡◌, map}
use Rattle.std.specs.List.{range_with_len}
use Rattle.pg_calls.specs.Scripts.{calls_use}
use Rattle.scene_run.specs.Needs.{place_of}
use Rattle.scene_run.proofs.needs.row.Given as goal

abbrev pub invariant-loop-part : goal.invariant-loop-part
invariant-loop-part l =
    l.row.items ≡ map (λ part. calls_use l.script (place_of l.files l.processes part)) (range_with_len 0 l.part)
