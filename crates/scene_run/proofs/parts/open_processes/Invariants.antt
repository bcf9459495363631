use Rattle.std.proofs.Common.{◌≡◌, ◌+◌, ◌++◌, length, drop}
use Rattle.std.specs.Prelude.{filter_map}
use Rattle.scene_open.specs.Opening.{flags_of, processes_from}
use Rattle.scene_run.proofs.parts.open_processes.Given as goal

abbrev pub invariant-loop-head : goal.invariant-loop-head
invariant-loop-head l =
    (l.processes.items ++ processes_from l.page (length l.processes.items) (filter_map flags_of (drop l.head-index l.heads))
    ≡ processes_from l.page 0 (filter_map flags_of l.heads))
    × (length l.processes.items + length (filter_map flags_of (drop l.head-index l.heads)) ≡ length (filter_map flags_of l.heads))
