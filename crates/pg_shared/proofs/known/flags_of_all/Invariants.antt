use Rattle.std.proofs.Common.{◌≡◌, map, take}
use Rattle.pg_shared.specs.Opening.{declared_of}
use Rattle.pg_shared.proofs.known.flags_of_all.Given as goal

abbrev pub invariant-loop-process : goal.invariant-loop-process
invariant-loop-process l = l.flags.items ≡ map declared_of (take l.process-index l.processes)
