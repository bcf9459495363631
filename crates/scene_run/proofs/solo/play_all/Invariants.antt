use Rattle.pg_digest.specs.Digests.{sha_hash}
use Rattle.pg_machine.specs.Solo.{shown}
use Rattle.scene_run.proofs.TurnFacts.{Turned}
use Rattle.scene_run.proofs.solo.play_all.Given as goal

abbrev pub invariant-loop-number : goal.invariant-loop-number
invariant-loop-number l = Turned sha_hash l.scripts l.number (shown l.initial.parts) (shown l.parts)
