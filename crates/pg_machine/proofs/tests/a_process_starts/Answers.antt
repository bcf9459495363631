use Rattle.std.proofs.Common.{[], refl, subst, sym}
use Rattle.pg_machine.specs.Solo.{SoloNow}
use Rattle.pg_machine.proofs.SmallFacts.{process_room}
use Rattle.pg_machine.proofs.tests.a_process_starts.Goals as goal

pub process-receipt-requires-clause-room : goal.process-receipt-requires-clause-room
process-receipt-requires-clause-room g c _ = rw c.in_ok-solo.ensures.opened (process_room _ [] c.in_ok-opened.ensures.small refl)
