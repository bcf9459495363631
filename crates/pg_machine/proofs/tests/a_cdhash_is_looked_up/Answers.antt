use Rattle.std.proofs.Common.{[], refl}
use Rattle.pg_machine.proofs.SmallFacts.{trust_room}
use Rattle.pg_machine.proofs.tests.a_cdhash_is_looked_up.Goals as goal

pub trust-receipt-requires-clause-room : goal.trust-receipt-requires-clause-room
trust-receipt-requires-clause-room g c _ = rw c.in_ok-solo.ensures.opened (trust_room _ [] c.in_ok-opened.ensures.small refl)
