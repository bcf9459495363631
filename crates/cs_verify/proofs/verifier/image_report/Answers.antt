use Rattle.std.proofs.Common.{arith}
use Rattle.cs_verify.proofs.verifier.image_report.Goals as goal

pub accepted-requires-clause-limited : goal.accepted-requires-clause-limited
accepted-requires-clause-limited g c = omega (arith, c.requires.whole, c.in-Ok.ensures.limited)
