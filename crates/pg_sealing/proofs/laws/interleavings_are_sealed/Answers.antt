use Rattle.pg_sealing.proofs.SealingFacts.{linked_seals}
use Rattle.pg_sealing.proofs.laws.interleavings_are_sealed.Goals as goal

pub returns : goal.returns
returns c = λ hash o opens history linked few. linked_seals hash o opens history linked few
