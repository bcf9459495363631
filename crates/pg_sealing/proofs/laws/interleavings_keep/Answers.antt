use Rattle.pg_sealing.proofs.SealingFacts.{linked_keeps}
use Rattle.pg_sealing.proofs.laws.interleavings_keep.Goals as goal

pub returns : goal.returns
returns c = λ hash o opens history linked few. linked_keeps hash o opens history linked few
