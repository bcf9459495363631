use Rattle.pg_object.proofs.CheckedLaws.{checked_sealed}
use Rattle.pg_object.proofs.laws.checked_are_sealed.Goals as goal

pub returns : goal.returns
returns c = λ hash now kept. checked_sealed hash now kept
