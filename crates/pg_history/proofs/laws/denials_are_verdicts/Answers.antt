use Rattle.pg_history.proofs.DenialFacts.{denials_are_verdicts}
use Rattle.pg_history.proofs.laws.denials_are_verdicts.Goals as goal

pub returns : goal.returns
returns c = λ hash o history answered. denials_are_verdicts hash o history answered
