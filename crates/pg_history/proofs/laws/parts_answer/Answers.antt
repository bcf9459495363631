use Rattle.pg_history.proofs.PartFacts.{parts_answer}
use Rattle.pg_history.proofs.laws.parts_answer.Goals as goal

pub returns : goal.returns
returns c = λ hash m history parts. parts_answer hash m history parts
