use Rattle.pg_plain.proofs.ReplyFacts.{step_answers}
use Rattle.pg_plain.proofs.laws.replies_fit.Goals as goal

pub returns : goal.returns
returns c = λ hash file event blob outcome. step_answers hash file event blob outcome
