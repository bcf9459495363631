use Rattle.pg_plain.proofs.StepFacts.{step_keep}
use Rattle.pg_plain.proofs.laws.steps_keep.Goals as goal

pub returns : goal.returns
returns c = λ hash file event blob outcome keep fits. step_keep hash file event blob outcome keep fits
