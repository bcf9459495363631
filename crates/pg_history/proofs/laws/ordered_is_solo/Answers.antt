use Rattle.pg_history.proofs.SoloFacts.{ordered_is_solo}
use Rattle.pg_history.proofs.laws.ordered_is_solo.Goals as goal

pub returns : goal.returns
returns c = λ hash o scripts history legal order. ordered_is_solo hash o scripts history legal order
