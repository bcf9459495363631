use Rattle.pg_history.proofs.ScriptLinkFacts.{scripts_link}
use Rattle.pg_history.proofs.laws.scripts_link.Goals as goal

pub returns : goal.returns
returns c = λ hash o scripts history stamps agrees answered calls. scripts_link hash o scripts history stamps agrees answered calls
