use Rattle.pg_history.proofs.FewFacts.{few_by_scripts}
use Rattle.pg_history.proofs.laws.scripts_make_few_regions.Goals as goal

pub returns : goal.returns
returns c = λ hash o scripts history opens legal few. few_by_scripts hash o scripts history opens legal few
