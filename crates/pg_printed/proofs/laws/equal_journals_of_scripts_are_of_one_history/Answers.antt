use Rattle.pg_printed.proofs.OrderFacts.{one_history_of}
use Rattle.pg_printed.proofs.laws.equal_journals_of_scripts_are_of_one_history.Goals as goal

pub returns : goal.returns
returns c = λ hash o scripts one other calls more few a b same. one_history_of hash o scripts one other calls more few a b same
