use Rattle.pg_printed.proofs.HistoryFacts.{one_history}
use Rattle.pg_printed.proofs.laws.equal_journals_are_of_one_history.Goals as goal

pub returns : goal.returns
returns c = λ hash o scripts others one other calls more a b held kept same. one_history hash o scripts others one other calls more a b held kept same
