use Rattle.pg_process.proofs.OverlapFacts.{names_the_least}
use Rattle.pg_process.proofs.laws.overlap_names_the_least.Goals as goal

pub returns : goal.returns
returns c = names_the_least
