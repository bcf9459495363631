use Rattle.pg_process.proofs.GuardFacts.{stays_unguarded}
use Rattle.pg_process.proofs.laws.unguarded_stays_unguarded.Goals as goal

pub returns : goal.returns
returns c = stays_unguarded
