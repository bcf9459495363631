use Rattle.pg_process.proofs.ApartFacts.{stay_apart}
use Rattle.pg_process.proofs.laws.regions_stay_apart.Goals as goal

pub returns : goal.returns
returns c = stay_apart
