use Rattle.pg_process.proofs.ExitFacts.{names_each_file}
use Rattle.pg_process.proofs.laws.exit_names_each_file.Goals as goal

pub returns : goal.returns
returns c = names_each_file
