use Rattle.pg_rows.proofs.PartFacts.{with_part_one}
use Rattle.pg_rows.proofs.row.Row.set.Goals as goal

pub returns-clause-set : goal.returns-clause-set
returns-clause-set g c = with_part_one c.args.self.now c.slice_mut.result.now c.args.place c.args.value c.requires c.slice_mut.ensures.value
