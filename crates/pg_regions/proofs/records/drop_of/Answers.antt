use Rattle.std.proofs.Common.{◌==◌, not, rules}
use Rattle.std.proofs.lemmas.Fn.{filter_same}
use Rattle.pg_regions.proofs.records.drop_of.Goals as goal

pub returns-clause-records : goal.returns-clause-records
returns-clause-records c =
    filter_same _ (λ r. not (r.region == c.args.id)) _ (λ r kept test said. search rules) _ _ c.retain.ensures.filtered
