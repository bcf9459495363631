use Rattle.std.proofs.Common.{◌==◌, not, rules}
use Rattle.std.proofs.lemmas.Fn.{filter_same}
use Rattle.pg_regions.proofs.standing.drop_region.Goals as goal

pub returns-clause-regions : goal.returns-clause-regions
returns-clause-regions c =
    filter_same _ (λ region. not (region.id == c.args.id)) _ (λ region kept test said. search rules) _ _ c.retain.ensures.filtered
