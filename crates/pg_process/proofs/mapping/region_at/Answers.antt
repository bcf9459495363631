use Rattle.std.proofs.Common.{sym, ◌∙◌}
use Rattle.pg_process.proofs.OrderFacts.{begins_rise, region_there, no_region_there}
use Rattle.pg_process.proofs.mapping.region_at.Goals as goal

pub place_at-requires : goal.place_at-requires
place_at-requires c = begins_rise c.args.page _ c.requires

pub returns-in_err-place_at : goal.returns-in_err-place_at
returns-in_err-place_at c =
    c.from_residual.ensures ∙ sym (no_region_there c.args.at c.args.mappings.now c.in_err-place_at.ensures.none)

pub returns : goal.returns
returns c = sym (region_there c.args.at _ c.args.mappings.now _ c.in_ok-place_at.ensures.found)
