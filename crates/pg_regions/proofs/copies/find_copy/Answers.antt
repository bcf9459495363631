use Rattle.std.proofs.Common.{Some, sym, ap, ◌∙◌}
use Rattle.std.specs.Option.{option_copied}
use Rattle.pg_regions.specs.Lookups.{is_copy}
use Rattle.pg_regions.proofs.ListFacts.{position_first, position_none}
use Rattle.pg_regions.proofs.copies.find_copy.Goals as goal

pub bounds-copies-place : goal.bounds-copies-place
bounds-copies-place c = (position_first (is_copy c.args.id c.args.page) c.args.copies.now c.in_ok-place.place (sym c.in_ok-place.ensures)).within

pub returns-in_err-place : goal.returns-in_err-place
returns-in_err-place c =
    ap option_copied c.from_residual.ensures ∙ sym (position_none (is_copy c.args.id c.args.page) c.args.copies.now (sym c.in_err-place.ensures))

pub returns : goal.returns
returns c =
    let at = position_first (is_copy c.args.id c.args.page) c.args.copies.now c.in_ok-place.place (sym c.in_ok-place.ensures) in
    ap Some (c.index-copies-place.is ∙ at.there _) ∙ sym at.found
