use Rattle.std.proofs.Common.{Some, sym, ap, ◌∙◌}
use Rattle.pg_regions.specs.Lookups.{is_record}
use Rattle.pg_regions.proofs.ListFacts.{position_first}
use Rattle.pg_regions.proofs.records.find_record.Goals as goal

pub bounds-records-place : goal.bounds-records-place
bounds-records-place c = (position_first (is_record c.args.id c.args.page) c.args.records.now c.in-Ok.place c.in-Ok.ensures.found).within

pub returns-in-Ok : goal.returns-in-Ok
returns-in-Ok c =
    let at = position_first (is_record c.args.id c.args.page) c.args.records.now c.in-Ok.place c.in-Ok.ensures.found in
    ap Some (at.there _) ∙ sym at.found
