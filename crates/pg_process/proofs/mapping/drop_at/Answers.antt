use Rattle.std.proofs.Common.{sym, ◌∙◌}
use Rattle.std.proofs.lemmas.List.Elements.{recursion_from_All}
use Rattle.pg_process.specs.Regions.{IsInFile, IsPlaceOf}
use Rattle.pg_process.proofs.OrderFacts.{begins_rise, dropped_is, none_dropped, some_size}
use Rattle.pg_process.proofs.mapping.drop_at.Goals as goal

pub place_at-requires : goal.place_at-requires
place_at-requires c = rw c.deref.ensures.value (begins_rise c.args.page _ c.requires.in_order)

pub returns-in-Some-clause-regions : goal.returns-in-Some-clause-regions
returns-in-Some-clause-regions c =
    let place : IsPlaceOf c.args.mappings.now.items c.args.at c.in-Some.index = rw c.deref.ensures.value at c.in-Some.ensures.found in
    c.remove.ensures.items ∙ sym (dropped_is c.args.page c.args.at c.in-Some.index c.args.mappings.now.items (some_size c.args.page c.requires.size) (recursion_from_All IsInFile _ c.requires.some) c.requires.in_order place)

pub returns-in_default-clause-regions : goal.returns-in_default-clause-regions
returns-in_default-clause-regions c =
    let none = rw c.deref.ensures.value at c.in_default.ensures.none in
    sym (none_dropped c.args.at c.args.mappings.now.items none)
