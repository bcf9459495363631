use Rattle.std.proofs.Common.{◌∙◌}
use Rattle.std.proofs.lemmas.List.Elements.{All-from_recursion, recursion_from_All}
use Rattle.pg_process.specs.Regions.{IsInFile}
use Rattle.pg_process.proofs.OrderFacts.{begins_rise, with_is, all_with, in_order_with, none_met, some_size}
use Rattle.pg_process.proofs.mapping.put.Goals as goal

pub begun-index-requires : goal.begun-index-requires
begun-index-requires c = rw c.deref.ensures.value (begins_rise c.args.page _ c.requires.in_order)

pub returns-clause-regions : goal.returns-clause-regions
returns-clause-regions c =
    let within = rw c.deref.ensures.value at c.begun-index.ensures.within in
    let before = rw (c.deref.ensures.value, c.from.ensures) at c.begun-index.ensures.before in
    let behind = rw (c.deref.ensures.value, c.from.ensures) at c.begun-index.ensures.behind in
    c.in-Ok.ensures.items ∙ with_is c.args.mapping c.begun-index.result c.args.mappings.now.items within before behind

pub returns-clause-in_files : goal.returns-clause-in_files
returns-clause-in_files c =
    rw (returns-clause-regions c) (All-from_recursion IsInFile _ (all_with IsInFile c.args.mapping c.args.mappings.now.items c.requires.in_file (recursion_from_All IsInFile _ c.requires.in_files)))

pub returns-clause-in_order : goal.returns-clause-in_order
returns-clause-in_order c =
    rw (returns-clause-regions c) (in_order_with c.args.page c.args.mapping c.args.mappings.now.items (some_size _ c.requires.size) c.requires.in_file.some (recursion_from_All IsInFile _ c.requires.in_files) c.requires.in_order (none_met c.args.page c.args.mapping.at c.args.mapping.pages c.args.mappings.now.items c.requires.apart))
