use Rattle.pg_process.proofs.OrderFacts.{begins_rise, ends_rise, met_is}
use Rattle.pg_process.proofs.mapping.least_met.Goals as goal

pub ended-first-requires : goal.ended-first-requires
ended-first-requires c = ends_rise c.args.page _ c.requires

pub begun-requires : goal.begun-requires
begun-requires c = begins_rise c.args.page _ c.requires

pub returns : goal.returns
returns c =
    let before = rw (c.from.ensures, c.from-2.ensures, c.from-3.ensures) at c.begun.ensures.before in
    let behind = rw (c.from.ensures, c.from-2.ensures, c.from-3.ensures) at c.begun.ensures.behind in
    let together =
    met_is c.args.page c.args.at c.args.pages c.ended-first.result c.begun.result c.args.mappings.now c.ended-first.ensures.within c.begun.ensures.within c.ended-first.ensures.before c.ended-first.ensures.behind before behind in
    rw (together, ← c.max-last.ensures) c.least_id.ensures
