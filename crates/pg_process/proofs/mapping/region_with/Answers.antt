use Rattle.std.proofs.Common.{sym, arith}
use Rattle.pg_process.proofs.OrderFacts.{ends_rise, found_with, not_found_with}
use Rattle.pg_process.proofs.mapping.region_with.Goals.{else-index-mappings-via-then-index-mappings+else-mappings-index, else-index-mappings-via-else-index-mappings}
use Rattle.pg_process.proofs.mapping.region_with.Goals as goal

pub ended-index-requires : goal.ended-index-requires
ended-index-requires c = ends_rise c.args.page _ c.requires.in_order

pub returns-then-mappings-index-clause-first : goal.returns-then-mappings-index-clause-first
returns-then-mappings-index-clause-first c =
    sym (found_with c.args.page c.args.addr _ c.args.mappings.now _ c.if-index-mappings.true c.ended-index.ensures.before (c.ended-index.ensures.behind _ _ (omega arith) c.if-index-mappings.true) c.if-mappings-index.true)

pub returns-clause-first : goal.returns-clause-first
returns-clause-first c =
    sym (not_found_with c.args.page c.args.addr c.ended-index.result c.args.mappings.now c.requires.in_order c.ended-index.ensures.before _ (λ within.
    elim c.else-index-mappings.branch [
      | else-index-mappings-via-then-index-mappings+else-mappings-index w ↦ w.if-mappings-index.false
      | else-index-mappings-via-else-index-mappings w ↦ absurd (omega arith)
    ]))
