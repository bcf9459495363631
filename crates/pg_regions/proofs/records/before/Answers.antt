use Rattle.std.proofs.Common.{ltb, ltb-true, ltb-false, rules}
use Rattle.std.proofs.lemmas.List.Sorted.{IsPartitionPoint-from_clause, IsPartitionedBy-ltb}
use Rattle.cs_policy.specs.declared.region.Record.{Record}
use Rattle.pg_regions.proofs.PlaceFacts.{pages_rise}
use Rattle.pg_regions.proofs.records.before.Goals as goal

pub returns-clause-lesser : goal.returns-clause-lesser
returns-clause-lesser c =
    let split = IsPartitionPoint-from_clause (λ (r : Record). ltb r.page c.args.page) _ _ c.partition_point.ensures.partitioned (IsPartitionedBy-ltb (λ (r : Record). r.page) _ c.args.page (pages_rise c.args.records.now c.requires)) (λ a r q k. search rules) in
    λ k d le lt. ltb-true _ _ (split.0 k d le lt)

pub returns-clause-others : goal.returns-clause-others
returns-clause-others c =
    let split = IsPartitionPoint-from_clause (λ (r : Record). ltb r.page c.args.page) _ _ c.partition_point.ensures.partitioned (IsPartitionedBy-ltb (λ (r : Record). r.page) _ c.args.page (pages_rise c.args.records.now c.requires)) (λ a r q k. search rules) in
    λ k d le lt. ltb-false _ _ (split.1 k d le lt)
