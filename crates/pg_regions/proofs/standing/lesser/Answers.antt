use Rattle.std.proofs.Common.{ltb, ltb-true, ltb-false, rules}
use Rattle.std.proofs.lemmas.List.Sorted.{IsPartitionPoint-from_clause, IsPartitionedBy-ltb}
use Rattle.cs_policy.specs.declared.region.Region.{Region}
use Rattle.pg_regions.proofs.PlaceFacts.{numbers_rise}
use Rattle.pg_regions.proofs.standing.lesser.Goals as goal

pub returns-clause-lesser : goal.returns-clause-lesser
returns-clause-lesser c =
    let split = IsPartitionPoint-from_clause (λ (r : Region). ltb r.id c.args.id) _ _ c.partition_point.ensures.partitioned (IsPartitionedBy-ltb (λ (r : Region). r.id) _ c.args.id (numbers_rise c.args.regions.now c.requires)) (λ a r q k. search rules) in
    λ k d le lt. ltb-true _ _ (split.0 k d le lt)

pub returns-clause-others : goal.returns-clause-others
returns-clause-others c =
    let split = IsPartitionPoint-from_clause (λ (r : Region). ltb r.id c.args.id) _ _ c.partition_point.ensures.partitioned (IsPartitionedBy-ltb (λ (r : Region). r.id) _ c.args.id (numbers_rise c.args.regions.now c.requires)) (λ a r q k. search rules) in
    λ k d le lt. ltb-false _ _ (split.1 k d le lt)
