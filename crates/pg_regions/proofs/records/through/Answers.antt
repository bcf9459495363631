use Rattle.std.proofs.Common.{leb, leb-true, leb-false, rules}
use Rattle.std.proofs.lemmas.List.Sorted.{IsPartitionPoint-from_clause, IsPartitionedBy-leb}
use Rattle.cs_policy.specs.declared.region.Record.{Record}
use Rattle.pg_regions.proofs.PlaceFacts.{pages_rise}
use Rattle.pg_regions.proofs.records.through.Goals as goal

pub returns-clause-others : goal.returns-clause-others
returns-clause-others c =
    let split = IsPartitionPoint-from_clause (λ (r : Record). leb r.page c.args.page) _ _ c.partition_point.ensures.partitioned (IsPartitionedBy-leb (λ (r : Record). r.page) _ c.args.page (pages_rise c.args.records.now c.requires)) (λ a r q k. search rules) in
    λ k d le lt. leb-true _ _ (split.0 k d le lt)

pub returns-clause-greater : goal.returns-clause-greater
returns-clause-greater c =
    let split = IsPartitionPoint-from_clause (λ (r : Record). leb r.page c.args.page) _ _ c.partition_point.ensures.partitioned (IsPartitionedBy-leb (λ (r : Record). r.page) _ c.args.page (pages_rise c.args.records.now c.requires)) (λ a r q k. search rules) in
    λ k d le lt. leb-false _ _ (split.1 k d le lt)
