use Rattle.std.proofs.Common.{ltb, ltb-true, ltb-false, rules}
use Rattle.std.proofs.lemmas.List.Sorted.{IsPartitionPoint-from_clause, IsPartitionedBy-ltb}
use Rattle.pg_process.specs.declared.mapping.Mapping.{Mapping}
use Rattle.pg_process.proofs.mapping.begun.Goals as goal

pub returns-clause-before : goal.returns-clause-before
returns-clause-before c =
    let split = IsPartitionPoint-from_clause (λ (m : Mapping). ltb m.at c.args.address) _ _ c.partition_point.ensures.partitioned (IsPartitionedBy-ltb (λ (m : Mapping). m.at) _ c.args.address c.requires) (λ a r q k. search rules) in
    λ k d le lt. ltb-true _ _ (split.0 k d le lt)

pub returns-clause-behind : goal.returns-clause-behind
returns-clause-behind c =
    let split = IsPartitionPoint-from_clause (λ (m : Mapping). ltb m.at c.args.address) _ _ c.partition_point.ensures.partitioned (IsPartitionedBy-ltb (λ (m : Mapping). m.at) _ c.args.address c.requires) (λ a r q k. search rules) in
    λ k d le lt. ltb-false _ _ (split.1 k d le lt)
