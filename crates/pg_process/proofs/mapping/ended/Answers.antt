use Rattle.std.proofs.Common.{leb, leb-true, leb-false, rules}
use Rattle.std.proofs.lemmas.List.Sorted.{IsPartitionPoint-from_clause, IsPartitionedBy-leb}
use Rattle.pg_process.specs.declared.mapping.Mapping.{Mapping}
use Rattle.pg_process.specs.Regions.{end_of}
use Rattle.pg_process.proofs.mapping.ended.Goals as goal

pub returns-clause-before : goal.returns-clause-before
returns-clause-before c =
    let split = IsPartitionPoint-from_clause (λ (m : Mapping). leb (end_of c.args.page m) c.args.address) _ _ c.partition_point.ensures.partitioned (IsPartitionedBy-leb (end_of c.args.page) _ c.args.address c.requires) (λ a r q k. search rules) in
    λ k d le lt. leb-true _ _ (split.0 k d le lt)

pub returns-clause-behind : goal.returns-clause-behind
returns-clause-behind c =
    let split = IsPartitionPoint-from_clause (λ (m : Mapping). leb (end_of c.args.page m) c.args.address) _ _ c.partition_point.ensures.partitioned (IsPartitionedBy-leb (end_of c.args.page) _ c.args.address c.requires) (λ a r q k. search rules) in
    λ k d le lt. leb-false _ _ (split.1 k d le lt)
