use Rattle.std.proofs.Common.{rules}
use Rattle.std.proofs.lemmas.List.Sorted.{IsPartitionPoint-from_clause}
use Rattle.pg_regions.proofs.PlaceFacts.{copy_lesser, copies_parted}
use Rattle.pg_regions.proofs.copies.before.Goals as goal

pub returns-clause-lesser : goal.returns-clause-lesser
returns-clause-lesser c =
    (IsPartitionPoint-from_clause (copy_lesser c.args.page c.args.id) _ _ c.partition_point.ensures.partitioned (copies_parted c.args.page c.args.id c.args.copies.now c.requires) (λ a r q k. search rules)).0

pub returns-clause-others : goal.returns-clause-others
returns-clause-others c =
    (IsPartitionPoint-from_clause (copy_lesser c.args.page c.args.id) _ _ c.partition_point.ensures.partitioned (copies_parted c.args.page c.args.id c.args.copies.now c.requires) (λ a r q k. search rules)).1
