use Rattle.std.proofs.Common.{arith, ◌≤◌, ◌^◌}
use Rattle.std.specs.Int.{div_ceil}
use Rattle.pg_object.proofs.SizeFacts.{few_ceil}
use Rattle.pg_object.proofs.kept.end_covered.Goals as goal

pub overflow_add-result : goal.overflow_add-result
overflow_add-result c =
    let few : div_ceil c.limit.result c.args.size ≤ 2 ^ 52 = few_ceil c.limit.result c.args.size c.requires c.limit.type_inv in
    let same = c.div_ceil.ensures in
    let from = c.from.ensures in
    let first = c.first_covered.ensures.few in
    let count : c.div_ceil.result ≤ 2 ^ 52 = rw (same, from) few in
    omega arith
