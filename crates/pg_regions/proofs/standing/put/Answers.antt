use Rattle.std.proofs.Common.{◌∙◌, lt-ltb, le-ltb}
use Rattle.pg_regions.specs.Lookups.{region_before}
use Rattle.pg_regions.proofs.OrderFacts.{in_order_is}
use Rattle.pg_regions.proofs.standing.put.Goals as goal

pub returns-clause-regions : goal.returns-clause-regions
returns-clause-regions c =
    let within = rw c.deref.ensures.value at c.lesser-place.ensures.within in
    let lesser = rw c.deref.ensures.value at c.lesser-place.ensures.lesser in
    let others = rw c.deref.ensures.value at c.lesser-place.ensures.others in
    c.in-Ok.ensures.items ∙ in_order_is region_before c.args.region c.lesser-place.result c.args.regions.now.items within (λ k d le lt. lt-ltb _ _ (lesser k d le lt)) (λ k d le lt. le-ltb _ _ (others k d le lt))
