use Rattle.std.proofs.Common.{◌≡◌, ◌∙◌, ℕ, List, vec_capacity, ap}
use Rattle.std.specs.Prelude.{insert}
use Rattle.pg_bytes.specs.Order.{in_order}
use Rattle.pg_regions.specs.Lookups.{Copy, copy_before}
use Rattle.pg_regions.specs.Copies.{CopiesNow}
use Rattle.pg_regions.specs.Steps.{private_copy}
use Rattle.pg_regions.proofs.OrderFacts.{in_order_is}
use Rattle.pg_regions.proofs.copies.Copies.make.Goals as goal

pub returns : goal.returns
returns c =
    let held = c.self.inside.held.items in
    let new = private_copy c.args.id c.args.page c.args.bytes.now in
    let place = c.before-place.result in
    let within = rw c.deref.ensures.value at c.before-place.ensures.within in
    let lesser = rw c.deref.ensures.value at c.before-place.ensures.lesser in
    let others = rw c.deref.ensures.value at c.before-place.ensures.others in
    let put : c.put_held.new.held.items ≡ in_order copy_before new held =
    c.put_held.ensures.held ∙ ap (insert held place) c.fill.ensures ∙ in_order_is copy_before new place held within lesser others in
    ap (λ (l : List Copy). record { page = c.self.inside.page; list = l; room = vec_capacity c.put_held.new.held }) put
    ∙ ap (λ (n : ℕ). record { page = c.self.inside.page; list = in_order copy_before new held; room = n }) c.put_held.ensures.capacity
    ∙ ap (λ (v : CopiesNow). record v { list = in_order copy_before new v.list }) c.self.view_is
