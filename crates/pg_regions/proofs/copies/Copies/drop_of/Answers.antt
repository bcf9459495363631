use Rattle.std.proofs.Common.{◌≡◌, ◌==◌, ◌∙◌, not, length, take, filter, ap, sym, subst, arith}
use Rattle.std.specs.Prelude.{All}
use Rattle.std.proofs.lemmas.List.Elements.{All-filter}
use Rattle.std.proofs.lemmas.List.Sorted.{All-permutation, length_permutation}
use Rattle.pg_regions.specs.Lookups.{Copy}
use Rattle.pg_regions.specs.Copies.{IsWhole}
use Rattle.pg_regions.proofs.ListFacts.{whole_again}
use Rattle.pg_regions.proofs.copies.Copies.drop_of.Goals as goal

pub invariant_of-self : goal.invariant_of-self
invariant_of-self c =
    let page = c.self.inside.page in
    let held = c.self.inside.held.items in
    let same = c.others_first-kept.ensures.same in
    let long : length c.others_first-kept.new.held ≡ length held = length_permutation _ _ same ∙ ap length c.deref_mut.ensures.value in
    let whole = whole_again c.self.inside.held.len c.others_first-kept.new.held held long c.self.inside.held.ok.0 in
    let left = filter (λ (copy : Copy). not (copy.region == c.args.id)) held in
    let kept : c.free_behind.new.held.items ≡ left = c.free_behind.ensures.held ∙ ap (take c.others_first-kept.result) whole ∙ c.others_first-kept.ensures.others ∙ ap (filter (λ (copy : Copy). not (copy.region == c.args.id))) c.deref_mut.ensures.value in
    record {
      count = omega (arith, c.free_behind.ensures.count, c.free_behind.ensures.held_capacity, c.self.invariant.count);
      free_room = omega (arith, c.free_behind.ensures.held_capacity, c.free_behind.ensures.free_capacity, c.self.invariant.free_room);
      held_whole = subst (All (IsWhole page)) (sym kept) (All-filter (λ copy. not (copy.region == c.args.id)) (IsWhole page) held c.self.invariant.held_whole);
      free_whole =
          c.free_behind.ensures.whole page (rw whole (All-permutation (IsWhole page) _ _ same (rw c.deref_mut.ensures.value c.self.invariant.held_whole))) c.self.invariant.free_whole;
    }
