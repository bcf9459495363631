use Rattle.std.proofs.Common.{◌≡◌, ◌≢◌, ◌==◌, ◌∙◌, ℕ, not, true, false, ap, sym, arith}
use Rattle.std.proofs.lemmas.Grind.{common_steps}
use Rattle.std.proofs.lemmas.List.Filters.{FiltersInPlace-more_swap, FiltersInPlace-more_no}
use Rattle.std.proofs.lemmas.List.Sorted.{IsPermutation-trans}
use Rattle.pg_regions.specs.Lookups.{Copy}
use Rattle.pg_regions.proofs.copies.others_first.Goals as goal
use Rattle.pg_regions.proofs.copies.others_first.Goals.{then-region-id, else-region-id}

stays : (copy : Copy) (id region : ℕ) → region ≡ copy.region → region ≢ id → not (copy.region == id) ≡ true
stays copy id region same other = grind (arith, common_steps, same, other)

goes : (copy : Copy) (id region : ℕ) → region ≡ copy.region → region ≡ id → not (copy.region == id) ≡ false
goes copy id region same own = grind (arith, common_steps, same, own)

pub loop-i-preserved : goal.loop-i-preserved
loop-i-preserved c =
    let copy = c.index-held-i.result in
    let region = c.region.ensures ∙ ap (λ (x : Copy). x.region) (sym c.index-held-i.is) in
    elim c.if-region-id.branch [
      | then-region-id w ↦ record {
        filters =
            rw (w.held-is, w.kept-is) (FiltersInPlace-more_swap c.loop-i.invariant.filters (omega arith) (stays copy c.args.id c.region.result region w.if-region-id.true) c.index-held-i.is w.swap.ensures.by_index);
        same = rw w.held-is (IsPermutation-trans _ _ _ c.loop-i.invariant.same w.swap.ensures.permutation);
      }
      | else-region-id w ↦ record {
        filters =
            rw (w.held-is, w.kept-is) (FiltersInPlace-more_no c.loop-i.invariant.filters (omega arith) (goes copy c.args.id c.region.result region w.if-region-id.false) c.index-held-i.is);
        same = rw w.held-is c.loop-i.invariant.same;
      }
    ]
