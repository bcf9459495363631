use Rattle.std.proofs.Common.{◌==◌, not}
use Rattle.std.specs.List.Sorted.{IsPermutation}
use Rattle.std.proofs.lemmas.List.Filters.{FiltersInPlace}
use Rattle.pg_regions.proofs.copies.others_first.Given as goal

abbrev pub invariant-loop-i : goal.invariant-loop-i
invariant-loop-i l = record {
  filters : FiltersInPlace (λ copy. not (copy.region == l.id)) l.initial.held l.held l.kept l.i;
  same : IsPermutation l.initial.held l.held;
}
