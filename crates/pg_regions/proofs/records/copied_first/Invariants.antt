use Rattle.std.proofs.Common.{not}
use Rattle.std.proofs.lemmas.List.Filters.{FiltersInPlace}
use Rattle.pg_regions.specs.Steps.{is_without_copy}
use Rattle.pg_regions.proofs.records.copied_first.Given as goal

abbrev pub invariant-loop-place : goal.invariant-loop-place
invariant-loop-place l =
    FiltersInPlace (λ r. not (is_without_copy l.copies.list l.page r)) l.initial.records l.records l.kept l.place
