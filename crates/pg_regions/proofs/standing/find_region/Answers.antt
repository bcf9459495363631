use Rattle.std.proofs.Common.{sym, ap, ◌∙◌, ⊎_elim, eq-eqb, arith}
use Rattle.std.proofs.lemmas.Bool.{cases_lt, ne_eqb}
use Rattle.std.proofs.lemmas.List.{get_or_default}
use Rattle.cs_policy.specs.declared.region.Region.{Region}
use Rattle.pg_bytes.proofs.SplitFacts.{finds_at, finds_none}
use Rattle.pg_regions.specs.Lookups.{is_region}
use Rattle.pg_regions.proofs.PlaceFacts.{numbers_rise}
use Rattle.pg_regions.proofs.standing.find_region.Goals.{else-place-regions-via-then-place-regions+else-regions-place, else-place-regions-via-else-place-regions}
use Rattle.pg_regions.proofs.standing.find_region.Goals as goal

pub returns-then-regions-place : goal.returns-then-regions-place
returns-then-regions-place c =
    sym (finds_at (is_region c.args.id) c.lesser-place.result c.args.regions.now _ c.if-place-regions.true
    (λ k d le lt. let less = c.lesser-place.ensures.lesser k d le lt in ne_eqb _ c.args.id (λ same. omega arith))
    (eq-eqb _ c.args.id c.if-regions-place.true))

pub returns : goal.returns
returns c =
    sym (finds_none (is_region c.args.id) c.args.regions.now (λ k d le lt.
    ⊎_elim (λ before. let less = c.lesser-place.ensures.lesser k d le before in ne_eqb _ c.args.id (λ same. omega arith))
    (λ from.
    let rise = numbers_rise c.args.regions.now c.requires c.lesser-place.result k d from lt in
    elim c.else-place-regions.branch [
      | else-place-regions-via-then-place-regions+else-regions-place w ↦
          let one = ap (λ (r : Region). r.id) (get_or_default c.args.regions.now c.lesser-place.result _ d w.if-place-regions.true) in
          let above = c.lesser-place.ensures.others c.lesser-place.result d (omega arith) w.if-place-regions.true in
          ne_eqb _ c.args.id (λ same. w.if-regions-place.false (one ∙ omega arith))
      | else-place-regions-via-else-place-regions w ↦ absurd (omega arith)
    ]) (cases_lt k c.lesser-place.result)))
