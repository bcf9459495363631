use Rattle.std.proofs.Common.{◌≡◌, get_or, ap, ◌∙◌, arith, ⊎_elim}
use Rattle.std.proofs.lemmas.Bool.{cases_lt}
use Rattle.std.proofs.lemmas.List.{get_or_default}
use Rattle.pg_process.proofs.mapping.place_at.Goals.{else-index-mappings-via-then-index-mappings+else-mappings-index, else-index-mappings-via-else-index-mappings}
use Rattle.pg_process.proofs.mapping.place_at.Goals as goal

pub returns-then-mappings-index : goal.returns-then-mappings-index
returns-then-mappings-index c = record {
  found = record {
    within = c.if-index-mappings.true;
    here = λ d. ap (λ m. m.at) (get_or_default c.args.mappings.now c.begun-index.result d _ c.if-index-mappings.true) ∙ c.if-mappings-index.true;
    before = rw c.from.ensures at c.begun-index.ensures.before;
  };
  none = tt;
}

pub returns : goal.returns
returns c = record {
  found = tt;
  none = λ k d le lt same.
      let behind = rw c.from.ensures at c.begun-index.ensures.behind in
      let before = rw c.from.ensures at c.begun-index.ensures.before in
      ⊎_elim (λ less. let below = before k d le less in omega arith)
      (λ from.
      elim c.else-index-mappings.branch [
        | else-index-mappings-via-then-index-mappings+else-mappings-index w ↦
            let rises = c.requires c.begun-index.result k d from lt in
            let above = behind c.begun-index.result d (omega arith) (omega arith) in
            let there : (get_or c.args.mappings.now c.begun-index.result d).at ≡ c.args.at = omega arith in
            absurd (w.if-mappings-index.false (ap (λ m. m.at) (get_or_default c.args.mappings.now c.begun-index.result _ d w.if-index-mappings.true) ∙ there))
        | else-index-mappings-via-else-index-mappings w ↦ absurd (omega arith)
      ]) (cases_lt k c.begun-index.result);
}
