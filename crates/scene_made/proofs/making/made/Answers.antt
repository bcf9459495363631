use Rattle.std.specs.List.{zip}
use Rattle.std.proofs.Common.{ℕ, List, [], All, map, arith, ap, subst, ◌∙◌}
use Rattle.pg_digest.specs.Digests.{sha_hash}
use Rattle.scene_made.specs.Made.{cdhash_of, heads_of, four}
use Rattle.scene_made.specs.Listed.{IsListed}
use Rattle.scene_made.proofs.FitFacts.{made_fits}
use Rattle.scene_made.proofs.LimitFacts.{made_within}
use Rattle.scene_made.proofs.OpenFacts.{made_passes}
use Rattle.scene_made.proofs.making.made.Goals as goal

pub returns-clause-grammar : goal.returns-clause-grammar
returns-clause-grammar c =
    let listed : All IsListed (map (cdhash_of sha_hash c.args.n) four) = subst (λ (xs : List (List ℕ)). All IsListed xs) c.in_ok-files.ensures.cdhashes c.in_ok-head.ensures.listed in
    made_fits c.args.n _ _ _ _ (listed 0 [] (omega arith)) (listed 1 [] (omega arith)) (listed 2 [] (omega arith)) (listed 3 [] (omega arith)) _
    (c.in_ok-head.ensures.lines ∙ ap heads_of c.in_ok-files.ensures.cdhashes) c.in_ok-scripts.ensures

pub returns-clause-within : goal.returns-clause-within
returns-clause-within c =
    made_within c.args.n _ _ _ _ _ (c.in_ok-head.ensures.lines ∙ ap heads_of c.in_ok-files.ensures.cdhashes) c.in_ok-scripts.ensures

pub returns-clause-opens : goal.returns-clause-opens
returns-clause-opens c =
    made_passes c.args.n _ c.new.result.told (c.in_ok-head.ensures.lines ∙ ap heads_of c.in_ok-files.ensures.cdhashes)
    (c.new.ensures.files ∙ (λ i. zip (c.in_ok-files.ensures.names i) (c.in_ok-files.ensures.contents i))) c.new.ensures.unread (c.new.ensures.fails ∙ c.new-fails.ensures.items)
