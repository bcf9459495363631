use Rattle.std.proofs.Common.{◌≡◌, ◌+◌, refl, ap, ◌∙◌}
use Rattle.scene_open.proofs.ItemFacts.{none_taken, step_taken, step_ends}
use Rattle.scene_open.proofs.items.take_all.Goals as goal

pub loop-head-init : goal.loop-head-init
loop-head-init g c = (none_taken _ _ c.new-draft.result c.new-draft.ensures.pagers c.new-draft.ensures.layouts c.new-draft.ensures.statics c.new-draft.ensures.caches, refl, refl)

pub loop-head-preserved : goal.loop-head-preserved
loop-head-preserved g c =
    let l = c.loop-head in
    let next : l.number + 1 ≡ l.head-index + 1 = ap (λ n. n + 1) l.invariant.2 in (
      step_taken c.args.heads.now l.head-index (l.number + 1) c.head-item.result _ l.draft _ c.take.new.self _ c.loop-head-test.true c.head-item.is next l.invariant.0 c.in-Ok.ensures.takes,
      c.in-Ok.ensures.cause ∙ l.invariant.1,
      next,
    )

pub returns-in-Err-clause-takes : goal.returns-in-Err-clause-takes
returns-in-Err-clause-takes g c =
    let l = c.loop-head in
    let next : l.number + 1 ≡ l.head-index + 1 = ap (λ n. n + 1) l.invariant.2 in
    step_ends c.args.heads.now l.head-index (l.number + 1) c.head-item.result _ l.draft _ c.take.new.self _ c.in-Err.status c.loop-head-test.true c.head-item.is next l.invariant.0 c.in-Err.ensures.takes
