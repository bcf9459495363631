use Rattle.std.proofs.Common.{◌++◌, ◌∷◌, [], ap, ◌∙◌}
use Rattle.cs_policy.specs.declared.call.Call.{Call}
use Rattle.scene_made.specs.Made.{call_of}
use Rattle.scene_made.proofs.GrownFacts.{draw_added, draws_done}
use Rattle.scene_made.proofs.calls.put_drawn.Goals as goal

pub loop-preserved : goal.loop-preserved
loop-preserved c =
    draw_added (call_of c.args.file) _ _ _ c.loop.x c.next-x.result c.loop.counter 1000 c.loop-test.true c.loop.invariant c.next-x.ensures
    (c.in_ok-push.ensures.items ∙ ap (λ (x : Call). c.loop.calls.items ++ x ∷ []) c.in_ok-call.ensures)

pub returns : goal.returns
returns c = draws_done (call_of c.args.file) _ _ c.loop.x c.loop.counter 1000 c.loop-test.false c.loop.invariant
