use Rattle.std.proofs.Common.{◌≤◌, List, sym, subst}
use Rattle.cs_policy.specs.declared.call.Call.{Call}
use Rattle.pg_history.specs.Legal.{calls_in}
use Rattle.scene_threads.specs.Workers.{MayPlay}
use Rattle.scene_threads.proofs.NeedFacts.{is-shared, few-calls, may-play}
use Rattle.scene_threads.proofs.shared.run_parts.Goals as goal

pub open-requires-clause-shared : goal.open-requires-clause-shared
open-requires-clause-shared g c = is-shared c.args.scene.now c.args.opened c.requires.within c.requires.start

pub run_opened-requires-clause-may : goal.run_opened-requires-clause-may
run_opened-requires-clause-may g c κs within =
    subst (λ (ss : List (List Call)). MayPlay c.in-Ok.ready ss) (sym c.items.ensures)
    (may-play c.args.scene.now c.args.opened c.requires.within c.requires.start c.in-Ok.ready c.in-Ok.ensures.opened.same_start)

pub run_opened-requires-clause-few : goal.run_opened-requires-clause-few
run_opened-requires-clause-few g c κs within =
    subst (λ (ss : List (List Call)). calls_in ss ≤ 4096) (sym c.items.ensures) (few-calls c.args.scene.now c.args.opened c.requires.within c.requires.start)
