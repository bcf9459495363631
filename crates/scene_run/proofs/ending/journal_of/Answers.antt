use Rattle.std.proofs.Common.{◌<◌, List, sym, subst, arith}
use Rattle.cs_policy.specs.declared.call.Call.{Call}
use Rattle.pg_history.specs.Legal.{calls_in}
use Rattle.scene_run.proofs.LinesFacts.{few-scripts}
use Rattle.scene_run.proofs.ending.journal_of.Goals as goal

pub calls_in-requires : goal.calls_in-requires
calls_in-requires c = record {
  few = subst (λ (ss : List (List Call)). calls_in ss < 4294967296) (sym c.items.ensures)
      (let few : calls_in c.args.scene.now.scripts < 4294967296 = omega (arith, (few-scripts c.args.scene.now c.requires.within).calls) in few);
}
