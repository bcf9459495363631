use Rattle.std.proofs.Common.{sym, subst}
use Rattle.pg_shared.specs.Plan.{Plan}
use Rattle.pg_shared.specs.Closing.{ArePassesOfRun}
use Rattle.pg_shared.proofs.OpenFacts.{passes-of-run}
use Rattle.pg_shared.proofs.tests.told.Goals as goal

pub close-requires-clause-passes : goal.close-requires-clause-passes
close-requires-clause-passes g c =
    subst (λ (p : Plan). ArePassesOfRun p c.args.passes.items) (sym c.requires.name) (passes-of-run c.args.ready _ c.args.passes.items c.requires.opened)
