use Rattle.std.proofs.Common.{sym, ◌∙◌}
use Rattle.pg_calls.proofs.ExitFacts.{exit-room, exit-alone, exit-done}
use Rattle.pg_calls.proofs.ending.exit.Goals as goal

pub drop_regions-requires-clause-room : goal.drop_regions-requires-clause-room
drop_regions-requires-clause-room g c =
    exit-room g.T.Parts.hash c.args.who c.args.pid (g.T.Parts.shows c.args.parts.now) _ c.process-exit.result c.process-exit.ensures.asks c.requires.room

pub returns-in_default-clause-enters : goal.returns-in_default-clause-enters
returns-in_default-clause-enters g c =
    exit-alone g.T.Parts.hash c.args.who c.args.pid (g.T.Parts.shows c.args.parts.now) _ c.process-exit.result c.process-exit.ensures.asks
    (sym c.exited.ensures ∙ c.in_default.is)

pub returns-clause-enters : goal.returns-clause-enters
returns-clause-enters g c =
    exit-done g.T.Parts.hash c.args.who c.args.pid (g.T.Parts.shows c.args.parts.now) _ c.process-exit.result c.process-exit.ensures.asks
    c.in-Some.files _ (sym c.exited.ensures ∙ c.in-Some.is) c.drop_regions.ensures.drops
