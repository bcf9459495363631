use Rattle.std.proofs.Common.{subst, rules}
use Rattle.pg_regions.specs.RegionsNow.{IsSound}
use Rattle.pg_regions.proofs.WriterFacts.{writer_least, writer_none}
use Rattle.pg_regions.proofs.regions.Regions.writer.Goals as goal

pub returns-clause-least : goal.returns-clause-least
returns-clause-least c =
    let was = subst IsSound c.self.view_is c.self.invariant in
    writer_least c.args.self.now.regions c.args.self.now.records c.args.page c.writer.result (search rules) was.one_record

pub returns-clause-none : goal.returns-clause-none
returns-clause-none c = writer_none c.args.self.now.regions c.args.self.now.records c.args.page c.writer.result (search rules)
