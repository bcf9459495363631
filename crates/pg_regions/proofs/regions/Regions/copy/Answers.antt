use Rattle.std.proofs.Common.{subst, rules}
use Rattle.pg_regions.specs.RegionsNow.{IsSound}
use Rattle.pg_regions.proofs.SoundFacts.{found_whole}
use Rattle.pg_regions.proofs.regions.Regions.copy.Goals as goal

pub returns-clause-whole : goal.returns-clause-whole
returns-clause-whole c =
    let was = subst IsSound c.self.view_is c.self.invariant in
    found_whole c.args.self.now c.args.id c.args.page c.find.result was (search rules)
