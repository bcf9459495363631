use Rattle.std.proofs.Common.{subst, arith}
use Rattle.std.proofs.lemmas.Grind.{common_steps}
use Rattle.pg_regions.specs.RegionsNow.{IsSound}
use Rattle.pg_regions.proofs.FoundFacts.{stripped_found}
use Rattle.pg_regions.proofs.SoundFacts.{stripped_sound, sound_by}
use Rattle.pg_regions.proofs.regions.Regions.strip.Goals as goal

pub invariant_of-self : goal.invariant_of-self
invariant_of-self c =
    let was = subst IsSound c.self.view_is c.self.invariant in
    sound_by _ _ (grind (arith, common_steps)) (stripped_sound c.args.self.now c.args.page was)

pub returns-clause-sound : goal.returns-clause-sound
returns-clause-sound c =
    let was = subst IsSound c.self.view_is c.self.invariant in
    sound_by _ _ (grind (arith, common_steps)) (stripped_sound c.args.self.now c.args.page was)

pub returns-clause-found : goal.returns-clause-found
returns-clause-found c = stripped_found c.args.page c.args.self.now.records _ (grind (arith, common_steps))
