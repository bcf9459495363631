use Rattle.std.proofs.Common.{subst, rules}
use Rattle.pg_regions.specs.RegionsNow.{IsSound}
use Rattle.pg_regions.proofs.FoundFacts.{granted_found}
use Rattle.pg_regions.proofs.SoundFacts.{granted_sound, sound_by}
use Rattle.pg_regions.proofs.regions.Regions.grant.Goals as goal

pub invariant_of-self : goal.invariant_of-self
invariant_of-self c =
    let was = subst IsSound c.self.view_is c.self.invariant in
    sound_by _ _ (search rules)
    (granted_sound c.args.self.now c.args.id c.args.page c.args.access c.args.guarded c.grant.new.records.items was
    c.requires.stands c.requires.room c.grant.ensures.rises (search rules))

pub returns-clause-sound : goal.returns-clause-sound
returns-clause-sound c =
    let was = subst IsSound c.self.view_is c.self.invariant in
    sound_by _ _ (search rules)
    (granted_sound c.args.self.now c.args.id c.args.page c.args.access c.args.guarded c.grant.new.records.items was
    c.requires.stands c.requires.room c.grant.ensures.rises (search rules))

pub returns-clause-found : goal.returns-clause-found
returns-clause-found c = granted_found c.args.id c.args.page c.args.access c.args.guarded c.args.self.now _ (search rules)
