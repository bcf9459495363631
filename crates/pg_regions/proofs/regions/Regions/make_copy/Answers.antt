use Rattle.std.proofs.Common.{subst, rules}
use Rattle.pg_regions.specs.RegionsNow.{IsSound}
use Rattle.pg_regions.specs.Kept.{regions_of}
use Rattle.pg_regions.specs.Steps.{private_copy}
use Rattle.pg_regions.proofs.FoundFacts.{made_found}
use Rattle.pg_regions.proofs.SoundFacts.{with_copy_room, with_copy_sound, sound_by}
use Rattle.pg_regions.proofs.regions.Regions.make_copy.Goals as goal

pub invariant_of-self : goal.invariant_of-self
invariant_of-self c =
    let was = subst IsSound c.self.view_is c.self.invariant in
    sound_by _ _ (search rules)
    (with_copy_sound c.args.self.now (private_copy c.args.id c.args.page c.args.bytes.now) was
    c.requires.room c.requires.absent c.requires.stands c.requires.whole)

pub returns-clause-sound : goal.returns-clause-sound
returns-clause-sound c =
    let was = subst IsSound c.self.view_is c.self.invariant in
    sound_by _ _ (search rules)
    (with_copy_sound c.args.self.now (private_copy c.args.id c.args.page c.args.bytes.now) was
    c.requires.room c.requires.absent c.requires.stands c.requires.whole)

pub returns-clause-found : goal.returns-clause-found
returns-clause-found c =
    made_found c.args.id c.args.page c.args.bytes.now c.args.self.now _ (search rules) c.requires.absent

pub returns-clause-room : goal.returns-clause-room
returns-clause-room c = with_copy_room c.args.self.now (regions_of (record { regions = c.self.inside.regions; records = c.self.inside.records; copies = c.make.new.self })) (private_copy c.args.id c.args.page c.args.bytes.now) (search rules)
