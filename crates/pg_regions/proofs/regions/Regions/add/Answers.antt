use Rattle.std.proofs.Common.{subst, rules}
use Rattle.pg_regions.specs.RegionsNow.{IsSound}
use Rattle.pg_regions.specs.Kept.{regions_of}
use Rattle.pg_regions.proofs.FoundFacts.{added_found}
use Rattle.pg_regions.proofs.SoundFacts.{with_region_room, with_region_sound, with_region_fresh, sound_by}
use Rattle.pg_regions.proofs.regions.Regions.add.Goals as goal

pub invariant_of-self : goal.invariant_of-self
invariant_of-self c =
    let was = subst IsSound c.self.view_is c.self.invariant in
    sound_by _ _ (search rules) (with_region_sound c.args.self.now c.args.region was c.requires.room c.requires.absent)

pub returns-clause-sound : goal.returns-clause-sound
returns-clause-sound c =
    let was = subst IsSound c.self.view_is c.self.invariant in
    sound_by _ _ (search rules) (with_region_sound c.args.self.now c.args.region was c.requires.room c.requires.absent)

pub returns-clause-found : goal.returns-clause-found
returns-clause-found c = added_found c.args.region c.args.self.now _ (search rules) c.requires.absent

pub returns-clause-fresh : goal.returns-clause-fresh
returns-clause-fresh c =
    let was = subst IsSound c.self.view_is c.self.invariant in
    with_region_fresh c.args.self.now _ c.args.region (search rules) was c.requires.absent

pub returns-clause-room : goal.returns-clause-room
returns-clause-room c = with_region_room c.args.self.now (regions_of (record { regions = c.put.new.regions; records = c.self.inside.records; copies = c.self.inside.copies })) c.args.region (search rules)
