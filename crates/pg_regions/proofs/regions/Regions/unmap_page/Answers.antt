use Rattle.std.proofs.Common.{subst, rules}
use Rattle.pg_regions.specs.RegionsNow.{IsSound}
use Rattle.pg_regions.proofs.FoundFacts.{unmapped_found}
use Rattle.pg_regions.proofs.SoundFacts.{unmapped_sound, unmapped_room, sound_by, room_by}
use Rattle.pg_regions.proofs.regions.Regions.unmap_page.Goals as goal

pub invariant_of-self : goal.invariant_of-self
invariant_of-self c =
    let was = subst IsSound c.self.view_is c.self.invariant in
    sound_by _ _ (search rules) (unmapped_sound c.args.self.now c.args.page was)

pub returns-clause-sound : goal.returns-clause-sound
returns-clause-sound c =
    let was = subst IsSound c.self.view_is c.self.invariant in
    sound_by _ _ (search rules) (unmapped_sound c.args.self.now c.args.page was)

pub returns-clause-found : goal.returns-clause-found
returns-clause-found c = unmapped_found c.args.page c.args.self.now.copies c.args.self.now.records _ (search rules)

pub returns-clause-room : goal.returns-clause-room
returns-clause-room c = room_by _ _ _ (search rules) (unmapped_room c.args.self.now c.args.page)
