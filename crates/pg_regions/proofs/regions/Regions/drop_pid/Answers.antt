use Rattle.std.proofs.Common.{subst, rules}
use Rattle.pg_regions.specs.RegionsNow.{IsSound}
use Rattle.pg_regions.proofs.FoundFacts.{pid_gone}
use Rattle.pg_regions.proofs.SoundFacts.{without_pid_sound, without_pid_room, sound_by, room_by}
use Rattle.pg_regions.proofs.regions.Regions.drop_pid.Goals as goal

pub invariant_of-self : goal.invariant_of-self
invariant_of-self c =
    let was = subst IsSound c.self.view_is c.self.invariant in
    sound_by _ _ (search rules) (without_pid_sound c.args.self.now c.args.pid was)

pub returns-clause-sound : goal.returns-clause-sound
returns-clause-sound c =
    let was = subst IsSound c.self.view_is c.self.invariant in
    sound_by _ _ (search rules) (without_pid_sound c.args.self.now c.args.pid was)

pub returns-clause-found : goal.returns-clause-found
returns-clause-found c =
    let was = subst IsSound c.self.view_is c.self.invariant in
    pid_gone c.args.pid c.args.self.now _ was.one_region (search rules)

pub returns-clause-room : goal.returns-clause-room
returns-clause-room c =
    let was = subst IsSound c.self.view_is c.self.invariant in
    room_by _ _ _ (search rules) (without_pid_room c.args.self.now c.args.pid was)
