use Rattle.std.proofs.Common.{◌≡◌, false, Option, Some, None, Bor, sym, subst, rules}
use Rattle.std.specs.Prelude.{option_copied, is_some}
use Rattle.cs_policy.specs.declared.region.Region.{Region}
use Rattle.pg_regions.specs.Lookups.{region_of}
use Rattle.pg_regions.specs.RegionsNow.{IsSound}
use Rattle.pg_regions.proofs.FoundFacts.{region_gone}
use Rattle.pg_regions.proofs.SoundFacts.{without_absent, without_region_sound, without_region_room, sound_by, room_by}
use Rattle.pg_regions.proofs.regions.Regions.drop_region.Goals as goal

absent : (result : Option (Bor Region)) (found : Option Region) → option_copied result ≡ found → is_some result ≡ false → found ≡ None
absent None found e none = sym e
absent (Some region) found e none = absurd (cc)

pub invariant_of-self : goal.invariant_of-self
invariant_of-self c =
    let was = subst IsSound c.self.view_is c.self.invariant in
    sound_by _ _ (search rules) (without_region_sound c.args.self.now c.args.id was)

pub returns-clause-sound : goal.returns-clause-sound
returns-clause-sound c =
    let was = subst IsSound c.self.view_is c.self.invariant in
    sound_by _ _ (search rules) (without_region_sound c.args.self.now c.args.id was)

pub returns-clause-found : goal.returns-clause-found
returns-clause-found c = region_gone c.args.id c.args.self.now _ (search rules)

pub returns-clause-room : goal.returns-clause-room
returns-clause-room c = room_by _ _ _ (search rules) (without_region_room c.args.self.now c.args.id)

pub returns-then-is_none-clause-after : goal.returns-then-is_none-clause-after
returns-then-is_none-clause-after c =
    let was = subst IsSound c.self.view_is c.self.invariant in
    let none = absent c.find.result (region_of c.args.self.now.regions c.args.id) c.find.ensures.found c.if-is_none.ensures in
    without_absent c.args.self.now c.args.id was none

pub returns-then-is_none-clause-found : goal.returns-then-is_none-clause-found
returns-then-is_none-clause-found c =
    let was = subst IsSound c.self.view_is c.self.invariant in
    let none = absent c.find.result (region_of c.args.self.now.regions c.args.id) c.find.ensures.found c.if-is_none.ensures in
    region_gone c.args.id c.args.self.now c.args.self.now (without_absent c.args.self.now c.args.id was none)
