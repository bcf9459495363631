use Rattle.std.proofs.Common.{subst, rules}
use Rattle.pg_regions.specs.RegionsNow.{IsSound}
use Rattle.pg_regions.proofs.FoundFacts.{put_found}
use Rattle.pg_regions.proofs.SoundFacts.{with_bytes_sound, sound_by}
use Rattle.pg_regions.proofs.regions.Regions.put_copy.Goals as goal

pub invariant_of-self : goal.invariant_of-self
invariant_of-self c =
    let was = subst IsSound c.self.view_is c.self.invariant in
    sound_by _ _ (search rules) (with_bytes_sound c.args.id c.args.page c.args.at c.args.bytes.now c.args.self.now was c.requires.fits)

pub returns-clause-sound : goal.returns-clause-sound
returns-clause-sound c =
    let was = subst IsSound c.self.view_is c.self.invariant in
    sound_by _ _ (search rules) (with_bytes_sound c.args.id c.args.page c.args.at c.args.bytes.now c.args.self.now was c.requires.fits)

pub returns-clause-found : goal.returns-clause-found
returns-clause-found c = put_found c.args.id c.args.page c.args.at c.args.bytes.now c.args.self.now _ (search rules)
