use Rattle.std.proofs.Common.{refl}
use Rattle.scene_open.specs.Drafts.{HasStatic}
use Rattle.scene_open.proofs.ReadFacts.{takes_admitted, more_cause}
use Rattle.scene_open.proofs.draft.Draft.take_admitted.Goals as goal

pub returns-in-Ok-clause-takes : goal.returns-in-Ok-clause-takes
returns-in-Ok-clause-takes c = λ heads number told.
    takes_admitted heads number c.args.cdhash c.args.self.now c.push_static.new.self told c.in-Ok.listed c.push_static.result c.in-Ok.ensures c.push_static.ensures

pub returns-in-Ok-clause-cause : goal.returns-in-Ok-clause-cause
returns-in-Ok-clause-cause c = λ faults.
    more_cause (HasStatic c.args.self.now c.in-Ok.listed c.push_static.new.self) c.push_static.result faults faults refl c.push_static.ensures
