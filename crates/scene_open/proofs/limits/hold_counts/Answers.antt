use Rattle.std.proofs.Common.{sym}
use Rattle.scene_text.specs.Scenes.{scene_lines}
use Rattle.scene_open.proofs.CountFacts.{within_from, over_cause}
use Rattle.scene_open.proofs.limits.hold_counts.Goals as goal

pub returns-in-None-clause-within : goal.returns-in-None-clause-within
returns-in-None-clause-within c = within_from (scene_lines c.args.scene.now) (sym c.in-None.ensures)

pub returns-in-Some-clause-cause : goal.returns-in-Some-clause-cause
returns-in-Some-clause-cause c = λ faults. over_cause (scene_lines c.args.scene.now) c.in-Some.status faults (sym c.in-Some.ensures)
