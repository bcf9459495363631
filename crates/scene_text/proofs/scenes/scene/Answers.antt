use Rattle.scene_text.proofs.SceneLines.{printed_again}
use Rattle.scene_text.proofs.WrittenFacts.{reads_scene, only_written}
use Rattle.scene_text.proofs.scenes.scene.Goals as goal

pub returns-clause-exact : goal.returns-clause-exact
returns-clause-exact c = reads_scene c.args.text.now c.read_text.result c.read_text.ensures

pub returns-clause-only : goal.returns-clause-only
returns-clause-only c = only_written c.args.text.now c.read_text.result c.read_text.ensures

pub returns-clause-print_again : goal.returns-clause-print_again
returns-clause-print_again c = printed_again c.args.text.now c.read_text.result c.read_text.ensures
