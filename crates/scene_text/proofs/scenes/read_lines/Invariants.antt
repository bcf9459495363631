use Rattle.std.proofs.Common.{[]}
use Rattle.pg_words.specs.Cut.{lines_behind}
use Rattle.scene_text.specs.Texts.{said_behind}
use Rattle.scene_text.proofs.LoopFacts.{left, Keeps}
use Rattle.scene_text.proofs.scenes.read_lines.Given as goal

abbrev pub invariant-lines : goal.invariant-lines
invariant-lines l = Keeps l.draft l.known l.number (lines_behind l.rest) (said_behind [] 2 (lines_behind l.initial.rest))

abbrev pub decreases-lines : goal.decreases-lines
decreases-lines l = left l.rest
