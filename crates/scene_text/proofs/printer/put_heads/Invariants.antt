use Rattle.std.proofs.Common.{◌≡◌, ◌++◌, take}
use Rattle.std.specs.List.{flat_map}
use Rattle.scene_text.specs.declared.line.Line.TheVariants as line
use Rattle.scene_text.specs.Texts.{printed_line}
use Rattle.scene_text.proofs.printer.put_heads.Given as goal

abbrev pub invariant-loop-head : goal.invariant-loop-head
invariant-loop-head l = l.text.items ≡ l.fn.text.items ++ flat_map (λ x. printed_line (line.Head x)) (take l.head-index l.heads)
