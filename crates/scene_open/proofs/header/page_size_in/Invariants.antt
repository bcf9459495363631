use Rattle.std.proofs.Common.{◌≡◌, false, map, drop}
use Rattle.scene_text.specs.declared.line.Line.TheVariants as line
use Rattle.scene_text.specs.Known.{large_from}
use Rattle.scene_open.proofs.header.page_size_in.Given as goal

abbrev pub invariant-loop-head : goal.invariant-loop-head
invariant-loop-head l =
    large_from l.large (map (λ h. line.Head h) (drop l.head-index l.heads)) ≡ large_from false (map (λ h. line.Head h) l.heads)
