use Rattle.std.proofs.Common.{◌≡◌, take}
use Rattle.scene_open.specs.Drafts.{HasTaken}
use Rattle.scene_open.proofs.items.take_all.Given as goal

abbrev pub invariant-loop-head : goal.invariant-loop-head
invariant-loop-head g l =
    HasTaken l.heads (take l.head-index l.heads) (g.F.Files.tells l.fn.files) l.draft (g.F.Files.tells l.files)
    × (g.F.Files.faults l.files ≡ g.F.Files.faults l.fn.files) × (l.number ≡ l.head-index)
