use Rattle.std.proofs.Common.{◌≡◌, drop}
use Rattle.scene_open.specs.Opening.{resident_from, resident_of}
use Rattle.scene_open.proofs.header.resident.Given as goal

abbrev pub invariant-loop-head : goal.invariant-loop-head
invariant-loop-head l = resident_from l.pages (drop l.head-index l.fn.scene.head) ≡ resident_of l.fn.scene.head
