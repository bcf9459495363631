use Rattle.std.proofs.Common.{◌≡◌, take, map}
use Rattle.scene_open.specs.Layouts.{seat_in}
use Rattle.scene_open.proofs.layouts.seats.Given as goal

abbrev pub invariant-loop-slice : goal.invariant-loop-slice
invariant-loop-slice l = l.seats.items ≡ map (seat_in l.bytes) (take l.slice-index l.slices)
