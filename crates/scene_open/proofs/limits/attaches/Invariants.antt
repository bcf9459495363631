use Rattle.std.proofs.Common.{◌≡◌, ◌-◌, ◌^◌, take}
use Rattle.std.specs.Prelude.{min, sum_by, count_by}
use Rattle.scene_text.specs.declared.line.Line.TheVariants as line
use Rattle.scene_open.specs.Limits.{is_attach}
use Rattle.scene_open.proofs.limits.attaches.Given as goal

abbrev pub invariant-loop-script : goal.invariant-loop-script
invariant-loop-script l = l.count ≡ min (sum_by (λ calls. count_by (λ c. is_attach (line.Call c)) calls) (take l.script-index l.scripts)) (2 ^ 64 - 1)
