use Rattle.std.proofs.Common.{◌≡◌, ◌++◌, take}
use Rattle.std.specs.List.{flat_map}
use Rattle.scene_text.specs.Printing.{script_text}
use Rattle.scene_text.proofs.printer.put_scripts.Given as goal

abbrev pub invariant-loop-script : goal.invariant-loop-script
invariant-loop-script l = l.text.items ≡ l.fn.text.items ++ flat_map script_text (take l.script-index l.scripts)
