-- The lines of a scene, one after another.
use Rattle.std.specs.Prelude.{List, ◌∷◌, ◌++◌, map}
use Rattle.std.specs.List.{flat_map}
use Rattle.cs_policy.specs.declared.call.Call.{Call}
use Rattle.scene_text.specs.declared.head.Head.{Head}
use Rattle.scene_text.specs.declared.line.Line.{Line}
use Rattle.scene_text.specs.declared.line.Line.TheVariants as line
use Rattle.scene_text.specs.declared.whole.Scene.{Scene}

-- the lines of a script: the one that begins it, and its calls
abbrev pub script_lines : List Call → List Line
script_lines calls = line.Script ∷ map (λ call. line.Call call) calls

-- header lines, and then scripts
abbrev pub lines_in : List Head → List (List Call) → List Line
lines_in head scripts = map (λ h. line.Head h) head ++ flat_map script_lines scripts

-- the lines of a scene behind the first one
abbrev pub scene_lines : Scene → List Line
scene_lines scene = lines_in scene.head scene.scripts
