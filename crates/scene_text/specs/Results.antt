-- What the readers answer, beside what a text says.
use Rattle.std.specs.Prelude.{◌≡◌, ℕ, true, false, Result, Ok, Err, List}
use Rattle.scene_text.specs.declared.line.Line.{Line}
use Rattle.scene_text.specs.declared.line.Line.TheVariants as line
use Rattle.scene_text.specs.declared.line.Known.{Known}
use Rattle.scene_text.specs.declared.whole.Scene.{Scene}
use Rattle.scene_text.specs.declared.whole.SceneFail.{SceneFail}
use Rattle.scene_text.specs.declared.whole.SceneFail.TheVariants.{NoMemory, Bad}
use Rattle.scene_text.specs.declared.checks.Refused.{Refused}
use Rattle.scene_text.specs.declared.checks.Refused.TheVariants as refused
use Rattle.scene_text.specs.Texts.{Flaw, printed, MeetsGrammar}
use Rattle.scene_text.specs.Scenes.{scene_lines}

-- the kind is the one that is said, unless memory ran out
abbrev pub Refuses : {Y : Type 0} → Refused → Result Y ℕ → Type 0
Refuses refused.NoMemory said = Unit {0}
Refuses (refused.Kind kind) said = said ≡ Err kind

-- what was answered is what is said, unless memory ran out
abbrev pub Gives : {X : Type 0} → Result X Refused → Result X ℕ → Type 0
Gives (Ok x) said = said ≡ Ok x
Gives (Err e) said = Refuses e said

-- the bad line is the one that is said, unless memory ran out
abbrev pub Fails : {Y : Type 0} → SceneFail → Result Y Flaw → Type 0
Fails NoMemory said = Unit {0}
Fails (Bad line kind) said = said ≡ Err (record { line = line; kind = kind })

-- what was answered is the scene whose lines are said, unless memory ran out
abbrev pub Reads : Result Scene SceneFail → Result (List Line) Flaw → Type 0
Reads (Ok scene) said = said ≡ Ok (scene_lines scene)
Reads (Err e) said = Fails e said

-- the answer is this scene, as a whole, unless memory ran out
abbrev pub IsRead : Result Scene SceneFail → Scene → Type 0
IsRead (Ok x) scene = x ≡ scene
IsRead (Err NoMemory) scene = Unit {0}
IsRead (Err (Bad line kind)) scene = ⊥

-- where the text is what is printed of a scene whose lines meet the grammar, the answer is this scene
abbrev pub ReadsPrinted : Result Scene SceneFail → List ℕ → Type 0
ReadsPrinted result text = (scene : Scene) → MeetsGrammar scene → text ≡ printed scene → IsRead result scene

-- header lines stand before the first script, and calls behind it
abbrev pub IsPlaced : Known → Line → Type 0
IsPlaced known (line.Head head) = known.script ≡ false
IsPlaced known line.Script = Unit {0}
IsPlaced known (line.Call call) = known.script ≡ true
