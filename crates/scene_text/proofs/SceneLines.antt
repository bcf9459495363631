-- The lines of a scene tell the scene.
use Rattle.std.proofs.Common.{◌≡◌, ℕ, List, [], ◌∷◌, ◌++◌, map, Ok, Err, Result, refl, subst, ap, sym, ◌∙◌, append_assoc}
use Rattle.std.specs.List.{flat_map}
use Rattle.std.proofs.lemmas.List.Concat.{flat_map-cons}
use Rattle.cs_policy.specs.declared.call.Call.{Call}
use Rattle.scene_text.specs.declared.head.Head.{Head}
use Rattle.scene_text.specs.declared.line.Line.{Line}
use Rattle.scene_text.specs.declared.line.Line.TheVariants as line
use Rattle.scene_text.specs.declared.whole.Scene.{Scene}
use Rattle.scene_text.specs.declared.whole.SceneFail.{SceneFail}
use Rattle.scene_text.specs.declared.whole.SceneFail.TheVariants.{NoMemory, Bad}
use Rattle.scene_text.specs.Scenes.{script_lines, lines_in, scene_lines}
use Rattle.scene_text.specs.Texts.{said, printed, MeetsGrammar, IsScene}
use Rattle.scene_text.specs.Results.{Reads, IsRead, ReadsPrinted}
use Rattle.scene_text.proofs.RoundFacts.{read_again}

-- the header lines at the front, the calls at the front, and the scripts
abbrev heads_of : List Line → List Head
heads_of [] = []
heads_of (line.Head h ∷ lines) = h ∷ heads_of lines
heads_of (line.Script ∷ lines) = []
heads_of (line.Call c ∷ lines) = []

abbrev calls_of : List Line → List Call
calls_of [] = []
calls_of (line.Head h ∷ lines) = []
calls_of (line.Script ∷ lines) = []
calls_of (line.Call c ∷ lines) = c ∷ calls_of lines

abbrev scripts_of : List Line → List (List Call)
scripts_of [] = []
scripts_of (line.Head h ∷ lines) = scripts_of lines
scripts_of (line.Script ∷ lines) = calls_of lines ∷ scripts_of lines
scripts_of (line.Call c ∷ lines) = scripts_of lines

abbrev as_heads : List Head → List Line
as_heads head = map (λ h. line.Head h) head

abbrev as_calls : List Call → List Line
as_calls calls = map (λ c. line.Call c) calls

no_heads : (scripts : List (List Call)) → heads_of (flat_map script_lines scripts) ≡ []
no_heads [] = refl
no_heads (calls ∷ scripts) = ap heads_of (flat_map-cons script_lines calls scripts)

no_calls : (scripts : List (List Call)) → calls_of (flat_map script_lines scripts) ≡ []
no_calls [] = refl
no_calls (calls ∷ scripts) = ap calls_of (flat_map-cons script_lines calls scripts)

heads_again : (head : List Head) (scripts : List (List Call)) → heads_of (lines_in head scripts) ≡ head
heads_again [] scripts = no_heads scripts
heads_again (h ∷ head) scripts = ap (λ (more : List Head). h ∷ more) (heads_again head scripts)

calls_again : (calls : List Call) (scripts : List (List Call)) → calls_of (as_calls calls ++ flat_map script_lines scripts) ≡ calls
calls_again [] scripts = no_calls scripts
calls_again (c ∷ calls) scripts = ap (λ (more : List Call). c ∷ more) (calls_again calls scripts)

behind_calls : (calls : List Call) (lines : List Line) → scripts_of (as_calls calls ++ lines) ≡ scripts_of lines
behind_calls [] lines = refl
behind_calls (c ∷ calls) lines = behind_calls calls lines

scripts_back : (scripts : List (List Call)) → scripts_of (flat_map script_lines scripts) ≡ scripts
scripts_back [] = refl
scripts_back (calls ∷ scripts) =
    ap scripts_of (flat_map-cons script_lines calls scripts)
    ∙ (λ i. calls_again calls scripts i ∷ (behind_calls calls (flat_map script_lines scripts) ∙ scripts_back scripts) i)

behind_heads : (head : List Head) (lines : List Line) → scripts_of (as_heads head ++ lines) ≡ scripts_of lines
behind_heads [] lines = refl
behind_heads (h ∷ head) lines = behind_heads head lines

scripts_again : (head : List Head) (scripts : List (List Call)) → scripts_of (lines_in head scripts) ≡ scripts
scripts_again head scripts = behind_heads head (flat_map script_lines scripts) ∙ scripts_back scripts

-- the scene of lines
abbrev scene_of : List Line → Scene
scene_of lines = record { head = heads_of lines; scripts = scripts_of lines }

scene_again : (scene : Scene) → scene_of (scene_lines scene) ≡ scene
scene_again scene = λ i. record { head = heads_again scene.head scene.scripts i; scripts = scripts_again scene.head scene.scripts i }

-- scenes of the same lines are the same
pub same_scene : (one other : Scene) → scene_lines one ≡ scene_lines other → one ≡ other
same_scene one other same = sym (scene_again one) ∙ ap scene_of same ∙ scene_again other

ok_is : {A E : Type 0} (x y : A) → ◌≡◌ {A = Result A E} (Ok x) (Ok y) → x ≡ y
ok_is x y e = cc

clash : {A E : Type 0} (x : A) (y : E) → ◌≡◌ {A = Result A E} (Ok x) (Err y) → ⊥
clash x y e = absurd cc

-- what is answered for the text of a scene is this scene
pub only_scene : (text : List ℕ) (r : Result Scene SceneFail) → Reads r (said text) → (scene : Scene) → IsScene text scene → IsRead r scene
only_scene text (Ok x) reads scene is = same_scene x scene (ok_is (scene_lines x) (scene_lines scene) (sym reads ∙ is))
only_scene text (Err NoMemory) reads scene is = tt
only_scene text (Err (Bad line kind)) reads scene is = clash (scene_lines scene) _ (sym is ∙ reads)

-- and of what is printed of a scene whose lines meet the grammar
pub printed_again : (text : List ℕ) (r : Result Scene SceneFail) → Reads r (said text) → ReadsPrinted r text
printed_again text r reads scene fits is = only_scene text r reads scene (subst (λ (t : List ℕ). IsScene t scene) (sym is) (read_again scene fits))
