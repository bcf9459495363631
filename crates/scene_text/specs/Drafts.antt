-- The lines that were read so far.
use Rattle.std.specs.Prelude.{◌≡◌, ℕ, Bool, true, false, List, [], ◌∷◌, ◌++◌, ◌||◌, Result, Ok, Err}
use Rattle.cs_policy.specs.declared.call.Call.{Call}
use Rattle.scene_text.specs.declared.line.Line.{Line}
use Rattle.scene_text.specs.declared.line.Line.TheVariants as line
use Rattle.scene_text.specs.declared.line.Known.{Known}
use Rattle.scene_text.specs.declared.draft.Draft.{Draft}
use Rattle.scene_text.specs.declared.whole.SceneFail.{SceneFail}
use Rattle.scene_text.specs.declared.whole.SceneFail.TheVariants.{NoMemory, Bad}
use Rattle.scene_text.specs.Scenes.{lines_in}
use Rattle.scene_text.specs.Known.{known_after, is_script}
use Rattle.scene_text.specs.Lines.{line_of}
use Rattle.scene_text.specs.Texts.{Flaw}
use Rattle.scene_text.specs.Results.{Fails}

-- the script that was begun last
abbrev pub opened : Bool → List Call → List (List Call)
opened true calls = calls ∷ []
opened false calls = []

-- the lines
abbrev pub draft_lines : Draft → List Line
draft_lines draft = lines_in draft.head.items (draft.done.items ++ opened draft.begun draft.open.items)

-- where no script has begun, there are no calls
abbrev pub IsWhole : Draft → Type 0
IsWhole draft = draft.begun ≡ false → (draft.done.items ≡ []) × (draft.open.items ≡ [])

-- header lines come before the first script, and calls behind it
abbrev pub IsPlacedBy : Bool → Line → Type 0
IsPlacedBy begun (line.Head head) = begun ≡ false
IsPlacedBy begun line.Script = Unit {0}
IsPlacedBy begun (line.Call call) = begun ≡ true

-- the line stands behind the lines so far
pub record IsBehind (draft : Draft) (x : Line) (new : Draft) : Type 0 where
  pub lines : draft_lines new ≡ draft_lines draft ++ x ∷ []
  pub whole : IsWhole new
  pub begun : new.begun ≡ (draft.begun || is_script x)

-- what a line did to the lines so far: it stands behind them, and what is known is what they declare
pub record IsAdded (draft : Draft) (known : Known) (x : Line) (new : Draft) (now : Known) : Type 0 where
  pub lines : draft_lines new ≡ draft_lines draft ++ x ∷ []
  pub declared : now ≡ known_after known x
  pub whole : IsWhole new
  pub begun : new.begun ≡ now.script

-- what reading one line answered: the line is added, or it is bad, unless memory ran out
abbrev pub Takes : Draft → Known → List ℕ → ℕ → Draft → Result Known SceneFail → Type 0
Takes draft known text number new (Ok now) = (x : Line) × (line_of known text ≡ Ok x) × IsAdded draft known x new now
Takes draft known text number new (Err NoMemory) = Unit {0}
Takes draft known text number new (Err (Bad line kind)) = (line ≡ number) × (line_of known text ≡ Err kind)

-- what reading lines answered: their lines, or the first bad one, unless memory ran out
abbrev pub IsDrafted : Result Draft SceneFail → Result (List Line) Flaw → Type 0
IsDrafted (Ok draft) said = said ≡ Ok (draft_lines draft)
IsDrafted (Err e) said = Fails e said
