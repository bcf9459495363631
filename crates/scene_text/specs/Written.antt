-- Which texts are scenes, and which line of another text is the first bad one, by the printed form of lines and their kinds.
use Rattle.std.specs.Prelude.{◌≡◌, ℕ, zero, suc, Bool, false, not, if◌then◌else◌, List, [], ◌∷◌, take, drop, map, Option, Some, Result, Ok, Err}
use Rattle.std.specs.List.{list_all, slice_get}
use Rattle.pg_words.specs.Lines.{lines_of, line_text, is_text_byte}
use Rattle.scene_text.specs.declared.line.Line.{Line}
use Rattle.scene_text.specs.declared.whole.Scene.{Scene}
use Rattle.scene_text.specs.declared.whole.SceneFail.{SceneFail}
use Rattle.scene_text.specs.declared.whole.SceneFail.TheVariants.{NoMemory, Bad}
use Rattle.scene_text.specs.Scenes.{scene_lines}
use Rattle.scene_text.specs.Known.{known_of}
use Rattle.scene_text.specs.Lines.{not_text, first_line, line_of}
use Rattle.scene_text.specs.Texts.{is_skipped, opening, words_in, AreFit, MeetsGrammar}

-- the lines that are neither empty nor comments
abbrev pub told_lines : List (List ℕ) → List (List ℕ)
told_lines [] = []
told_lines (text ∷ texts) = if is_skipped text then told_lines texts else text ∷ told_lines texts

-- lines as they are printed, without their ends
abbrev pub written : List Line → List (List ℕ)
written lines = map (λ x. line_text (words_in x)) lines

-- the text is the scene's: `scene 1` stands first, and the lines behind it that are neither empty nor comments are the
-- lines of the scene as they are printed, which meet the grammar
pub record IsWritten (text : List ℕ) (scene : Scene) : Type 0 where
  pub first : take 1 (lines_of text) ≡ opening ∷ []
  pub lines : told_lines (drop 1 (lines_of text)) ≡ written (scene_lines scene)
  pub meets : MeetsGrammar scene

-- the first line is bad: it is no text, or it is another text than `scene 1`
pub record IsBadFirst (text : List ℕ) (kind : ℕ) : Type 0 where
  pub this : List ℕ
  pub at : take 1 (lines_of text) ≡ this ∷ []
  pub other : this ≡ opening → ⊥
  pub is : kind ≡ (if not (list_all is_text_byte this) then not_text else first_line)

-- behind the first line, this one, counted from 0, is bad: it is neither empty nor a comment, the lines above it are lines as
-- they are printed, which fit, and behind what they declare this kind is the first that it is of
pub record IsBadBehind (text : List ℕ) (place kind : ℕ) : Type 0 where
  pub first : take 1 (lines_of text) ≡ opening ∷ []
  pub above : List Line
  pub lines : told_lines (take place (drop 1 (lines_of text))) ≡ written above
  pub fit : AreFit [] above
  pub this : List ℕ
  pub at : slice_get (drop 1 (lines_of text)) place ≡ Some this
  pub told : is_skipped this ≡ false
  pub bad : line_of (known_of above) this ≡ Err kind

-- the line with this number, counted from 1, is the first bad one, and of this kind
abbrev pub IsFirstBad : List ℕ → ℕ → ℕ → Type 0
IsFirstBad text zero kind = ⊥
IsFirstBad text (suc zero) kind = IsBadFirst text kind
IsFirstBad text (suc (suc place)) kind = IsBadBehind text place kind

-- what was answered: the scene whose text it is, or the first bad line, unless memory ran out
abbrev pub ReadsScene : Result Scene SceneFail → List ℕ → Type 0
ReadsScene (Ok scene) text = IsWritten text scene
ReadsScene (Err NoMemory) text = Unit {0}
ReadsScene (Err (Bad line kind)) text = IsFirstBad text line kind
