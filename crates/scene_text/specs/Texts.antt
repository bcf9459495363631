-- The grammar of scenes: what the lines of a text say, or which is the first bad line and of which kind.
use Rattle.std.specs.Prelude.{◌≡◌, ℕ, ◌+◌, Bool, true, false, not, ◌==◌, if◌then◌else◌, List, [], ◌∷◌, ◌++◌, codes, bytes_eq, Result, Ok, Err}
use Rattle.std.specs.List.{list_all, flat_map}
use Rattle.cs_policy.specs.declared.call.Call.{Call}
use Rattle.scene_text.specs.declared.head.Head.{Head}
use Rattle.scene_text.specs.declared.line.Line.{Line}
use Rattle.scene_text.specs.declared.line.Line.TheVariants as line
use Rattle.scene_text.specs.declared.line.Known.{Known}
use Rattle.scene_text.specs.declared.whole.Scene.{Scene}
use Rattle.pg_words.specs.Lines.{is_text_byte, lines_of, line_text}
use Rattle.scene_text.specs.Scenes.{scene_lines}
use Rattle.scene_text.specs.Known.{known_of, page_bytes}
use Rattle.scene_text.specs.Headers.{head_key, head_line, head_known, head_in_range, HeadHasForm}
use Rattle.scene_text.specs.Calls.{call_line, call_known, call_in_range, CallHasForm}
use Rattle.scene_text.specs.Lines.{not_text, first_line, is_head_misplaced, line_of}

-- a line that is skipped: an empty one, or a comment
abbrev pub is_skipped : List ℕ → Bool
is_skipped [] = true
is_skipped (c ∷ cs) = c == 35

-- a line of a text, by its number counted from 1, and the first kind of bad line that it is
pub record Flaw : Type 0 where
  pub line : ℕ
  pub kind : ℕ

-- what a line says and then what follows it, or the flaw
abbrev pub said_then : ℕ → (Line → Result (List Line) Flaw) → Result Line ℕ → Result (List Line) Flaw
said_then number more (Ok x) = more x
said_then number more (Err kind) = Err (record { line = number; kind = kind })

-- what lines say behind lines that said these: each is read by what those above it have declared. The first of them
-- has this number
unfoldable pub said_behind : List Line → ℕ → List (List ℕ) → Result (List Line) Flaw
said_behind above number [] = Ok above
said_behind above number (text ∷ texts) =
    if is_skipped text then said_behind above (number + 1) texts
    else said_then number (λ x. said_behind (above ++ x ∷ []) (number + 1) texts) (line_of (known_of above) text)

-- the first line
abbrev pub opening : List ℕ
opening = codes "scene 1"

-- what lines say, the first one being the opening
abbrev pub said_by_lines : List (List ℕ) → Result (List Line) Flaw
said_by_lines [] = Err (record { line = 1; kind = first_line })
said_by_lines (text ∷ texts) =
    if not (list_all is_text_byte text) then Err (record { line = 1; kind = not_text })
    else (if bytes_eq text opening then said_behind [] 2 texts else Err (record { line = 1; kind = first_line }))

-- what the lines of a text say
unfoldable pub said : List ℕ → Result (List Line) Flaw
said text = said_by_lines (lines_of text)

-- the text is the scene's: its lines say the scene's lines
abbrev pub IsScene : List ℕ → Scene → Type 0
IsScene text scene = said text ≡ Ok (scene_lines scene)

-- the text's first bad line
abbrev pub IsBad : List ℕ → Flaw → Type 0
IsBad text flaw = said text ≡ Err flaw

-- the words of a line
abbrev pub words_in : Line → List (List ℕ)
words_in (line.Head head) = head_line head
words_in line.Script = codes "script" ∷ []
words_in (line.Call call) = call_line call

-- a line as it is printed, ended by LF
abbrev pub printed_line : Line → List ℕ
printed_line x = line_text (words_in x) ++ codes "\n"

-- a scene as it is printed
unfoldable pub printed : Scene → List ℕ
printed scene = codes "scene 1\n" ++ flat_map printed_line (scene_lines scene)

-- the line may stand behind lines that have declared so much, and its columns are of their forms and in their ranges
pub record IsHeadFit (known : Known) (head : Head) : Type 0 where
  pub form : HeadHasForm head
  pub placed : is_head_misplaced known (head_key head) ≡ false
  pub declared : head_known known head ≡ true
  pub in_range : head_in_range head ≡ true

pub record IsCallFit (known : Known) (call : Call) : Type 0 where
  pub form : CallHasForm call
  pub placed : known.script ≡ true
  pub declared : call_known known call ≡ true
  pub in_range : call_in_range (page_bytes known.large) call ≡ true

abbrev pub IsFit : Known → Line → Type 0
IsFit known (line.Head head) = IsHeadFit known head
IsFit known line.Script = Unit {0}
IsFit known (line.Call call) = IsCallFit known call

-- each line is so behind those above it
abbrev pub AreFit : List Line → List Line → Type 0
AreFit above [] = Unit {0}
AreFit above (x ∷ lines) = IsFit (known_of above) x × AreFit (above ++ x ∷ []) lines

-- the lines of the scene meet the grammar
abbrev pub MeetsGrammar : Scene → Type 0
MeetsGrammar scene = AreFit [] (scene_lines scene)
