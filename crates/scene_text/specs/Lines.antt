-- What a line says behind the lines above it, or the first kind of bad line that it is. Each kind is tried over the
-- whole line before the next one.
use Rattle.std.specs.Prelude.{ℕ, Bool, not, ◌||◌, ◌==◌, if◌then◌else◌, List, [], ◌∷◌, length, Option, Some, None, Result, Ok, Err}
use Rattle.std.specs.List.{list_all}
use Rattle.scene_text.specs.declared.keywords.HeadWord.{HeadWord}
use Rattle.scene_text.specs.declared.keywords.HeadWord.TheVariants as word
use Rattle.scene_text.specs.declared.keywords.CallWord.{CallWord}
use Rattle.scene_text.specs.declared.keywords.Keyword.{Keyword}
use Rattle.scene_text.specs.declared.keywords.Keyword.TheVariants as key
use Rattle.cs_policy.specs.declared.call.Call.{Call}
use Rattle.scene_text.specs.declared.head.Head.{Head}
use Rattle.scene_text.specs.declared.line.Line.{Line}
use Rattle.scene_text.specs.declared.line.Line.TheVariants as line
use Rattle.scene_text.specs.declared.line.Known.{Known}
use Rattle.pg_words.specs.Lines.{is_text_byte, words_of}
use Rattle.scene_text.specs.Keywords.{keyword_of, head_columns, call_columns}
use Rattle.scene_text.specs.Known.{page_bytes}
use Rattle.scene_text.specs.Headers.{head_says, head_known, head_in_range}
use Rattle.scene_text.specs.Calls.{call_says, call_known, call_in_range}

-- the kinds of bad lines, in the order in which they are tried
abbrev pub not_text : ℕ
not_text = 1

abbrev pub first_line : ℕ
first_line = 2

abbrev pub unknown_word : ℕ
unknown_word = 3

abbrev pub place : ℕ
place = 4

abbrev pub words : ℕ
words = 5

abbrev pub form : ℕ
form = 6

abbrev pub unknown : ℕ
unknown = 7

abbrev pub range : ℕ
range = 8

-- a value of the form, by whether its names are declared and whether its numbers are in their ranges
abbrev pub checked : {A : Type 0} → (A → Bool) → (A → Bool) → Option A → Result A ℕ
checked known in_range None = Err form
checked known in_range (Some x) = if not (known x) then Err unknown else (if not (in_range x) then Err range else Ok x)

-- a header line may not stand here
abbrev pub is_head_misplaced : Known → HeadWord → Bool
is_head_misplaced known word.PageSize = known.script || known.sized
is_head_misplaced known word.Resident = known.script || known.limited
is_head_misplaced known word.Policy = known.script || known.adhoc
is_head_misplaced known word.File = known.script
is_head_misplaced known word.Raw = known.script
is_head_misplaced known word.Static = known.script
is_head_misplaced known word.Admit = known.script
is_head_misplaced known word.Cache = known.script
is_head_misplaced known word.Process = known.script
is_head_misplaced known word.Fail = known.script

-- a header line with these words behind its keyword
abbrev pub head_checked : Known → HeadWord → List (List ℕ) → Result Head ℕ
head_checked known word columns = checked (head_known known) head_in_range (head_says word columns)

unfoldable pub head_of : Known → HeadWord → List (List ℕ) → Result Head ℕ
head_of known word columns =
    if is_head_misplaced known word then Err place
    else (if not (length columns == head_columns word) then Err words else head_checked known word columns)

-- a call line
abbrev pub call_checked : Known → CallWord → List (List ℕ) → Result Call ℕ
call_checked known word columns = checked (call_known known) (call_in_range (page_bytes known.large)) (call_says word columns)

unfoldable pub call_of : Known → CallWord → List (List ℕ) → Result Call ℕ
call_of known word columns =
    if not known.script then Err place
    else (if not (length columns == call_columns word) then Err words else call_checked known word columns)

-- the line of a value
abbrev pub as_line : {A : Type 0} → (A → Line) → Result A ℕ → Result Line ℕ
as_line make (Ok x) = Ok (make x)
as_line make (Err kind) = Err kind

-- a line with this keyword
abbrev pub said_by : Known → Keyword → List (List ℕ) → Result Line ℕ
said_by known (key.Head word) columns = as_line (λ head. line.Head head) (head_of known word columns)
said_by known key.Script columns = if not (length columns == 0) then Err words else Ok line.Script
said_by known (key.Call word) columns = as_line (λ call. line.Call call) (call_of known word columns)

abbrev pub said_if : Known → Option Keyword → List (List ℕ) → Result Line ℕ
said_if known None columns = Err unknown_word
said_if known (Some keyword) columns = said_by known keyword columns

abbrev pub said_of : Known → List (List ℕ) → Result Line ℕ
said_of known [] = Err unknown_word
said_of known (word ∷ columns) = said_if known (keyword_of word) columns

-- what a line says
unfoldable pub line_of : Known → List ℕ → Result Line ℕ
line_of known text = if not (list_all is_text_byte text) then Err not_text else said_of known (words_of text)
