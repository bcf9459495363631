-- The language of journals: which texts are journals, and which line of another text is the first that no journal has there.
use Rattle.std.specs.Prelude.{◌≡◌, ℕ, ◌+◌, ◌<◌, ◌^◌, List, ◌++◌, length, take, count_by, Result, Ok, Err}
use Rattle.std.specs.List.{flat_map}
use Rattle.pg_words.specs.Lines.{lines_of}
use Rattle.pg_report.specs.declared.line.Line.{Line}
use Rattle.pg_report.specs.declared.line.JournalFail.{JournalFail}
use Rattle.pg_report.specs.declared.line.JournalFail.TheVariants.{NoMemory, Bad}
use Rattle.pg_report.specs.Journal.{entry_text, is_given, is_denied, summary_text}
use Rattle.pg_report.specs.Fits.{LinesFit}

-- the lines of events as they are printed, and the four lines that sum them up, with so many calls
abbrev pub line_text_of : Line → List ℕ
line_text_of l = entry_text l.stamp l.read l.entry

abbrev pub summary_of : List Line → ℕ → List ℕ
summary_of lines calls =
    summary_text (length lines) calls (count_by (λ l. is_given l.entry.reply) lines) (count_by (λ l. is_denied l.entry.reply) lines)

unfoldable pub text_of : List Line → ℕ → List ℕ
text_of lines calls = flat_map line_text_of lines ++ summary_of lines calls

-- the text is the journal of these lines, with so many calls: each line has its place as its stamp, numbers of their types,
-- and a reply that its event can have
pub record IsJournal (text : List ℕ) (lines : List Line) (calls : ℕ) : Type 0 where
  pub printed : text ≡ text_of lines calls
  pub fit : LinesFit 0 lines
  pub few : length lines < 2 ^ 64
  pub counted : calls < 2 ^ 64

-- the first lines of two texts, so many, each with the LF that ends it, are the same
pub record SameLines (count : ℕ) (text other : List ℕ) : Type 0 where
  pub here : count < length (lines_of text)
  pub there : count < length (lines_of other)
  pub same : take count (lines_of text) ≡ take count (lines_of other)

-- the first lines of the text, so many, are the first lines of some journal
pub record Begins (count : ℕ) (text : List ℕ) : Type 0 where
  pub journal : List ℕ
  pub lines : List Line
  pub calls : ℕ
  pub is : IsJournal journal lines calls
  pub same : SameLines count text journal

-- the line with this number, counted from 1, is the first that no journal has there, or that is missing: those above it
-- begin a journal, with it they begin none, and the text is no journal
pub record IsFirstBad (text : List ℕ) (line : ℕ) : Type 0 where
  pub above : ℕ
  pub next : line ≡ above + 1
  pub begins : Begins above text
  pub ends : Begins line text → ⊥
  pub none : (lines : List Line) (calls : ℕ) → IsJournal text lines calls → ⊥

-- what was answered, seen by `view`: the lines and the number of calls of which the text is the journal, or its first bad
-- line, unless memory ran out
abbrev pub ReadsJournal : {X : Type 0} → (X → List Line × ℕ) → Result X JournalFail → List ℕ → Type 0
ReadsJournal view (Ok x) text = IsJournal text (view x).0 (view x).1
ReadsJournal view (Err NoMemory) text = Unit {0}
ReadsJournal view (Err (Bad line)) text = IsFirstBad text line

-- the answer is these lines and this number of calls, unless memory ran out
abbrev pub IsRead : {X : Type 0} → (X → List Line × ℕ) → Result X JournalFail → List Line → ℕ → Type 0
IsRead view (Ok x) lines calls = view x ≡ (lines, calls)
IsRead view (Err NoMemory) lines calls = Unit {0}
IsRead view (Err (Bad line)) lines calls = ⊥

-- of whatever lines the text is the journal, they are read
abbrev pub ReadsAgain : {X : Type 0} → (X → List Line × ℕ) → Result X JournalFail → List ℕ → Type 0
ReadsAgain view result text = (lines : List Line) (calls : ℕ) → IsJournal text lines calls → IsRead view result lines calls
