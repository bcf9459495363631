-- How the lines of a journal are read, step by step: what they say, or the line where reading stops. No public clause cites
-- these steps: which texts are journals, and which line is the first bad one, is said by Grammar.antt.
use Rattle.std.specs.Prelude.{◌≡◌, ℕ, ◌+◌, ◌==◌, Bool, true, false, if◌then◌else◌, List, [], ◌∷◌, ◌++◌, length, count_by, codes, bytes_eq, Option, Some, None, option_map, Result, Ok, Err}
use Rattle.std.specs.List.{flat_map}
use Rattle.cs_policy.specs.declared.entry.Entry.{Entry}
use Rattle.pg_words.specs.Rows.{◌>>=◌}
use Rattle.pg_words.specs.Lines.{lines_of, words_of}
use Rattle.pg_report.specs.declared.line.Line.{Line}
use Rattle.pg_report.specs.Forms.{long, who_form, place_form}
use Rattle.pg_report.specs.EventRows.{event_of}
use Rattle.pg_report.specs.ReplyRows.{reply_of}
use Rattle.pg_report.specs.Journal.{entry_text, is_given, is_denied, summary_text}

-- the words before the first arrow, and those behind it
abbrev pub Halves : Type 0
Halves = List (List ℕ) × List (List ℕ)

abbrev pub is_arrow : List ℕ → Bool
is_arrow word = bytes_eq word (codes "->")

abbrev pub with_word : List ℕ → Halves → Halves
with_word word halves = (word ∷ halves.0, halves.1)

unfoldable pub at_arrow : List (List ℕ) → Option Halves
at_arrow [] = None
at_arrow (word ∷ words) = if is_arrow word then Some ([], words) else option_map (with_word word) (at_arrow words)

-- a line of these parts, where its stamp is the one that is due
abbrev pub made_line : ℕ → ℕ → Entry → ℕ → Option Line
made_line due stamp entry read = if stamp == due then Some (record { stamp = stamp; entry = entry; read = read }) else None

-- what the words of an event's line say, where its stamp is due
unfoldable pub line_said : ℕ → List (List ℕ) → Option Line
line_said due (stamp ∷ who ∷ place ∷ words) = do
  stamp ← long stamp
  who ← who_form who
  place ← place_form place
  halves ← at_arrow words
  event ← event_of place halves.0
  told ← reply_of event halves.1
  made_line due stamp (record { who = who; place = place; event = event; reply = told.0 }) told.1
line_said due _ = None

abbrev pub line_of : ℕ → List ℕ → Option Line
line_of due text = line_said due (words_of text)

-- the number behind a word, on a line of these two
abbrev pub counted : List ℕ → List (List ℕ) → Option ℕ
counted word (first ∷ number ∷ []) = if bytes_eq first word then long number else None
counted word _ = None

-- the next step, where no line was bad so far
infixl 10 ◌>>>◌
abbrev pub ◌>>>◌ : {A B : Type 0} → Result A ℕ → (A → Result B ℕ) → Result B ℕ
(Ok x) >>> f = f x
(Err line) >>> f = Err line

-- lines follow: LF ended the one before
abbrev pub ended : List (List ℕ) → Bool
ended [] = false
ended (text ∷ texts) = true

-- a number is the one that is wanted, if one is
abbrev pub is_wanted : Option ℕ → ℕ → Bool
is_wanted None n = true
is_wanted (Some wanted) n = n == wanted

-- a number that is wanted, before the lines that follow
abbrev pub taken : ℕ → Option ℕ → List (List ℕ) → Option ℕ → Result (ℕ × List (List ℕ)) ℕ
taken line wanted rest None = Err line
taken line wanted rest (Some n) = if is_wanted wanted n then Ok (n, rest) else Err line

-- the first line, which LF ends, counts something; then the lines behind it
unfoldable pub sum_line : ℕ → List ℕ → Option ℕ → List (List ℕ) → Result (ℕ × List (List ℕ)) ℕ
sum_line line word wanted [] = Err line
sum_line line word wanted (text ∷ texts) = if ended texts then taken line wanted texts (counted word (words_of text)) else Err line

-- nothing stands behind the last LF
abbrev pub is_end : List (List ℕ) → Bool
is_end ([] ∷ []) = true
is_end _ = false

-- the lines that count what was given and denied, and nothing behind them
unfoldable pub last_sums : ℕ → ℕ → ℕ → List (List ℕ) → Result (Unit {0}) ℕ
last_sums events given denied texts =
    sum_line (events + 3) (codes "given") (Some given) texts >>> λ g.
    sum_line (events + 4) (codes "denied") (Some denied) g.1 >>> λ d.
    (if is_end d.1 then Ok tt else Err (events + 5))

-- the lines that sum up so many events: the number of calls
unfoldable pub sums_of : ℕ → ℕ → ℕ → List (List ℕ) → Result ℕ ℕ
sums_of events given denied texts =
    sum_line (events + 1) (codes "events") (Some events) texts >>> λ e.
    sum_line (events + 2) (codes "calls") None e.1 >>> λ calls.
    last_sums events given denied calls.1 >>> λ _. Ok calls.0

-- the lines that sum up what stands above, and the number of calls
unfoldable pub sums : List Line → List (List ℕ) → Result (List Line × ℕ) ℕ
sums above texts =
    sums_of (length above) (count_by (λ l. is_given l.entry.reply) above) (count_by (λ l. is_denied l.entry.reply) above) texts
    >>> λ calls. Ok (above, calls)

-- an event's line, or else the lines that sum up
abbrev pub said_or : {A : Type 0} → (Line → A) → A → Option Line → A
said_or more otherwise None = otherwise
said_or more otherwise (Some x) = more x

-- what lines say behind lines that said these: events, each with its place as its stamp, and then the lines that sum
-- them up. Each line is ended by LF
unfoldable pub said_behind : List Line → List (List ℕ) → Result (List Line × ℕ) ℕ
said_behind above [] = Err (length above + 1)
said_behind above (text ∷ texts) =
    if ended texts
    then said_or (λ x. said_behind (above ++ x ∷ []) texts) (sums above (text ∷ texts)) (line_of (length above) text)
    else Err (length above + 1)

-- what a text says
unfoldable pub said : List ℕ → Result (List Line × ℕ) ℕ
said text = said_behind [] (lines_of text)
