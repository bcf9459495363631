-- The text of lines that say themselves is read as these lines.
use Rattle.std.proofs.Common.{◌≡◌, ℕ, ◌+◌, ◌^◌, ◌<◌, true, List, [], ◌∷◌, ◌++◌, length, codes, count_by, Option, Some, None, Result, Ok, refl, ap, sym, subst, ◌∙◌, append_assoc, arith}
use Rattle.std.specs.List.{flat_map}
use Rattle.std.specs.Fmt.{decimal}
use Rattle.std.proofs.lemmas.Bool.{eq-eqb}
use Rattle.std.proofs.lemmas.List.{append-nil, length-append}
use Rattle.std.proofs.lemmas.List.Concat.{flat_map-cons}
use Rattle.std.proofs.lemmas.List.Sums.{count_by-le-length}
use Rattle.std.proofs.lemmas.Slice.Eq.{bytes_eq-Decides}
use Rattle.pg_words.specs.Lines.{lines_of, line_text, is_word, AreWords}
use Rattle.pg_words.proofs.LineFacts.{words_of_line, line_is_text, first_line, no_line}
use Rattle.pg_words.proofs.NumeralFacts.{number_again}
use Rattle.pg_words.proofs.PlainFacts.{decimal_is_word}
use Rattle.pg_report.specs.declared.line.Line.{Line}
use Rattle.pg_report.specs.Journal.{entry_words, entry_text, is_given, is_denied, summary_text}
use Rattle.pg_report.specs.Reading.{line_said, line_of, counted, ended, is_wanted, sum_line, last_sums, sums_of, sums, said_behind, said}
use Rattle.pg_report.specs.Grammar.{line_text_of, text_of}
use Rattle.pg_report.proofs.EndFacts.{ended_lines}
use Rattle.pg_report.proofs.LineFacts.{event_said, no_event}

-- ---- lines that say themselves

-- the line's words are words, and say the line where its stamp is due
pub record SaysItself (due : ℕ) (l : Line) : Type 0 where
  pub words : AreWords (entry_words l.stamp l.read l.entry)
  pub says : line_said due (entry_words l.stamp l.read l.entry) ≡ Some l

-- each line does, with its place as its stamp
abbrev pub AllSayThemselves : ℕ → List Line → Type 0
AllSayThemselves due [] = Unit {0}
AllSayThemselves due (l ∷ lines) = SaysItself due l × AllSayThemselves (due + 1) lines

-- ---- a line that counts

-- its words
abbrev pub pair : List ℕ → ℕ → List (List ℕ)
pair word n = word ∷ decimal n ∷ []

pub pair_words : (word : List ℕ) (n : ℕ) → is_word word ≡ true → n < 2 ^ 64 → AreWords (pair word n)
pair_words word n w lt = (w, (decimal_is_word n lt, tt))

counted_again : (word : List ℕ) (n : ℕ) → n < 2 ^ 64 → counted word (pair word n) ≡ Some n
counted_again word n lt = rw ((bytes_eq-Decides word word).1 refl, number_again (2 ^ 64) n (omega arith) lt) refl

sum_again : (line : ℕ) (word : List ℕ) (wanted : Option ℕ) (n : ℕ) (texts : List (List ℕ)) → is_word word ≡ true → n < 2 ^ 64 → is_wanted wanted n ≡ true → ended texts ≡ true
    → sum_line line word wanted (line_text (pair word n) ∷ texts) ≡ Ok (n, texts)
unfolding sum_line
sum_again line word wanted n texts w lt is more =
    rw (more, words_of_line (pair word n) (omega arith) (pair_words word n w lt), counted_again word n lt, is) refl

-- a text that begins with such a line
pub begun : (word : List ℕ) (n : ℕ) (rest : List ℕ) → is_word word ≡ true → n < 2 ^ 64 → lines_of (line_text (pair word n) ++ 10 ∷ rest) ≡ line_text (pair word n) ∷ lines_of rest
begun word n rest w lt = first_line (line_text (pair word n)) rest (line_is_text (pair word n) (pair_words word n w lt))

-- the four lines
module _ (events calls given denied : ℕ) (e : events < 2 ^ 64) (c : calls < 2 ^ 64) (g : given < 2 ^ 64) (d : denied < 2 ^ 64) where
  fourth : List ℕ
  fourth = line_text (pair (codes "denied") denied) ++ 10 ∷ []

  third : List ℕ
  third = line_text (pair (codes "given") given) ++ 10 ∷ fourth

  second : List ℕ
  second = line_text (pair (codes "calls") calls) ++ 10 ∷ third

  summary_lines : summary_text events calls given denied ≡ line_text (pair (codes "events") events) ++ 10 ∷ second
  unfolding fourth third second
  summary_lines = refl

  last_again : last_sums events given denied (lines_of third) ≡ Ok tt
  unfolding last_sums third fourth
  last_again =
      rw (
        begun (codes "given") given fourth refl g,
        sum_again (events + 3) (codes "given") (Some given) given (lines_of fourth) refl g (eq-eqb given given refl) (ended_lines fourth),
        begun (codes "denied") denied [] refl d,
        sum_again (events + 4) (codes "denied") (Some denied) denied (lines_of []) refl d (eq-eqb denied denied refl) (ended_lines []),
        no_line,
      ) refl

  -- the lines of the four, and what is behind the last LF
  pub four_lines : lines_of (summary_text events calls given denied)
      ≡ line_text (pair (codes "events") events) ∷ line_text (pair (codes "calls") calls) ∷ line_text (pair (codes "given") given) ∷ line_text (pair (codes "denied") denied) ∷ [] ∷ []
  unfolding second third fourth
  four_lines =
      ap lines_of summary_lines ∙ begun (codes "events") events second refl e
      ∙ ap (λ (r : List (List ℕ)). line_text (pair (codes "events") events) ∷ r)
      (begun (codes "calls") calls third refl c
      ∙ ap (λ (r : List (List ℕ)). line_text (pair (codes "calls") calls) ∷ r)
      (begun (codes "given") given fourth refl g
      ∙ ap (λ (r : List (List ℕ)). line_text (pair (codes "given") given) ∷ r)
      (begun (codes "denied") denied [] refl d ∙ ap (λ (r : List (List ℕ)). line_text (pair (codes "denied") denied) ∷ r) no_line)))

  pub sums_again : sums_of events given denied (lines_of (summary_text events calls given denied)) ≡ Ok calls
  unfolding sums_of second
  sums_again =
      ap (λ (t : List ℕ). sums_of events given denied (lines_of t)) summary_lines
      ∙ rw (
        begun (codes "events") events second refl e,
        sum_again (events + 1) (codes "events") (Some events) events (lines_of second) refl e (eq-eqb events events refl) (ended_lines second),
        begun (codes "calls") calls third refl c,
        sum_again (events + 2) (codes "calls") None calls (lines_of third) refl c refl (ended_lines third),
        last_again,
      ) refl

  pub first_sum : (due : ℕ) → (rest : List (List ℕ)) × (lines_of (summary_text events calls given denied) ≡ line_text (pair (codes "events") events) ∷ rest) × (ended rest ≡ true) × (line_of due (line_text (pair (codes "events") events)) ≡ None)
  unfolding second line_said
  first_sum due = (
    lines_of second,
    ap lines_of summary_lines ∙ begun (codes "events") events second refl e,
    ended_lines second,
    ap (line_said due) (words_of_line (pair (codes "events") events) (omega arith) (pair_words (codes "events") events refl e)),
  )

-- ---- the lines, and those that sum them up

abbrev Said : Type 0
Said = Result (List Line × ℕ) ℕ

module _ (lines : List Line) (calls : ℕ) (few : length lines < 2 ^ 64) (c : calls < 2 ^ 64) where
  tail : List ℕ
  tail = summary_text (length lines) calls (count_by (λ l. is_given l.entry.reply) lines) (count_by (λ l. is_denied l.entry.reply) lines)

  g : count_by (λ l. is_given l.entry.reply) lines < 2 ^ 64
  g = let le = count_by-le-length (λ l. is_given l.entry.reply) lines in omega arith

  d : count_by (λ l. is_denied l.entry.reply) lines < 2 ^ 64
  d = let le = count_by-le-length (λ l. is_denied l.entry.reply) lines in omega arith

  end_again : said_behind lines (lines_of tail) ≡ Ok (lines, calls)
  unfolding tail sums
  end_again =
      let f = first_sum (length lines) calls _ _ few c g d (length lines) in
      ap (said_behind lines) f.1 ∙ no_event lines _ f.0 f.2 f.3 ∙ ap (sums lines) (sym f.1)
      ∙ rw (sums_again (length lines) calls _ _ few c g d) refl

-- the text of some lines, before the lines that sum up
abbrev pub rest_text : List Line → List ℕ → List ℕ
rest_text lines tail = flat_map line_text_of lines ++ tail

pub line_again : (l : Line) (lines : List Line) (tail : List ℕ) → AreWords (entry_words l.stamp l.read l.entry)
    → lines_of (rest_text (l ∷ lines) tail) ≡ line_text (entry_words l.stamp l.read l.entry) ∷ lines_of (rest_text lines tail)
unfolding entry_text
line_again l lines tail words =
    let text = line_text (entry_words l.stamp l.read l.entry) in
    ap lines_of (ap (λ (t : List ℕ). t ++ tail) (flat_map-cons line_text_of l lines) ∙ append_assoc (text ++ codes "\n") (flat_map line_text_of lines) tail
    ∙ append_assoc text (codes "\n") (flat_map line_text_of lines ++ tail))
    ∙ first_line text (flat_map line_text_of lines ++ tail) (line_is_text (entry_words l.stamp l.read l.entry) words)

behind_again : (lines above : List Line) (tail : List ℕ) (total : Said) → AllSayThemselves (length above) lines → said_behind (above ++ lines) (lines_of tail) ≡ total
    → said_behind above (lines_of (rest_text lines tail)) ≡ total
behind_again [] above tail total all so = ap (λ (x : List Line). said_behind x (lines_of tail)) (sym (append-nil above)) ∙ so
behind_again (l ∷ lines) above tail total all so =
    let words = entry_words l.stamp l.read l.entry in
    let says : line_of (length above) (line_text words) ≡ Some l = ap (line_said (length above)) (words_of_line words (omega arith) all.0.words) ∙ all.0.says in
    let at : length above + 1 ≡ length (above ++ l ∷ []) = sym (length-append above (l ∷ [])) in
    ap (said_behind above) (line_again l lines tail all.0.words)
    ∙ event_said above (line_text words) (lines_of (rest_text lines tail)) l (ended_lines (rest_text lines tail)) says
    ∙ behind_again lines (above ++ l ∷ []) tail total (subst (λ (n : ℕ). AllSayThemselves n lines) at all.1)
    (ap (λ (x : List Line). said_behind x (lines_of tail)) (append_assoc above (l ∷ []) lines) ∙ so)

pub said_again : (lines : List Line) (calls : ℕ) (text : List ℕ) → length lines < 2 ^ 64 → calls < 2 ^ 64 → AllSayThemselves 0 lines → text ≡ text_of lines calls → said text ≡ Ok (lines, calls)
unfolding said text_of tail
said_again lines calls text few c all is =
    ap (λ (t : List ℕ). said_behind [] (lines_of t)) is ∙ behind_again lines [] (tail lines calls few c) (Ok (lines, calls)) all (end_again lines calls few c)
