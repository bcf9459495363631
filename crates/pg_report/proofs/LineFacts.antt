-- One line of a journal after another.
use Rattle.std.proofs.Common.{◌≡◌, ℕ, ◌+◌, true, List, [], ◌∷◌, ◌++◌, length, Option, Some, None, Result, Err, refl, ap, sym, ◌∙◌}
use Rattle.std.specs.Borrow.{Bor}
use Rattle.pg_words.specs.Lines.{lines_of}
use Rattle.pg_words.specs.Cut.{lines_behind}
use Rattle.pg_report.specs.declared.line.Line.{Line}
use Rattle.pg_report.specs.declared.line.JournalFail.{JournalFail}
use Rattle.pg_report.specs.declared.line.JournalFail.TheVariants.{NoMemory, Bad}
use Rattle.pg_report.specs.Answers.{Fails}
use Rattle.pg_report.specs.Reading.{ended, line_of, sums, said_behind}
use Rattle.pg_report.proofs.EndFacts.{ended_lines}

abbrev Said : Type 0
Said = Result (List Line × ℕ) ℕ

unended : (above : List Line) (first : List ℕ) → said_behind above (first ∷ []) ≡ Err (length above + 1)
unfolding said_behind
unended above first = refl

pub event_said : (above : List Line) (first : List ℕ) (texts : List (List ℕ)) (x : Line) → ended texts ≡ true → line_of (length above) first ≡ Some x → said_behind above (first ∷ texts) ≡ said_behind (above ++ x ∷ []) texts
unfolding said_behind
event_said above first texts x more says = rw (more, says) refl

pub no_event : (above : List Line) (first : List ℕ) (texts : List (List ℕ)) → ended texts ≡ true → line_of (length above) first ≡ None → said_behind above (first ∷ texts) ≡ sums above (first ∷ texts)
unfolding said_behind
no_event above first texts more says = rw (more, says) refl

module _ (above : List Line) (due : ℕ) (text first : List ℕ) (behind : Option (Bor (List ℕ))) (total : Said) (is_due : due ≡ length above)
    (cut : lines_of text ≡ first ∷ lines_behind behind) (so_far : said_behind above (lines_of text) ≡ total) where
  pub is_missing : behind ≡ None → total ≡ Err (due + 1)
  is_missing none =
      sym so_far ∙ ap (said_behind above) (cut ∙ ap (λ (b : Option (Bor (List ℕ))). first ∷ lines_behind b) none) ∙ unended above first ∙ ap (λ (n : ℕ). Err (n + 1)) (sym is_due)

  module _ (more : Bor (List ℕ)) (some : behind ≡ Some more) where
    lines : lines_of text ≡ first ∷ lines_of more.now
    lines = cut ∙ ap (λ (b : Option (Bor (List ℕ))). first ∷ lines_behind b) some

    pub goes_on : (x : Line) → line_of due first ≡ Some x → said_behind (above ++ x ∷ []) (lines_of more.now) ≡ total
    goes_on x says =
        sym (event_said above first (lines_of more.now) x (ended_lines more.now) (ap (λ (n : ℕ). line_of n first) (sym is_due) ∙ says)) ∙ ap (said_behind above) (sym lines) ∙ so_far

    pub sums_up : line_of due first ≡ None → sums above (lines_of text) ≡ total
    sums_up says =
        ap (sums above) lines ∙ sym (no_event above first (lines_of more.now) (ended_lines more.now) (ap (λ (n : ℕ). line_of n first) (sym is_due) ∙ says))
        ∙ ap (said_behind above) (sym lines) ∙ so_far

-- a bad line is the one that is said
pub fails_so : {Y : Type 0} (e : JournalFail) (said total : Result Y ℕ) → said ≡ total → Fails e said → Fails e total
fails_so NoMemory said total same fails = tt
fails_so (Bad line) said total same fails = sym same ∙ fails
