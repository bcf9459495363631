-- Where reading stops is the first line that no journal has there.
use Rattle.std.proofs.Common.{◌≡◌, ℕ, zero, suc, ◌+◌, ◌^◌, ◌<◌, ◌≤◌, cond, Bool, true, false, List, [], ◌∷◌, ◌++◌, length, take, codes, count_by, Option, Some, None, Result, Ok, Err, refl, ap, sym, subst, ◌∙◌, append_assoc, arith}
use Rattle.std.specs.List.{flat_map}
use Rattle.std.specs.Fmt.{decimal}
use Rattle.std.specs.Global.{Vec}
use Rattle.std.proofs.lemmas.Bool.{eqb-true}
use Rattle.std.proofs.lemmas.List.{append-nil, length-append}
use Rattle.std.proofs.lemmas.List.Sums.{count_by-le-length}
use Rattle.std.proofs.lemmas.List.Splits.{length-slice_split}
use Rattle.pg_words.specs.Lines.{lines_of, words_of, line_text, is_break}
use Rattle.pg_words.proofs.LineFacts.{line_of_words}
use Rattle.pg_report.specs.declared.line.Line.{Line}
use Rattle.pg_report.specs.declared.line.JournalFail.{JournalFail}
use Rattle.pg_report.specs.declared.line.JournalFail.TheVariants.{NoMemory, Bad}
use Rattle.pg_report.specs.Journal.{entry_words, entry_text, is_given, is_denied, summary_text}
use Rattle.pg_report.specs.Answers.{Reads}
use Rattle.pg_report.specs.Fits.{LineFits, LinesFit}
use Rattle.pg_report.specs.Reading.{line_of, counted, ended, is_wanted, taken, sum_line, is_end, last_sums, sums_of, sums, said_or, said_behind, said, ◌>>>◌}
use Rattle.pg_report.specs.Grammar.{line_text_of, summary_of, text_of, IsJournal, SameLines, Begins, IsFirstBad, ReadsJournal, IsRead, ReadsAgain}
use Rattle.pg_report.proofs.EndFacts.{ended_lines}
use Rattle.pg_report.proofs.AgainFacts.{pair, line_again, rest_text, four_lines, said_again}
use Rattle.pg_report.proofs.LineAgain.{all_again}
use Rattle.pg_report.proofs.JournalFacts.{counted_is, counted_fits, ok_is, line_is, journal_is}

abbrev Texts : Type 0
Texts = List (List ℕ)

-- so many parts stand at the front of both, and more behind them
record SameParts (n : ℕ) (ps qs : Texts) : Type 0 where
  here : n < length ps
  there : n < length qs
  same : take n ps ≡ take n qs

-- ---- the reader looks at no line behind the one where it stops

clash : {A : Type 0} (x : A) (b : ℕ) → ◌≡◌ {A = Result A ℕ} (Ok x) (Err b) → ⊥
clash x b e = absurd cc

err_is : {A : Type 0} (a b : ℕ) → ◌≡◌ {A = Result A ℕ} (Err a) (Err b) → a ≡ b
err_is a b e = cc

tested_err : {A : Type 0} (t : Bool) (x : A) (a b : ℕ) → cond t (Ok x) (Err a) ≡ Err b → a ≡ b
tested_err true x a b e = absurd (clash x b e)
tested_err false x a b e = err_is a b e

-- a part more
record Split (m : ℕ) (ps qs : Texts) : Type 0 where
  first : List ℕ
  ps_rest : Texts
  qs_rest : Texts
  ps_is : ps ≡ first ∷ ps_rest
  qs_is : qs ≡ first ∷ qs_rest
  rest : SameParts m ps_rest qs_rest

head_is : (p q : List ℕ) (ps qs : Texts) → p ∷ ps ≡ q ∷ qs → p ≡ q
head_is p q ps qs e = cc

tail_is : (p q : List ℕ) (ps qs : Texts) → p ∷ ps ≡ q ∷ qs → ps ≡ qs
tail_is p q ps qs e = cc

split : (m : ℕ) (ps qs : Texts) → SameParts (suc m) ps qs → Split m ps qs
split m [] qs s = absurd (let h = s.here in omega (arith, h))
split m (p ∷ ps) [] s = absurd (let h = s.there in omega (arith, h))
split m (p ∷ ps) (q ∷ qs) s =
    let h = s.here in
    let t = s.there in
    record {
      first = p;
      ps_rest = ps;
      qs_rest = qs;
      ps_is = refl;
      qs_is = ap (λ (r : List ℕ). r ∷ qs) (sym (head_is p q (take m ps) (take m qs) s.same));
      rest = record { here = omega (arith, h); there = omega (arith, t); same = tail_is p q (take m ps) (take m qs) s.same };
    }

more_ended : (m : ℕ) (ps : Texts) → m < length ps → ended ps ≡ true
more_ended m [] lt = absurd (omega arith)
more_ended m (p ∷ ps) lt = refl

-- a line that counts, before some lines or others
module _ {B : Type 0} (line : ℕ) (word : List ℕ) (wanted : Option ℕ) (b : ℕ) (f : ℕ × Texts → Result B ℕ) where
  taken_same : (ps qs : Texts) (o : Option ℕ) → ((n : ℕ) → f (n, ps) ≡ Err b → f (n, qs) ≡ Err b) → (taken line wanted ps o >>> f) ≡ Err b → (taken line wanted qs o >>> f) ≡ Err b
  taken_same ps qs None next e = e
  taken_same ps qs (Some n) next e = by (is_wanted wanted n) e
    where
      by : (t : Bool) → (cond t (Ok (n, ps)) (Err line) >>> f) ≡ Err b → (cond t (Ok (n, qs)) (Err line) >>> f) ≡ Err b
      by true e = next n e
      by false e = e

  step : (m : ℕ) (ps qs : Texts) → SameParts (suc m) ps qs → ((n : ℕ) (ps qs : Texts) → SameParts m ps qs → f (n, ps) ≡ Err b → f (n, qs) ≡ Err b)
      → (sum_line line word wanted ps >>> f) ≡ Err b → (sum_line line word wanted qs >>> f) ≡ Err b
  unfolding sum_line
  step m ps qs s next e =
      let p = split m ps qs s in
      let l = more_ended m p.ps_rest p.rest.here in
      let r = more_ended m p.qs_rest p.rest.there in
      let here : (taken line wanted p.ps_rest (counted word (words_of p.first)) >>> f) ≡ Err b =
      sym (ap (λ (x : Texts). sum_line line word wanted x >>> f) p.ps_is ∙ ap (λ (t : Bool). cond t (taken line wanted p.ps_rest (counted word (words_of p.first))) (Err line) >>> f) l) ∙ e in
      ap (λ (x : Texts). sum_line line word wanted x >>> f) p.qs_is ∙ ap (λ (t : Bool). cond t (taken line wanted p.qs_rest (counted word (words_of p.first))) (Err line) >>> f) r
      ∙ taken_same p.ps_rest p.qs_rest (counted word (words_of p.first)) (λ n. next n p.ps_rest p.qs_rest p.rest) here

  -- it stops at its own line, or behind it
  late : (low : ℕ) (ps : Texts) → low ≤ line → ((s : ℕ × Texts) → f s ≡ Err b → low ≤ b) → (sum_line line word wanted ps >>> f) ≡ Err b → low ≤ b
  unfolding sum_line
  late low [] le next e = subst (λ (n : ℕ). low ≤ n) (err_is line b e) le
  late low (p ∷ ps) le next e = by (ended ps) e
    where
      found : (o : Option ℕ) → (taken line wanted ps o >>> f) ≡ Err b → low ≤ b
      found None e = subst (λ (n : ℕ). low ≤ n) (err_is line b e) le
      found (Some n) e = test (is_wanted wanted n) e
        where
          test : (t : Bool) → (cond t (Ok (n, ps)) (Err line) >>> f) ≡ Err b → low ≤ b
          test true e = next (n, ps) e
          test false e = subst (λ (n : ℕ). low ≤ n) (err_is line b e) le

      by : (t : Bool) → (cond t (taken line wanted ps (counted word (words_of p))) (Err line) >>> f) ≡ Err b → low ≤ b
      by true e = found (counted word (words_of p)) e
      by false e = subst (λ (n : ℕ). low ≤ n) (err_is line b e) le

two_no_end : (qs : Texts) → 1 < length qs → is_end qs ≡ false
two_no_end [] lt = absurd (omega arith)
two_no_end (q ∷ []) lt = absurd (omega arith)
two_no_end ([] ∷ r ∷ qs) lt = refl
two_no_end ((c ∷ cs) ∷ r ∷ qs) lt = refl

module _ (events given denied : ℕ) where
  -- nothing behind the sums
  abbrev closing : ℕ × Texts → Result (Unit {0}) ℕ
  closing d = cond (is_end d.1) (Ok tt) (Err (events + 5))

  closing_at : (b : ℕ) (d : ℕ × Texts) → closing d ≡ Err b → events + 5 ≡ b
  closing_at b d e = tested_err (is_end d.1) tt (events + 5) b e

  closing_same : (b n : ℕ) (ps qs : Texts) → SameParts n ps qs → b ≡ (events + 4) + n → (k : ℕ) → closing (k, ps) ≡ Err b → closing (k, qs) ≡ Err b
  closing_same b n ps qs s is k e =
      let at = closing_at b (k, ps) e in
      let t = s.there in
      let two : 1 < length qs = omega (arith, at, is, t) in
      ap (λ (t : Bool). cond t (Ok tt) (Err (events + 5))) (two_no_end qs two) ∙ ap (λ (n : ℕ). Err n) at

  abbrev denied_then : ℕ × Texts → Result (Unit {0}) ℕ
  denied_then g = sum_line (events + 4) (codes "denied") (Some denied) g.1 >>> closing

  last_late : (b : ℕ) (ps : Texts) → last_sums events given denied ps ≡ Err b → events + 3 ≤ b
  unfolding last_sums
  last_late b ps e =
      late (events + 3) (codes "given") (Some given) b denied_then (events + 3) ps (omega arith)
      (λ g e. late (events + 4) (codes "denied") (Some denied) b closing (events + 3) g.1 (omega arith) (λ d e. let at = closing_at b d e in omega (arith, at)) e) e

  last_same : (b n : ℕ) (ps qs : Texts) → SameParts n ps qs → b ≡ (events + 2) + n → last_sums events given denied ps ≡ Err b → last_sums events given denied qs ≡ Err b
  unfolding last_sums
  last_same b zero ps qs s is e = let l = last_late b ps e in absurd (omega (arith, l, is))
  last_same b (suc n) ps qs s is e = third
    where
      fourth : (m k : ℕ) (ps qs : Texts) → SameParts m ps qs → b ≡ (events + 3) + m → denied_then (k, ps) ≡ Err b → denied_then (k, qs) ≡ Err b
      fourth zero k ps qs s is e =
          let l = late (events + 4) (codes "denied") (Some denied) b closing (events + 4) ps (omega arith) (λ d e. let at = closing_at b d e in omega (arith, at)) e in
          absurd (omega (arith, l, is))
      fourth (suc m) k ps qs s is e =
          step (events + 4) (codes "denied") (Some denied) b closing m ps qs s (λ j ps qs s e. closing_same b m ps qs s (is ∙ omega arith) j e) e

      third : last_sums events given denied qs ≡ Err b
      third = step (events + 3) (codes "given") (Some given) b denied_then n ps qs s (λ k ps qs s e. fourth n k ps qs s (is ∙ omega arith) e) e

  abbrev last_then : ℕ × Texts → Result ℕ ℕ
  last_then c = last_sums events given denied c.1 >>> λ _. Ok c.0

  then_err : (c : ℕ × Texts) (b : ℕ) → last_then c ≡ Err b → last_sums events given denied c.1 ≡ Err b
  then_err c b e = by (last_sums events given denied c.1) e
    where
      by : (r : Result (Unit {0}) ℕ) → (r >>> λ _. Ok c.0) ≡ Err b → r ≡ Err b
      by (Ok x) e = absurd (clash c.0 b e)
      by (Err a) e = ap (λ (n : ℕ). Err n) (err_is a b e)

  abbrev calls_then : ℕ × Texts → Result ℕ ℕ
  calls_then e = sum_line (events + 2) (codes "calls") None e.1 >>> last_then

  sums_late : (b : ℕ) (ps : Texts) → sums_of events given denied ps ≡ Err b → events + 1 ≤ b
  unfolding sums_of
  sums_late b ps e =
      late (events + 1) (codes "events") (Some events) b calls_then (events + 1) ps (omega arith)
      (λ g e. late (events + 2) (codes "calls") None b last_then (events + 1) g.1 (omega arith) (λ c e. let l = last_late b c.1 (then_err c b e) in omega (arith, l)) e) e

  sums_same : (b n : ℕ) (ps qs : Texts) → SameParts n ps qs → b ≡ events + n → sums_of events given denied ps ≡ Err b → sums_of events given denied qs ≡ Err b
  unfolding sums_of
  sums_same b zero ps qs s is e = let l = sums_late b ps e in absurd (omega (arith, l, is))
  sums_same b (suc n) ps qs s is e = first
    where
      second : (m k : ℕ) (ps qs : Texts) → SameParts m ps qs → b ≡ (events + 1) + m → calls_then (k, ps) ≡ Err b → calls_then (k, qs) ≡ Err b
      second zero k ps qs s is e =
          let l = late (events + 2) (codes "calls") None b last_then (events + 2) ps (omega arith) (λ c e. let l = last_late b c.1 (then_err c b e) in omega (arith, l)) e in
          absurd (omega (arith, l, is))
      second (suc m) k ps qs s is e =
          step (events + 2) (codes "calls") None b last_then m ps qs s
          (λ j ps qs s e. ap (λ (r : Result (Unit {0}) ℕ). r >>> λ _. Ok j) (last_same b m ps qs s (is ∙ omega arith) (then_err (j, ps) b e))) e

      first : sums_of events given denied qs ≡ Err b
      first = step (events + 1) (codes "events") (Some events) b calls_then n ps qs s (λ k ps qs s e. second n k ps qs s (is ∙ omega arith) e) e

-- ---- lines of events

sums_err : (above : List Line) (ps : Texts) (b : ℕ) → sums above ps ≡ Err b
    → sums_of (length above) (count_by (λ l. is_given l.entry.reply) above) (count_by (λ l. is_denied l.entry.reply) above) ps ≡ Err b
unfolding sums
sums_err above ps b e = by (sums_of (length above) (count_by (λ l. is_given l.entry.reply) above) (count_by (λ l. is_denied l.entry.reply) above) ps) e
  where
    named : ℕ → Result (List Line × ℕ) ℕ
    named calls = Ok (above, calls)

    by : (r : Result ℕ ℕ) → (r >>> named) ≡ Err b → r ≡ Err b
    by (Ok x) e = let pair : List Line × ℕ = (above, x) in absurd (clash pair b e)
    by (Err a) e = ap (λ (n : ℕ). Err n) (err_is a b e)

behind_late : (ps : Texts) (above : List Line) (b : ℕ) → said_behind above ps ≡ Err b → length above < b
unfolding said_behind
behind_late [] above b e = let at = err_is (length above + 1) b e in omega (arith, at)
behind_late (p ∷ ps) above b e = by (λ x e. behind_late ps (above ++ x ∷ []) b e) (ended ps) e
  where
    found : ((x : Line) → said_behind (above ++ x ∷ []) ps ≡ Err b → length (above ++ x ∷ []) < b) → (o : Option Line) → said_or (λ x. said_behind (above ++ x ∷ []) ps) (sums above (p ∷ ps)) o ≡ Err b → length above < b
    found more None e = let l = sums_late _ _ _ b (p ∷ ps) (sums_err above (p ∷ ps) b e) in omega (arith, l)
    found more (Some x) e =
        let l = more x e in
        let n = length-append above (x ∷ []) in
        omega (arith, l, n)

    by : ((x : Line) → said_behind (above ++ x ∷ []) ps ≡ Err b → length (above ++ x ∷ []) < b) → (t : Bool)
        → cond t (said_or (λ x. said_behind (above ++ x ∷ []) ps) (sums above (p ∷ ps)) (line_of (length above) p)) (Err (length above + 1)) ≡ Err b → length above < b
    by more true e = found more (line_of (length above) p) e
    by more false e = let at = err_is (length above + 1) b e in omega (arith, at)

sums_stop : (above : List Line) (ps : Texts) (b : ℕ)
    → sums_of (length above) (count_by (λ l. is_given l.entry.reply) above) (count_by (λ l. is_denied l.entry.reply) above) ps ≡ Err b → sums above ps ≡ Err b
unfolding sums
sums_stop above ps b e = ap (λ (r : Result ℕ ℕ). r >>> named) e
  where
    named : ℕ → Result (List Line × ℕ) ℕ
    named calls = Ok (above, calls)

behind_same : (n b : ℕ) (ps qs : Texts) (above : List Line) → SameParts n ps qs → b ≡ length above + n → said_behind above ps ≡ Err b → said_behind above qs ≡ Err b
unfolding said_behind
behind_same zero b ps qs above s is e = let l = behind_late ps above b e in absurd (omega (arith, l, is))
behind_same (suc n) b [] qs above s is e = absurd (let h = s.here in omega (arith, h))
behind_same (suc n) b (p ∷ ps) [] above s is e = absurd (let t = s.there in omega (arith, t))
behind_same (suc n) b (p ∷ ps) (q ∷ qs) above s is e =
    let h = s.here in
    let t = s.there in
    let rest : SameParts n ps qs = record { here = omega (arith, h); there = omega (arith, t); same = tail_is p q (take n ps) (take n qs) s.same } in
    let l = more_ended n ps rest.here in
    let r = more_ended n qs rest.there in
    let same : p ≡ q = head_is p q (take n ps) (take n qs) s.same in
    let here : said_or (λ x. said_behind (above ++ x ∷ []) ps) (sums above (p ∷ ps)) (line_of (length above) p) ≡ Err b =
    sym (ap (λ (t : Bool). cond t (said_or (λ x. said_behind (above ++ x ∷ []) ps) (sums above (p ∷ ps)) (line_of (length above) p)) (Err (length above + 1))) l) ∙ e in
    ap (λ (t : Bool). cond t (said_or (λ x. said_behind (above ++ x ∷ []) qs) (sums above (q ∷ qs)) (line_of (length above) q)) (Err (length above + 1))) r
    ∙ ap (λ (w : List ℕ). said_or (λ x. said_behind (above ++ x ∷ []) qs) (sums above (q ∷ qs)) (line_of (length above) w)) (sym same)
    ∙ found (λ x e. behind_same n b ps qs (above ++ x ∷ []) rest (let m = length-append above (x ∷ []) in omega (arith, is, m)) e) (line_of (length above) p) here
  where
    found : ((x : Line) → said_behind (above ++ x ∷ []) ps ≡ Err b → said_behind (above ++ x ∷ []) qs ≡ Err b) → (o : Option Line) → said_or (λ x. said_behind (above ++ x ∷ []) ps) (sums above (p ∷ ps)) o ≡ Err b → said_or (λ x. said_behind (above ++ x ∷ []) qs) (sums above (q ∷ qs)) o ≡ Err b
    found more None e = sums_stop above (q ∷ qs) b (sums_same _ _ _ b (suc n) (p ∷ ps) (q ∷ qs) s is (sums_err above (p ∷ ps) b e))
    found more (Some x) e = more x e

-- ---- the lines above it begin a journal

same_none : (ps qs : Texts) → ended ps ≡ true → ended qs ≡ true → SameParts 0 ps qs
same_none [] qs a b = absurd cc
same_none (p ∷ ps) [] a b = absurd cc
same_none (p ∷ ps) (q ∷ qs) a b = record { here = omega arith; there = omega arith; same = refl }

same_more : (n : ℕ) (p q : List ℕ) (ps qs : Texts) → p ≡ q → SameParts n ps qs → SameParts (suc n) (p ∷ ps) (q ∷ qs)
same_more n p q ps qs same s =
    let h = s.here in
    let t = s.there in
    record { here = omega (arith, h); there = omega (arith, t); same = λ i. same i ∷ s.same i }

-- a line that counts, read or not
read_or : {B P : Type 0} (line : ℕ) (word : List ℕ) (wanted : Option ℕ) (b : ℕ) (f : ℕ × Texts → Result B ℕ) (ps : Texts) → (line ≡ b → P)
    → ((n : ℕ) (p : List ℕ) (rest : Texts) → ps ≡ p ∷ rest → ended rest ≡ true → p ≡ line_text (pair word n) → n < 2 ^ 64 → is_wanted wanted n ≡ true → f (n, rest) ≡ Err b → P)
    → (sum_line line word wanted ps >>> f) ≡ Err b → P
unfolding sum_line
read_or line word wanted b f [] stops goes e = stops (err_is line b e)
read_or {P = P} line word wanted b f (p ∷ ps) stops goes e = by (ended ps) refl e
  where
    found : ended ps ≡ true → (o : Option ℕ) → counted word (words_of p) ≡ o → (taken line wanted ps o >>> f) ≡ Err b → P
    found more None is e = stops (err_is line b e)
    found more (Some n) is e = test (is_wanted wanted n) refl e
      where
        test : (t : Bool) → is_wanted wanted n ≡ t → (cond t (Ok (n, ps)) (Err line) >>> f) ≡ Err b → P
        test true wants e =
            let text : p ≡ line_text (pair word n) = sym (line_of_words p) ∙ ap line_text (counted_is word (words_of p) n is) in
            goes n p ps refl more text (counted_fits word (words_of p) n is) wants e
        test false wants e = stops (err_is line b e)

    by : (t : Bool) → ended ps ≡ t → (cond t (taken line wanted ps (counted word (words_of p))) (Err line) >>> f) ≡ Err b → P
    by true more e = found more (counted word (words_of p)) refl e
    by false more e = stops (err_is line b e)

module _ (events given denied b : ℕ) where
  -- behind the first lines of a summary, so many, some more lines stand, and then the one where reading stops
  record Level (k : ℕ) (ps qs : Texts) : Type 0 where
    n : ℕ
    next : b ≡ ((events + k) + n) + 1
    same : SameParts n ps qs

  stop : (k : ℕ) (ps qs : Texts) → (events + k) + 1 ≡ b → ended ps ≡ true → ended qs ≡ true → Level k ps qs
  stop k ps qs at more other = record { n = 0; next = omega (arith, at); same = same_none ps qs more other }

  more : (k : ℕ) (ps : Texts) (p q : List ℕ) (rest qs : Texts) → ps ≡ p ∷ rest → p ≡ q → Level (suc k) rest qs → Level k ps (q ∷ qs)
  more k ps p q rest qs is same l =
      let next = l.next in
      subst (λ (x : Texts). Level k x (q ∷ qs)) (sym is) (record { n = suc l.n; next = omega (arith, next); same = same_more l.n p q rest qs same l.same })

  abbrev fourth : Texts
  fourth = line_text (pair (codes "denied") denied) ∷ [] ∷ []

  abbrev third : Texts
  third = line_text (pair (codes "given") given) ∷ fourth

  abbrev second : ℕ → Texts
  second calls = line_text (pair (codes "calls") calls) ∷ third

  denied_level : (j : ℕ) (ps : Texts) → ended ps ≡ true → denied_then events given denied (j, ps) ≡ Err b → Level 3 ps fourth
  denied_level j ps some e =
      read_or (events + 4) (codes "denied") (Some denied) b (closing events given denied) ps (λ at. stop 3 ps fourth (omega (arith, at)) some refl)
      (λ n p rest is behind text lt wants e.
      let at = closing_at events given denied b (n, rest) e in
      more 3 ps p _ rest ([] ∷ []) is (text ∙ ap (λ (k : ℕ). line_text (pair (codes "denied") k)) (eqb-true n denied wants)) (stop 4 rest ([] ∷ []) (omega (arith, at)) behind refl)) e

  given_level : (ps : Texts) → ended ps ≡ true → last_sums events given denied ps ≡ Err b → Level 2 ps third
  unfolding last_sums
  given_level ps some e =
      read_or (events + 3) (codes "given") (Some given) b (denied_then events given denied) ps (λ at. stop 2 ps third (omega (arith, at)) some refl)
      (λ n p rest is behind text lt wants e. more 2 ps p _ rest fourth is (text ∙ ap (λ (k : ℕ). line_text (pair (codes "given") k)) (eqb-true n given wants)) (denied_level n rest behind e)) e

  -- with some number of calls
  record Called (k : ℕ) (ps : Texts) (qs : ℕ → Texts) : Type 0 where
    calls : ℕ
    counted : calls < 2 ^ 64
    level : Level k ps (qs calls)

  calls_level : (j : ℕ) (ps : Texts) → ended ps ≡ true → calls_then events given denied (j, ps) ≡ Err b → Called 1 ps second
  calls_level j ps some e =
      read_or (events + 2) (codes "calls") None b (last_then events given denied) ps (λ at. record { calls = 0; counted = omega arith; level = stop 1 ps (second 0) (omega (arith, at)) some refl })
      (λ n p rest is behind text lt wants e.
      record { calls = n; counted = lt; level = more 1 ps p _ rest third is text (given_level rest behind (then_err events given denied (n, rest) b e)) }) e

  abbrev first : ℕ → Texts
  first calls = line_text (pair (codes "events") events) ∷ second calls

  first_level : (ps : Texts) → ended ps ≡ true → sums_of events given denied ps ≡ Err b → Called 0 ps first
  unfolding sums_of
  first_level ps some e =
      read_or (events + 1) (codes "events") (Some events) b (calls_then events given denied) ps (λ at. record { calls = 0; counted = omega arith; level = stop 0 ps (first 0) (omega (arith, at)) some refl })
      (λ n p rest is behind text lt wants e.
      let c = calls_level n rest behind e in
      record { calls = c.calls; counted = c.counted; level = more 0 ps p _ rest (second c.calls) is (text ∙ ap (λ (k : ℕ). line_text (pair (codes "events") k)) (eqb-true n events wants)) c.level }) e

-- more lines of events, which fit, and then the lines that sum all of them up
record Begun (above : List Line) (ps : Texts) (b : ℕ) : Type 0 where
  lines : List Line
  calls : ℕ
  n : ℕ
  next : b ≡ (length above + n) + 1
  fit : LinesFit (length above) lines
  few : length above + length lines < 2 ^ 64
  counted : calls < 2 ^ 64
  same : SameParts n ps (lines_of (rest_text lines (summary_of (above ++ lines) calls)))

-- no more lines of events
none_more : (above : List Line) (ps : Texts) (b n calls : ℕ) → b ≡ (length above + n) + 1 → length above < 2 ^ 64 → calls < 2 ^ 64
    → SameParts n ps (lines_of (summary_of above calls)) → Begun above ps b
none_more above ps b n calls next few counted same =
    record {
      lines = [];
      calls = calls;
      n = n;
      next = next;
      fit = tt;
      few = omega (arith, few);
      counted = counted;
      same = subst (λ (x : List Line). SameParts n ps (lines_of (summary_of x calls))) (sym (append-nil above)) same;
    }

sums_begun : (above : List Line) (ps : Texts) (b : ℕ) → length above < 2 ^ 64 → ended ps ≡ true → sums above ps ≡ Err b → Begun above ps b
sums_begun above ps b few some e =
    let g : count_by (λ l. is_given l.entry.reply) above < 2 ^ 64 = let le = count_by-le-length (λ l. is_given l.entry.reply) above in omega arith in
    let d : count_by (λ l. is_denied l.entry.reply) above < 2 ^ 64 = let le = count_by-le-length (λ l. is_denied l.entry.reply) above in omega arith in
    let c = first_level (length above) _ _ b ps some (sums_err above ps b e) in
    let next = c.level.next in
    none_more above ps b c.level.n c.calls (omega (arith, next)) few c.counted
    (subst (λ (q : Texts). SameParts c.level.n ps q) (sym (four_lines (length above) c.calls _ _ few c.counted g d)) c.level.same)

behind_begun : (ps : Texts) (above : List Line) (b : ℕ) → length above + length ps ≤ 2 ^ 64 → ended ps ≡ true → said_behind above ps ≡ Err b → Begun above ps b
unfolding said_behind
behind_begun [] above b few some e = absurd cc
behind_begun (p ∷ ps) above b few some e =
    by (λ x says more e. behind_begun ps (above ++ x ∷ []) b (let m = length-append above (x ∷ []) in omega (arith, m, few)) more e) (ended ps) refl e
  where
    Next : Type 0
    Next = (x : Line) → line_of (length above) p ≡ Some x → ended ps ≡ true → said_behind (above ++ x ∷ []) ps ≡ Err b → Begun (above ++ x ∷ []) ps b

    found : Next → ended ps ≡ true → (o : Option Line) → line_of (length above) p ≡ o → said_or (λ x. said_behind (above ++ x ∷ []) ps) (sums above (p ∷ ps)) o ≡ Err b → Begun above (p ∷ ps) b
    found next more None is e = sums_begun above (p ∷ ps) b (omega (arith, few)) refl e
    found next more (Some x) is e =
        let l = line_is (length above) (words_of p) x is in
        let g = next x is more e in
        let m = length-append above (x ∷ []) in
        let next_is = g.next in
        let few_more = g.few in
        let words = entry_words x.stamp x.read x.entry in
        let fit_rest : LinesFit (length above + 1) g.lines = subst (λ (k : ℕ). LinesFit k g.lines) m g.fit in
        let text : p ≡ line_text words = sym (line_of_words p) ∙ ap line_text l.is in
        let all : (above ++ x ∷ []) ++ g.lines ≡ above ++ x ∷ g.lines = append_assoc above (x ∷ []) g.lines in
        let tail = summary_of (above ++ x ∷ g.lines) g.calls in
        let rest : SameParts g.n ps (lines_of (rest_text g.lines tail)) = subst (λ (y : List Line). SameParts g.n ps (lines_of (rest_text g.lines (summary_of y g.calls)))) all g.same in
        let says = all_again (length above) (x ∷ []) (l.fits, tt) in
        record {
          lines = x ∷ g.lines;
          calls = g.calls;
          n = suc g.n;
          next = omega (arith, next_is, m);
          fit = (l.fits, fit_rest);
          few = omega (arith, few_more, m);
          counted = g.counted;
          same = subst (λ (q : Texts). SameParts (suc g.n) (p ∷ ps) q) (sym (line_again x g.lines tail says.0.words)) (same_more g.n p (line_text words) ps _ text rest);
        }

    by : Next → (t : Bool) → ended ps ≡ t → cond t (said_or (λ x. said_behind (above ++ x ∷ []) ps) (sums above (p ∷ ps)) (line_of (length above) p)) (Err (length above + 1)) ≡ Err b → Begun above (p ∷ ps) b
    by next true more e = found next more (line_of (length above) p) refl e
    by next false more e =
        let at = err_is (length above + 1) b e in
        none_more above (p ∷ ps) b 0 0 (omega (arith, at)) (omega (arith, few)) (omega arith) (same_none (p ∷ ps) _ refl (ended_lines (summary_of above 0)))

-- ---- a text

same_lines : (n : ℕ) (text other : List ℕ) → SameLines n text other → SameParts n (lines_of text) (lines_of other)
same_lines n text other s = record { here = s.here; there = s.there; same = s.same }

journal_again : (text : List ℕ) (lines : List Line) (calls : ℕ) → IsJournal text lines calls → said text ≡ Ok (lines, calls)
journal_again text lines calls j = said_again lines calls text j.few j.counted (all_again 0 lines j.fit) j.printed

few_lines : (text : List ℕ) → length text < 2 ^ 64 → length (lines_of text) ≤ 2 ^ 64
unfolding lines_of
few_lines text lt =
    let m = length-slice_split is_break text in
    let le = count_by-le-length is_break text in
    omega (arith, m, le, lt)

first_bad : (text : List ℕ) (line : ℕ) → length text < 2 ^ 64 → said text ≡ Err line → IsFirstBad text line
unfolding said text_of
first_bad text line lt e =
    let g = behind_begun (lines_of text) [] line (let f = few_lines text lt in omega (arith, f)) (ended_lines text) e in
    let next = g.next in
    let few = g.few in
    let journal = text_of g.lines g.calls in
    record {
      above = g.n;
      next = omega (arith, next);
      begins = record {
        journal = journal;
        lines = g.lines;
        calls = g.calls;
        is = record { printed = refl; fit = g.fit; few = omega (arith, few); counted = g.counted };
        same = record { here = g.same.here; there = g.same.there; same = g.same.same };
      };
      ends = λ c. clash (c.lines, c.calls) line (sym (journal_again c.journal c.lines c.calls c.is)
          ∙ behind_same line line (lines_of text) (lines_of c.journal) [] (same_lines line text c.journal c.same) (omega arith) e);
      none = λ lines calls j. clash (lines, calls) line (sym (journal_again text lines calls j) ∙ e);
    }

abbrev View : Type 0
View = Vec Line × ℕ

abbrev view : View → List Line × ℕ
view j = (j.0.items, j.1)

-- what is read is a journal, and else the line is the first bad one
pub reads_journal : (text : List ℕ) (r : Result View JournalFail) → length text < 2 ^ 64 → Reads view r (said text) → ReadsJournal view r text
reads_journal text (Ok j) lt read = journal_is text (j.0.items, j.1) read
reads_journal text (Err NoMemory) lt read = tt
reads_journal text (Err (Bad line)) lt read = first_bad text line lt read

-- a journal is read as its lines
pub reads_again : (text : List ℕ) (r : Result View JournalFail) → Reads view r (said text) → ReadsAgain view r text
reads_again text (Ok x) read lines calls j = ok_is (view x) (lines, calls) (sym read ∙ journal_again text lines calls j)
reads_again text (Err NoMemory) read lines calls j = tt
reads_again text (Err (Bad line)) read lines calls j = clash (lines, calls) line (sym (journal_again text lines calls j) ∙ read)
