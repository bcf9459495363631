-- A journal tells the order of the workers, so with the scripts it tells the history.
use Rattle.std.proofs.Common.{◌≡◌, ℕ, ◌+◌, ◌^◌, ◌<◌, true, List, [], ◌∷◌, ◌++◌, codes, length, refl, ap, sym, subst, ◌∙◌, arith, append_assoc}
use Rattle.std.specs.List.{flat_map, list_all}
use Rattle.std.specs.Char.{is_ascii_digit}
use Rattle.std.specs.Fmt.{decimal}
use Rattle.std.proofs.lemmas.Grind.{common_steps}
use Rattle.std.proofs.lemmas.Bool.{and_parts}
use Rattle.std.proofs.lemmas.Bool.Decides.{nat_tests}
use Rattle.std.proofs.lemmas.Fmt.{decimal_injective}
use Rattle.std.proofs.lemmas.List.{append_cancel_left}
use Rattle.std.proofs.lemmas.List.Concat.{flat_map-cons}
use Rattle.pg_digest.specs.Kinds.{Hash}
use Rattle.cs_policy.specs.declared.call.Call.{Call}
use Rattle.pg_words.specs.Numbers.{has_lead}
use Rattle.pg_words.specs.Lines.{line_text}
use Rattle.pg_words.proofs.NumeralFacts.{base10, printed_numeral}
use Rattle.pg_report.specs.Events.{event_words}
use Rattle.pg_report.specs.Replies.{reply_words, read_count}
use Rattle.pg_report.specs.Forms.{place_text}
use Rattle.pg_report.specs.Journal.{entry_text, stamped_text, summary, journal}
use Rattle.pg_history.specs.Machine.{Line, Machine, after, Answered}
use Rattle.pg_history.specs.Opening.{Opening, Numbers, numbers_of}
use Rattle.pg_history.specs.Legal.{AreScripted, Legal}
use Rattle.pg_printed.proofs.ScheduleFacts.{has_script, goes_on_alike, ends_alike, Stands, stand_all, same_entry}

-- ---- the worker of a line

digits_of : (n : ℕ) → n < 2 ^ 64 → list_all is_ascii_digit (decimal n) ≡ true
digits_of n lt = (and_parts (has_lead (decimal n)) (list_all is_ascii_digit (decimal n)) (printed_numeral is_ascii_digit 10 base10 n lt)).1

-- digits up to the first point
up_to_point : (xs ys us vs : List ℕ) → list_all is_ascii_digit xs ≡ true → list_all is_ascii_digit ys ≡ true → xs ++ 46 ∷ us ≡ ys ++ 46 ∷ vs → xs ≡ ys
up_to_point [] [] us vs a b same = refl
up_to_point [] (y ∷ ys) us vs a b same = absurd (no_digit y (and_parts (is_ascii_digit y) (list_all is_ascii_digit ys) b).0 (first same))
  where
    first : {x z : ℕ} {xs zs : List ℕ} → (x ∷ xs) ≡ (z ∷ zs) → z ≡ x
    first e = grind (arith, common_steps, e)

    no_digit : (z : ℕ) → is_ascii_digit z ≡ true → z ≡ 46 → ⊥
    no_digit z d e = absurd (grind (arith, nat_tests, d, e))
up_to_point (x ∷ xs) [] us vs a b same = absurd (no_digit x (and_parts (is_ascii_digit x) (list_all is_ascii_digit xs) a).0 (first same))
  where
    first : {x z : ℕ} {xs zs : List ℕ} → (x ∷ xs) ≡ (z ∷ zs) → x ≡ z
    first e = grind (arith, common_steps, e)

    no_digit : (z : ℕ) → is_ascii_digit z ≡ true → z ≡ 46 → ⊥
    no_digit z d e = absurd (grind (arith, nat_tests, d, e))
up_to_point (x ∷ xs) (y ∷ ys) us vs a b same =
    let parts = both same in
    ap (λ (z : ℕ). z ∷ xs) parts.0
    ∙ ap (λ (zs : List ℕ). y ∷ zs)
    (up_to_point xs ys us vs (and_parts (is_ascii_digit x) (list_all is_ascii_digit xs) a).1 (and_parts (is_ascii_digit y) (list_all is_ascii_digit ys) b).1 parts.1)
  where
    both : {x z : ℕ} {xs zs : List ℕ} → (x ∷ xs) ≡ (z ∷ zs) → (x ≡ z) × (xs ≡ zs)
    both e = (grind (arith, common_steps, e), grind (arith, common_steps, e))

-- three parts behind one that is put first
first_of_four : (d x t r : List ℕ) → ((d ++ x) ++ t) ++ r ≡ d ++ ((x ++ t) ++ r)
first_of_four d x t r = ap (λ (z : List ℕ). z ++ r) (append_assoc d x t) ∙ append_assoc d (x ++ t) r

first_of_five : (w y j t r : List ℕ) → (((w ++ y) ++ j) ++ t) ++ r ≡ w ++ (((y ++ j) ++ t) ++ r)
first_of_five w y j t r = ap (λ (z : List ℕ). (z ++ t) ++ r) (append_assoc w y j) ∙ first_of_four w (y ++ j) t r

-- behind the worker's number
behind_worker : Line → List ℕ → List ℕ
behind_worker e rest =
    ((decimal e.entry.who.call
    ++ 32 ∷ line_text (place_text e.entry.place ∷ (event_words e.entry.event ++ (codes "->" ∷ reply_words (read_count e.entry.reply) e.entry.reply))))
    ++ codes "\n")
    ++ rest

-- a line with what follows it
begun : (e : Line) (rest : List ℕ) → stamped_text e ++ rest ≡ decimal e.stamp ++ 32 ∷ (decimal e.entry.who.worker ++ 46 ∷ behind_worker e rest)
unfolding entry_text behind_worker
begun e rest =
    first_of_four (decimal e.stamp) (32 ∷ (who ++ others)) (codes "\n") rest
    ∙ ap (λ (z : List ℕ). decimal e.stamp ++ 32 ∷ z) (first_of_five (decimal e.entry.who.worker) (46 ∷ decimal e.entry.who.call) others (codes "\n") rest)
  where
    who : List ℕ
    who = decimal e.entry.who.worker ++ 46 ∷ decimal e.entry.who.call

    others : List ℕ
    others = 32 ∷ line_text (place_text e.entry.place ∷ (event_words e.entry.event ++ (codes "->" ∷ reply_words (read_count e.entry.reply) e.entry.reply)))

same_worker : (e f : Line) (us vs : List ℕ) → e.stamp ≡ f.stamp → e.entry.who.worker < 2 ^ 64 → f.entry.who.worker < 2 ^ 64
    → stamped_text e ++ us ≡ stamped_text f ++ vs → e.entry.who.worker ≡ f.entry.who.worker
same_worker e f us vs stamp a b same =
    let x = behind_worker e us in
    let y = behind_worker f vs in
    let whole : decimal f.stamp ++ 32 ∷ (decimal e.entry.who.worker ++ 46 ∷ x) ≡ decimal f.stamp ++ 32 ∷ (decimal f.entry.who.worker ++ 46 ∷ y)
    = ap (λ (n : ℕ). decimal n ++ 32 ∷ (decimal e.entry.who.worker ++ 46 ∷ x)) (sym stamp) ∙ sym (begun e us) ∙ same ∙ begun f vs in
    let cut = tails (append_cancel_left (decimal f.stamp) _ _ whole) in
    decimal_injective e.entry.who.worker f.entry.who.worker a b
    (up_to_point (decimal e.entry.who.worker) (decimal f.entry.who.worker) x y (digits_of e.entry.who.worker a) (digits_of f.entry.who.worker b) cut)
  where
    tails : {x z : ℕ} {xs zs : List ℕ} → (x ∷ xs) ≡ (z ∷ zs) → xs ≡ zs
    tails e = grind (arith, common_steps, e)

-- ---- the whole history

module _ (hash : Hash) (numbers : Numbers) (scripts : List (List Call)) (few : length scripts < 2 ^ 64) where
  same_rest : (m : Machine) (k : ℕ) (before es fs : List Line) (s t : List ℕ)
      → AreScripted hash numbers scripts (before ++ es) → AreScripted hash numbers scripts (before ++ fs) → Stands numbers k es → Stands numbers k fs
      → Answered hash m es → Answered hash m fs → flat_map stamped_text es ++ s ≡ flat_map stamped_text fs ++ t → es ≡ fs
  same_rest m k before [] [] s t one other a b x y same = refl
  same_rest m k before [] (f ∷ fs) s t one other a b x y same = absurd (ends_alike hash numbers scripts before f fs one other)
  same_rest m k before (e ∷ es) [] s t one other a b x y same = absurd (ends_alike hash numbers scripts before e es other one)
  same_rest m k before (e ∷ es) (f ∷ fs) s t one other a b x y same =
      let texts : stamped_text e ++ (flat_map stamped_text es ++ s) ≡ stamped_text f ++ (flat_map stamped_text fs ++ t)
      = sym (cut e es s) ∙ same ∙ cut f fs t in
      let small : e.entry.who.worker < 2 ^ 64 = omega (arith, few, has_script hash numbers scripts before e es one) in
      let low : f.entry.who.worker < 2 ^ 64 = omega (arith, few, has_script hash numbers scripts before f fs other) in
      let worker = same_worker e f (flat_map stamped_text es ++ s) (flat_map stamped_text fs ++ t) (a.0 ∙ sym b.0) small low texts in
      let first : e ≡ f = same_entry hash numbers m k e f (goes_on_alike hash numbers scripts before e f es fs worker one other) a.0 b.0 a.1 b.1 x.0 y.0 in
      let rest : flat_map stamped_text es ++ s ≡ flat_map stamped_text fs ++ t
      = append_cancel_left (stamped_text f) _ _ (ap (λ (l : Line). stamped_text l ++ (flat_map stamped_text es ++ s)) (sym first) ∙ texts) in
      let one_on : AreScripted hash numbers scripts ((before ++ f ∷ []) ++ es)
      = subst (AreScripted hash numbers scripts) (ap (λ (l : Line). before ++ l ∷ es) first ∙ sym (append_assoc before (f ∷ []) es)) one in
      let other_on : AreScripted hash numbers scripts ((before ++ f ∷ []) ++ fs) = subst (AreScripted hash numbers scripts) (sym (append_assoc before (f ∷ []) fs)) other in
      ap (λ (l : Line). l ∷ es) first
      ∙ ap (λ (ls : List Line). f ∷ ls)
      (same_rest (after hash m f) (k + 1) (before ++ f ∷ []) es fs s t one_on other_on a.2 b.2 (subst (λ (l : Line). Answered hash (after hash m l) es) first x.1) y.1 rest)
    where
      cut : (e : Line) (es : List Line) (s : List ℕ) → flat_map stamped_text (e ∷ es) ++ s ≡ stamped_text e ++ (flat_map stamped_text es ++ s)
      cut e es s = ap (λ (text : List ℕ). text ++ s) (flat_map-cons stamped_text e es) ∙ append_assoc (stamped_text e) (flat_map stamped_text es) s

pub one_history_of : (hash : Hash) (o : Opening) (scripts : List (List Call)) (one other : List Line) (calls more : ℕ) → length scripts < 2 ^ 64
    → Legal hash o scripts one → Legal hash o scripts other → journal one calls ≡ journal other more → one ≡ other
unfolding journal
one_history_of hash o scripts one other calls more few a b same =
    same_rest hash (numbers_of o) scripts few o.machine 0 [] one other (summary one calls) (summary other more) a.calls b.calls
    (stand_all (numbers_of o) 0 one (λ i e there. a.linked.stamps i e there ∙ none_more i) a.linked.agrees)
    (stand_all (numbers_of o) 0 other (λ i e there. b.linked.stamps i e there ∙ none_more i) b.linked.agrees)
    a.linked.replies b.linked.replies same
  where
    none_more : (n : ℕ) → n ≡ 0 + n
    none_more n = omega arith
