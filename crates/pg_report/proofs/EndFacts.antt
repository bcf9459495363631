-- A text has a first line, and one empty line where it is empty.
use Rattle.std.proofs.Common.{◌≡◌, ℕ, cond, ◌==◌, Bool, true, false, List, [], ◌∷◌, length, refl, sym, ◌∙◌, arith}
use Rattle.std.specs.List.{slice_split, onto_first}
use Rattle.std.proofs.lemmas.Bool.{ne_eqb}
use Rattle.pg_words.specs.Lines.{lines_of, is_break}
use Rattle.pg_report.specs.Reading.{ended, is_end}

pub ended_split : (p : ℕ → Bool) (text : List ℕ) → ended (slice_split p text) ≡ true
ended_split p [] = refl
ended_split p (c ∷ cs) = by (p c) (slice_split p cs)
  where
    by : (t : Bool) (parts : List (List ℕ)) → ended (cond t ([] ∷ parts) (onto_first c parts)) ≡ true
    by true parts = refl
    by false [] = refl
    by false (part ∷ parts) = refl

pub ended_lines : (text : List ℕ) → ended (lines_of text) ≡ true
unfolding lines_of
ended_lines text = ended_split is_break text

end_split : (p : ℕ → Bool) (c : ℕ) (cs : List ℕ) → is_end (slice_split p (c ∷ cs)) ≡ false
end_split p c cs = by (p c) (slice_split p cs) (ended_split p cs)
  where
    by : (t : Bool) (parts : List (List ℕ)) → ended parts ≡ true → is_end (cond t ([] ∷ parts) (onto_first c parts)) ≡ false
    by true [] some = absurd cc
    by true (part ∷ parts) some = refl
    by false [] some = refl
    by false (part ∷ []) some = refl
    by false (part ∷ next ∷ parts) some = refl

pub is_end_lines : (text : List ℕ) → is_end (lines_of text) ≡ (length text == 0)
unfolding lines_of
is_end_lines [] = refl
is_end_lines (c ∷ cs) = end_split is_break c cs ∙ sym (ne_eqb (length (c ∷ cs)) 0 (λ e. absurd (omega arith)))
