-- The first line of a text ends at its first LF.
use Rattle.std.proofs.Common.{◌≡◌, ℕ, suc, ◌+◌, ◌-◌, ◌≤◌, cond, ltb, not, Bool, true, false, List, [], ◌∷◌, length, take, drop, Some, None, refl, ap, sym, ◌∙◌, arith}
use Rattle.std.specs.Prelude.{position}
use Rattle.std.specs.List.{slice_split, onto_first, position_or_len}
use Rattle.std.proofs.lemmas.Bool.{ltb-true, ltb-false}
use Rattle.std.proofs.lemmas.List.{take_all, length-drop}
use Rattle.std.proofs.lemmas.List.Splits.{slice_split_first}
use Rattle.pg_words.specs.Lines.{lines_of, is_break}

-- what stands before the first element that passes, and the parts behind it
split_at_position : (p : ℕ → Bool) (xs : List ℕ) (at : ℕ) → position p xs ≡ Some at → slice_split p xs ≡ take at xs ∷ slice_split p (drop (at + 1) xs)
split_at_position p xs at e = by (ltb (position_or_len p xs) (length xs)) refl e
  where
    by : (t : Bool) → ltb (position_or_len p xs) (length xs) ≡ t → cond t (Some (position_or_len p xs)) None ≡ Some at → slice_split p xs ≡ take at xs ∷ slice_split p (drop (at + 1) xs)
    by true lt e = let is : position_or_len p xs ≡ at = cc in rw (← is) (slice_split_first p xs 0 (ltb-true _ _ lt))
    by false ge e = absurd cc

all_before : (p : ℕ → Bool) (xs : List ℕ) → length xs ≤ position_or_len p xs → slice_split p xs ≡ xs ∷ []
all_before p [] le = refl
all_before p (x ∷ xs) le = by (p x) refl le (all_before p xs)
  where
    by : (t : Bool) → p x ≡ t → suc (length xs) ≤ cond (not t) (1 + position_or_len p xs) 0 → (length xs ≤ position_or_len p xs → slice_split p xs ≡ xs ∷ []) → cond t ([] ∷ slice_split p xs) (onto_first x (slice_split p xs)) ≡ (x ∷ xs) ∷ []
    by true e le rest = absurd (omega arith)
    by false e le rest = ap (onto_first x) (rest (omega arith))

split_nowhere : (p : ℕ → Bool) (xs : List ℕ) → position p xs ≡ None → slice_split p xs ≡ xs ∷ []
split_nowhere p xs e = by (ltb (position_or_len p xs) (length xs)) refl e
  where
    by : (t : Bool) → ltb (position_or_len p xs) (length xs) ≡ t → cond t (Some (position_or_len p xs)) None ≡ None → slice_split p xs ≡ xs ∷ []
    by true lt e = absurd cc
    by false ge e = all_before p xs (ltb-false _ _ ge)

pub lines_at : (text : List ℕ) (at : ℕ) → position is_break text ≡ Some at → lines_of text ≡ take at text ∷ lines_of (take (length text - (at + 1)) (drop (at + 1) text))
unfolding lines_of
lines_at text at e =
    split_at_position is_break text at e
    ∙ ap (λ (rest : List ℕ). take at text ∷ slice_split is_break rest) (sym (take_all (length text - (at + 1)) (drop (at + 1) text) (omega (arith, length-drop (at + 1) text))))

pub one_line : (text : List ℕ) → position is_break text ≡ None → lines_of text ≡ text ∷ []
unfolding lines_of
one_line text e = split_nowhere is_break text e
