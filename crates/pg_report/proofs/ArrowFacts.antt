-- The words before the first arrow, one after another.
use Rattle.std.proofs.Common.{◌≡◌, ℕ, ◌+◌, ◌-◌, ◌<◌, ◌≤◌, true, false, List, [], ◌∷◌, ◌++◌, length, get_or, take, drop, Option, Some, None, option_map, refl, ap, sym, ◌∙◌, append_assoc, arith}
use Rattle.std.proofs.lemmas.List.{append-nil, at_drop_more, at_drop_all, take_more, take_all, length-drop, take-map, drop-map}
use Rattle.std.specs.Borrow.{Bor}
use Rattle.pg_words.specs.Lines.{texts}
use Rattle.pg_report.specs.Reading.{Halves, is_arrow, with_word, at_arrow}

-- what is said behind words that were passed
abbrev pub with_front : List (List ℕ) → Halves → Halves
with_front front halves = (front ++ halves.0, halves.1)

module _ (words : List (List ℕ)) (i : ℕ) (d : List ℕ) (total : Option Halves) (lt : i < length words) where
  here : at_arrow (drop i words) ≡ at_arrow (get_or words i d ∷ drop (i + 1) words)
  here = at_drop_more at_arrow words i d lt

  regroup : (o : Option Halves) → option_map (with_front (take i words)) (option_map (with_word (get_or words i d)) o) ≡ option_map (with_front (take (i + 1) words)) o
  regroup None = refl
  regroup (Some halves) =
      let more : take i words ++ get_or words i d ∷ halves.0 ≡ take (i + 1) words ++ halves.0 =
      sym (append_assoc (take i words) (get_or words i d ∷ []) halves.0) ∙ ap (λ (front : List (List ℕ)). front ++ halves.0) (sym (take_more words i d lt)) in
      ap (λ (front : List (List ℕ)). Some (front, halves.1)) more

  pub passed : is_arrow (get_or words i d) ≡ false → option_map (with_front (take i words)) (at_arrow (drop i words)) ≡ total
      → option_map (with_front (take (i + 1) words)) (at_arrow (drop (i + 1) words)) ≡ total
  unfolding at_arrow
  passed other so_far = sym (regroup (at_arrow (drop (i + 1) words))) ∙ ap (option_map (with_front (take i words))) (sym (rw other at here)) ∙ so_far

  pub found : is_arrow (get_or words i d) ≡ true → option_map (with_front (take i words)) (at_arrow (drop i words)) ≡ total → total ≡ Some (take i words, drop (i + 1) words)
  unfolding at_arrow
  found arrow so_far =
      sym so_far ∙ ap (option_map (with_front (take i words))) (rw arrow at here) ∙ ap (λ (front : List (List ℕ)). Some (front, drop (i + 1) words)) (append-nil (take i words))

pub nowhere : (words : List (List ℕ)) (i : ℕ) (total : Option Halves) → length words ≤ i → option_map (with_front (take i words)) (at_arrow (drop i words)) ≡ total → total ≡ None
unfolding at_arrow
nowhere words i total le so_far = sym so_far ∙ ap (option_map (with_front (take i words))) (at_drop_all at_arrow words i le)

-- what is read past the end of a list of borrowed words
abbrev pub blank : Bor (List ℕ)
blank = record { ref_ptr = (0, 0); now = [] }

pub texts_taken : (i : ℕ) (words : List (Bor (List ℕ))) → texts (take i words) ≡ take i (texts words)
texts_taken i words = sym (take-map (λ (w : Bor (List ℕ)). w.now) i words)

pub texts_dropped : (i : ℕ) (words : List (Bor (List ℕ))) → i < length words → texts (take (length words - (i + 1)) (drop (i + 1) words)) ≡ drop (i + 1) (texts words)
texts_dropped i words lt =
    ap texts (take_all (length words - (i + 1)) (drop (i + 1) words) (omega (arith, length-drop (i + 1) words))) ∙ sym (drop-map (λ (w : Bor (List ℕ)). w.now) (i + 1) words)
