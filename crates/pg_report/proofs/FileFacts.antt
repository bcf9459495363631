-- The files of the bits of a number, one after another.
use Rattle.std.proofs.Common.{◌≡◌, ℕ, suc, ◌+◌, ◌-◌, ◌/◌, ◌%◌, ◌<◌, Bool, true, false, List, [], ◌∷◌, ◌++◌, refl, ap, sym, ◌∙◌, append_assoc, arith}
use Rattle.std.specs.List.{join_with_byte}
use Rattle.std.proofs.lemmas.Bool.{eq-eqb, ne_eqb}
use Rattle.std.proofs.lemmas.List.{append-nil}
use Rattle.pg_words.specs.Names.{file_text}
use Rattle.pg_report.specs.Forms.{bit_files}
use Rattle.pg_report.specs.ReplyParts.{comma_unless, behind_names, listed}

-- names in a row are the first one and those that follow it
joined : (name : List ℕ) (names : List (List ℕ)) → join_with_byte 44 (name ∷ names) ≡ name ++ behind_names names
joined name [] = sym (append-nil name)
joined name (next ∷ names) = ap (λ (rest : List ℕ). name ++ 44 ∷ rest) (joined next names)

-- one name of a list
named : (first : Bool) (name : List ℕ) (names : List (List ℕ)) → listed first (name ∷ names) ≡ (comma_unless first ++ name) ++ listed false names
named true name names = joined name names
named false name names = refl

module _ (text goal : List ℕ) (first : Bool) (file rest : ℕ) (lt : file < 16) where
  left : ℕ
  left = 16 - (file + 1)

  steps : bit_files (16 - file) file rest ≡ bit_files (suc left) file rest
  unfolding left
  steps = ap (λ (n : ℕ). bit_files n file rest) {x = 16 - file} {y = suc (16 - (file + 1))} (omega arith)

  -- the file is one of them
  pub one_listed : (new : List ℕ) → rest % 2 ≡ 1 → new ≡ text ++ (comma_unless first ++ file_text file) → text ++ listed first (bit_files (16 - file) file rest) ≡ goal
      → new ++ listed false (bit_files (16 - (file + 1)) (file + 1) (rest / 2)) ≡ goal
  unfolding left
  one_listed new odd is so_far =
      let more = bit_files (16 - (file + 1)) (file + 1) (rest / 2) in
      let here : bit_files (16 - file) file rest ≡ file_text file ∷ more = steps ∙ rw (eq-eqb _ _ odd) refl in
      ap (λ (t : List ℕ). t ++ listed false more) is ∙ append_assoc text (comma_unless first ++ file_text file) (listed false more)
      ∙ ap (λ (t : List ℕ). text ++ t) (sym (named first (file_text file) more) ∙ ap (listed first) (sym here)) ∙ so_far

  -- it is none of them
  pub none_listed : (rest % 2 ≡ 1 → ⊥) → text ++ listed first (bit_files (16 - file) file rest) ≡ goal
      → text ++ listed first (bit_files (16 - (file + 1)) (file + 1) (rest / 2)) ≡ goal
  unfolding left
  none_listed even so_far =
      let here : bit_files (16 - file) file rest ≡ bit_files (16 - (file + 1)) (file + 1) (rest / 2) = steps ∙ rw (ne_eqb _ _ even) refl in
      ap (λ (names : List (List ℕ)). text ++ listed first names) (sym here) ∙ so_far
