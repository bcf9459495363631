-- A table is searched from its front.
use Rattle.std.proofs.Common.{◌≡◌, ℕ, ◌+◌, ◌<◌, ◌≤◌, true, false, List, length, get_or, drop, Option, Some, None, sym, ◌∙◌}
use Rattle.std.specs.Prelude.{bytes_eq}
use Rattle.std.proofs.lemmas.List.{at_drop_more, at_drop_all}
use Rattle.pg_words.specs.Rows.{named}

module _ {A : Type 0} (text : A → List ℕ) (table : List A) (word : List ℕ) (i : ℕ) (d : A) (total : Option A) where
  pub passes : i < length table → bytes_eq word (text (get_or table i d)) ≡ false → named text (drop i table) word ≡ total → named text (drop (i + 1) table) word ≡ total
  passes lt other so_far = let here = at_drop_more (λ (rest : List A). named text rest word) table i d lt in sym (rw other at here) ∙ so_far

  pub is_found : i < length table → bytes_eq word (text (get_or table i d)) ≡ true → named text (drop i table) word ≡ total → total ≡ Some (get_or table i d)
  is_found lt same so_far = let here = at_drop_more (λ (rest : List A). named text rest word) table i d lt in sym so_far ∙ rw same at here

  pub is_none : length table ≤ i → named text (drop i table) word ≡ total → total ≡ None
  is_none le so_far = sym so_far ∙ at_drop_all (λ (rest : List A). named text rest word) table i le
