-- Words with a space before each.
use Rattle.std.proofs.Common.{◌≡◌, ℕ, List, [], ◌∷◌, ◌++◌, codes, Option, refl, ap, sym, ◌∙◌, append_assoc}
use Rattle.std.proofs.lemmas.List.{append-nil}
use Rattle.pg_words.specs.Lines.{spaced, line_text}
use Rattle.cs_policy.specs.declared.denial.Denial.{Denial}
use Rattle.pg_report.specs.Denials.{violation_words}
use Rattle.pg_report.specs.ReplyTable.{victim_words}

pub spaced-append : (a b : List (List ℕ)) → spaced (a ++ b) ≡ spaced a ++ spaced b
spaced-append [] b = refl
spaced-append (x ∷ []) [] = sym (append-nil (32 ∷ x))
spaced-append (x ∷ []) (y ∷ b) = refl
spaced-append (x ∷ z ∷ a) b =
    ap (λ (rest : List ℕ). 32 ∷ (x ++ rest)) (spaced-append (z ∷ a) b) ∙ ap (λ (rest : List ℕ). 32 ∷ rest) (sym (append_assoc x (spaced (z ∷ a)) (spaced b)))

-- a line of words
pub line_spaced : (w : List ℕ) (words : List (List ℕ)) → line_text (w ∷ words) ≡ w ++ spaced words
line_spaced w [] = sym (append-nil w)
line_spaced w (x ∷ []) = refl
line_spaced w (x ∷ y ∷ words) = ap (λ (rest : List ℕ). w ++ 32 ∷ rest) (line_spaced x (y ∷ words))

-- one part of a line behind another
pub spaced_behind : (old : List ℕ) (a b : List (List ℕ)) → (old ++ spaced a) ++ spaced b ≡ old ++ spaced (a ++ b)
spaced_behind old a b = append_assoc old (spaced a) (spaced b) ∙ ap (λ (rest : List ℕ). old ++ rest) (sym (spaced-append a b))

-- an access that is given
pub given_spaced : (old : List ℕ) (victim : Option ℕ) (violation : Option Denial)
    → ((old ++ codes " given") ++ spaced (victim_words victim)) ++ spaced (violation_words violation) ≡ old ++ spaced (codes "given" ∷ (victim_words victim ++ violation_words violation))
given_spaced old victim violation =
    spaced_behind (old ++ codes " given") (victim_words victim) (violation_words violation)
    ∙ spaced_behind old (codes "given" ∷ []) (victim_words victim ++ violation_words violation)
