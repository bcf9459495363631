-- The words of a line of words, and the lines of a text of lines.
use Rattle.std.proofs.Common.{◌≡◌, ℕ, ◌<◌, ◌==◌, Bool, true, false, List, [], ◌∷◌, ◌++◌, length, refl, ap, ◌∙◌, arith, All}
use Rattle.std.specs.List.{list_all}
use Rattle.std.specs.Char.{is_ascii_graphic}
use Rattle.std.proofs.lemmas.Bool.{and_parts, and_from}
use Rattle.std.proofs.lemmas.Bool.Decides.{nat_tests}
use Rattle.std.proofs.lemmas.List.Splits.{slice_split_none, slice_split_at, join_with_byte-slice_split}
use Rattle.std.proofs.lemmas.List.Elements.{All-cons, All-nil}
use Rattle.pg_words.specs.Lines.{lines_of, words_of, line_text, is_text_byte, AreWords}

-- a test that each element passes, and a weaker one
pub list_all-weaker : (p q : ℕ → Bool) → ((c : ℕ) → p c ≡ true → q c ≡ true) → (xs : List ℕ) → list_all p xs ≡ true → list_all q xs ≡ true
list_all-weaker p q weaker [] all = refl
list_all-weaker p q weaker (x ∷ xs) all =
    let parts = and_parts (p x) (list_all p xs) all in
    and_from _ _ (weaker x parts.0) (list_all-weaker p q weaker xs parts.1)

pub list_all-append : (p : ℕ → Bool) (xs ys : List ℕ) → list_all p xs ≡ true → list_all p ys ≡ true → list_all p (xs ++ ys) ≡ true
list_all-append p [] ys all more = more
list_all-append p (x ∷ xs) ys all more =
    let parts = and_parts (p x) (list_all p xs) all in
    and_from _ _ parts.0 (list_all-append p xs ys parts.1 more)

-- a test that none passes
none_pass : (p q : ℕ → Bool) → ((c : ℕ) → p c ≡ true → q c ≡ false) → (xs : List ℕ) → list_all p xs ≡ true → All (λ x. q x ≡ false) xs
none_pass p q apart [] all = All-nil (λ x. q x ≡ false)
none_pass p q apart (x ∷ xs) all =
    let parts = and_parts (p x) (list_all p xs) all in
    All-cons (λ x. q x ≡ false) x xs (apart x parts.0) (none_pass p q apart xs parts.1)

no_space : (c : ℕ) → is_ascii_graphic c ≡ true → (c == 32) ≡ false
no_space c e = grind (arith, nat_tests)

no_break : (c : ℕ) → is_text_byte c ≡ true → (c == 10) ≡ false
no_break c e = grind (arith, nat_tests)

graphic_text : (c : ℕ) → is_ascii_graphic c ≡ true → is_text_byte c ≡ true
graphic_text c e = grind (arith, nat_tests)

-- the words of a line of words are those
pub words_of_line : (words : List (List ℕ)) → 0 < length words → AreWords words → words_of (line_text words) ≡ words
unfolding words_of
words_of_line [] some all = absurd (omega arith)
words_of_line (w ∷ []) some all = slice_split_none (λ b. b == 32) w (none_pass is_ascii_graphic (λ b. b == 32) no_space w all.0)
words_of_line (w ∷ x ∷ words) some all =
    slice_split_at (λ b. b == 32) w 32 (line_text (x ∷ words)) (none_pass is_ascii_graphic (λ b. b == 32) no_space w all.0) refl
    ∙ ap (λ (rest : List (List ℕ)). w ∷ rest) (words_of_line (x ∷ words) (omega arith) all.1)

-- a line is its words
pub line_of_words : (line : List ℕ) → line_text (words_of line) ≡ line
unfolding words_of
line_of_words line = join_with_byte-slice_split 32 line

-- a line of words is text
pub line_is_text : (words : List (List ℕ)) → AreWords words → list_all is_text_byte (line_text words) ≡ true
line_is_text [] all = refl
line_is_text (w ∷ []) all = list_all-weaker is_ascii_graphic is_text_byte graphic_text w all.0
line_is_text (w ∷ x ∷ words) all =
    list_all-append is_text_byte w (32 ∷ line_text (x ∷ words)) (list_all-weaker is_ascii_graphic is_text_byte graphic_text w all.0) (line_is_text (x ∷ words) all.1)

-- a line of text that ends by LF is the first line
pub first_line : (line rest : List ℕ) → list_all is_text_byte line ≡ true → lines_of (line ++ 10 ∷ rest) ≡ line ∷ lines_of rest
unfolding lines_of
first_line line rest all = slice_split_at (λ b. b == 10) line 10 rest (none_pass is_text_byte (λ b. b == 10) no_break line all) refl

-- an empty text has one empty line
pub no_line : lines_of [] ≡ [] ∷ []
unfolding lines_of
no_line = refl
