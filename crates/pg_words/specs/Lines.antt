-- The lines of a text and the words of a line.
use Rattle.std.specs.Prelude.{◌≡◌, ℕ, Bool, true, ◌==◌, List, [], ◌∷◌, ◌++◌, map}
use Rattle.std.specs.Int.{is_in_range}
use Rattle.std.specs.Char.{is_ascii_graphic}
use Rattle.std.specs.List.{slice_split, join_with_byte, list_all, AllByRecursion}
use Rattle.std.specs.Borrow.{Bor}

-- the bytes of borrowed texts
abbrev pub texts : List (Bor (List ℕ)) → List (List ℕ)
texts borrowed = map (λ text. text.now) borrowed

-- LF
abbrev pub is_break : ℕ → Bool
is_break c = c == 10

-- the parts of a text that the byte 10, LF, separates; where it ends by one, the last part is empty
unfoldable pub lines_of : List ℕ → List (List ℕ)
lines_of text = slice_split is_break text

-- the words of a line: one space stands between two words
unfoldable pub words_of : List ℕ → List (List ℕ)
words_of line = slice_split (λ b. b == 32) line

-- a line of these words
abbrev pub line_text : List (List ℕ) → List ℕ
line_text words = join_with_byte 32 words

-- a byte of text: a space or a byte that prints as more
abbrev pub is_text_byte : ℕ → Bool
is_text_byte c = is_in_range 32 126 c

-- a word: bytes that print as more than a space
abbrev pub is_word : List ℕ → Bool
is_word word = list_all is_ascii_graphic word

abbrev pub AreWords : List (List ℕ) → Type 0
AreWords words = AllByRecursion (λ word. is_word word ≡ true) words

-- words with a space before each
abbrev pub spaced : List (List ℕ) → List ℕ
spaced [] = []
spaced (word ∷ []) = 32 ∷ word
spaced (word ∷ next ∷ words) = 32 ∷ (word ++ spaced (next ∷ words))
