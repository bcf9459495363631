-- A header line as it is printed says the line.
use Rattle.std.proofs.Common.{◌≡◌, ℕ, ◌^◌, ◌<◌, ◌==◌, cond, not, Bool, true, false, List, [], ◌∷◌, ◌++◌, length, codes, Option, Some, option_map, refl, ap, arith}
use Rattle.std.specs.Fmt.{decimal}
use Rattle.std.proofs.lemmas.Bool.{and_parts}
use Rattle.hex.specs.Hex.{encode_lower}
use Rattle.pg_words.specs.Lines.{is_word, AreWords}
use Rattle.pg_words.specs.Names.{file_text}
use Rattle.pg_words.specs.Digits.{bytes_word}
use Rattle.pg_words.proofs.NumeralFacts.{number_again, guarded_takes}
use Rattle.pg_words.proofs.NameFacts.{name_again}
use Rattle.pg_words.proofs.HexFacts.{bytes_again}
use Rattle.pg_words.proofs.PlainFacts.{decimal_is_word, hex_is_word}
use Rattle.scene_text.specs.declared.head.Head.{Head}
use Rattle.scene_text.specs.declared.head.Head.TheVariants.{PageSize, Adhoc, Resident, File, Raw, Static, Admit, Cache, Process, Fail}
use Rattle.scene_text.specs.declared.keywords.HeadWord.{HeadWord}
use Rattle.scene_text.specs.declared.keywords.HeadWord.TheVariants as word
use Rattle.scene_text.specs.declared.keywords.Keyword.TheVariants as key
use Rattle.scene_text.specs.Keywords.{keyword_of, head_text, head_word, head_columns}
use Rattle.pg_words.specs.Rows.{row1, row2, row3}
use Rattle.scene_text.specs.Headers.{path_word, adhoc_word, flags_word, declared_text, declared_names, head_says, head_line, head_key, HeadHasForm, IsPath, number, file_name}

-- rows of words that say something
pub row1_again : {A X : Type 0} (a : List ℕ → Option A) (make : A → X) (w : List ℕ) (x : A) → a w ≡ Some x → row1 a make (w ∷ []) ≡ Some (make x)
row1_again a make w x e = ap (option_map make) e

pub row2_again : {A B X : Type 0} (a : List ℕ → Option A) (b : List ℕ → Option B) (make : A → B → X) (v w : List ℕ) (x : A) (y : B) → a v ≡ Some x → b w ≡ Some y → row2 a b make (v ∷ w ∷ []) ≡ Some (make x y)
row2_again a b make v w x y e f = rw (e, f) refl

pub row3_again : {A B C X : Type 0} (a : List ℕ → Option A) (b : List ℕ → Option B) (c : List ℕ → Option C) (make : A → B → C → X) (u v w : List ℕ) (x : A) (y : B) (z : C) → a u ≡ Some x → b v ≡ Some y → c w ≡ Some z → row3 a b c make (u ∷ v ∷ w ∷ []) ≡ Some (make x y z)
row3_again a b c make u v w x y z e f g = rw (e, f, g) refl

-- the words behind the keyword
abbrev pub head_rest : Head → List (List ℕ)
head_rest (PageSize bytes) = decimal bytes ∷ []
head_rest Adhoc = codes "adhoc" ∷ []
head_rest (Resident pages) = decimal pages ∷ []
head_rest (File path) = path ∷ []
head_rest (Raw path off len) = path ∷ decimal off ∷ decimal len ∷ []
head_rest (Static path) = path ∷ []
head_rest (Admit cdhash) = encode_lower cdhash ∷ []
head_rest (Cache path) = path ∷ []
head_rest (Process flags) = declared_text flags ∷ []
head_rest (Fail file call) = file_text file ∷ decimal call ∷ []

pub head_line_is : (h : Head) → head_line h ≡ head_text (head_key h) ∷ head_rest h
head_line_is (PageSize bytes) = refl
head_line_is Adhoc = refl
head_line_is (Resident pages) = refl
head_line_is (File path) = refl
head_line_is (Raw path off len) = refl
head_line_is (Static path) = refl
head_line_is (Admit cdhash) = refl
head_line_is (Cache path) = refl
head_line_is (Process flags) = refl
head_line_is (Fail file call) = refl

pub head_count : (h : Head) → length (head_rest h) ≡ head_columns (head_key h)
head_count (PageSize bytes) = refl
head_count Adhoc = refl
head_count (Resident pages) = refl
head_count (File path) = refl
head_count (Raw path off len) = refl
head_count (Static path) = refl
head_count (Admit cdhash) = refl
head_count (Cache path) = refl
head_count (Process flags) = refl
head_count (Fail file call) = refl

pub head_keyword : (k : HeadWord) → keyword_of (head_text k) ≡ Some (key.Head k)
unfolding keyword_of head_word
head_keyword word.PageSize = refl
head_keyword word.Policy = refl
head_keyword word.Resident = refl
head_keyword word.File = refl
head_keyword word.Raw = refl
head_keyword word.Static = refl
head_keyword word.Admit = refl
head_keyword word.Cache = refl
head_keyword word.Process = refl
head_keyword word.Fail = refl

number_of_text : (n : ℕ) → n < 2 ^ 64 → number (decimal n) ≡ Some n
number_of_text n lt = number_again (2 ^ 64) n (omega arith) lt

adhoc_again : adhoc_word (codes "adhoc") ≡ Some tt
unfolding adhoc_word
adhoc_again = refl

pub head_again : (h : Head) → HeadHasForm h → head_says (head_key h) (head_rest h) ≡ Some h
head_again (PageSize bytes) f = row1_again number (λ n. PageSize n) _ bytes (number_of_text bytes f)
head_again Adhoc f = row1_again adhoc_word (λ _. Adhoc) _ tt adhoc_again
head_again (Resident pages) f = row1_again number (λ n. Resident n) _ pages (number_of_text pages f)
head_again (File path) f = row1_again path_word (λ p. File p) _ path f
head_again (Raw path off len) f = row3_again path_word number number (λ p o l. Raw p o l) _ _ _ path off len f.0 (number_of_text off f.1) (number_of_text len f.2)
head_again (Static path) f = row1_again path_word (λ p. Static p) _ path f
head_again (Admit cdhash) f = row1_again (bytes_word 20) (λ c. Admit c) _ cdhash (bytes_again 20 cdhash f.0 f.1)
head_again (Cache path) f = row1_again path_word (λ p. Cache p) _ path f
head_again (Process flags) f = row1_again flags_word (λ g. Process g) _ flags f
head_again (Fail file call) f = row2_again file_name number (λ g c. Fail g c) _ _ file call (name_again (2 ^ 64) 102 file (omega arith) f.0) (number_of_text call f.1)

path_is_word : (path : List ℕ) → IsPath path → is_word path ≡ true
unfolding path_word
path_is_word path e = (and_parts (not (length path == 0)) (is_word path) (guarded_takes _ _ path e).0).1

declared_is_word : (a b c : Bool) → is_word (declared_names (cond a (codes "hard" ∷ []) [] ++ (cond b (codes "kill" ∷ []) [] ++ cond c (codes "enforce" ∷ []) []))) ≡ true
declared_is_word false false false = refl
declared_is_word true false false = refl
declared_is_word false true false = refl
declared_is_word true true false = refl
declared_is_word false false true = refl
declared_is_word true false true = refl
declared_is_word false true true = refl
declared_is_word true true true = refl

pub head_words_are : (h : Head) → HeadHasForm h → AreWords (head_line h)
head_words_are (PageSize bytes) f = (refl, (decimal_is_word bytes f, tt))
head_words_are Adhoc f = (refl, (refl, tt))
head_words_are (Resident pages) f = (refl, (decimal_is_word pages f, tt))
head_words_are (File path) f = (refl, (path_is_word path f, tt))
head_words_are (Raw path off len) f = (refl, (path_is_word path f.0, (decimal_is_word off f.1, (decimal_is_word len f.2, tt))))
head_words_are (Static path) f = (refl, (path_is_word path f, tt))
head_words_are (Admit cdhash) f = (refl, (hex_is_word cdhash f.0, tt))
head_words_are (Cache path) f = (refl, (path_is_word path f, tt))
head_words_are (Process flags) f = (refl, (declared_is_word _ _ _, tt))
head_words_are (Fail file call) f = (refl, (decimal_is_word file f.0, (decimal_is_word call f.1, tt)))
