-- A list of files as it is printed says the files.
use Rattle.std.proofs.Common.{◌≡◌, ℕ, zero, suc, ◌+◌, ◌*◌, ◌/◌, ◌%◌, ◌^◌, ◌<◌, ◌≤◌, ◌==◌, cond, Bool, true, false, List, [], ◌∷◌, codes, Some, refl, ap, sym, ◌∙◌, subst, arith, All}
use Rattle.std.specs.Prelude.{bytes_eq}
use Rattle.std.specs.Fmt.{decimal}
use Rattle.std.specs.Char.{is_ascii_graphic}
use Rattle.std.specs.List.{slice_split, join_with_byte}
use Rattle.std.proofs.Math.Nat.{pow-suc}
use Rattle.std.proofs.lemmas.Bool.{eqb-true, eq-eqb, ne_eqb}
use Rattle.std.proofs.lemmas.Bool.Decides.{nat_tests}
use Rattle.std.proofs.lemmas.List.Splits.{slice_split_none, slice_split_at}
use Rattle.std.proofs.lemmas.List.Elements.{All-cons}
use Rattle.pg_words.specs.Names.{file_text}
use Rattle.pg_words.specs.Lines.{is_word}
use Rattle.pg_words.proofs.LineFacts.{list_all-append}
use Rattle.pg_words.proofs.PlainFacts.{decimal_is_word}
use Rattle.pg_report.specs.Forms.{bit_files, files_text}
use Rattle.pg_report.specs.Forms.{file_form, bits_form, files_form}
use Rattle.pg_report.proofs.FormAgain.{file_again, number_apart}

-- the name of a file from one number on, below another
record IsNamed (low high : ℕ) (name : List ℕ) : Type 0 where
  file : ℕ
  is : name ≡ file_text file
  from : low ≤ file
  below : file < high

abbrev AreNamed : ℕ → ℕ → List (List ℕ) → Type 0
AreNamed low high [] = Unit {0}
AreNamed low high (name ∷ names) = IsNamed low high name × AreNamed low high names

one_more : (low high : ℕ) (names : List (List ℕ)) → AreNamed (low + 1) high names → AreNamed low high names
one_more low high [] are = tt
one_more low high (name ∷ names) are =
    let n = are.0 in
    let from : low ≤ n.file = let f = n.from in omega arith in
    (record { file = n.file; is = n.is; from = from; below = n.below }, one_more low high names are.1)

named_step : (count low : ℕ) (more : List (List ℕ)) → AreNamed (low + 1) (low + suc count) more → (t : Bool) → AreNamed low (low + suc count) (cond t (file_text low ∷ more) more)
named_step count low more are true = (record { file = low; is = refl; from = omega arith; below = omega arith }, one_more low (low + suc count) more are)
named_step count low more are false = one_more low (low + suc count) more are

named : (count low bits : ℕ) → AreNamed low (low + count) (bit_files count low bits)
named zero low bits = tt
named (suc count) low bits =
    let more = bit_files count (low + 1) (bits / 2) in
    let same : (low + 1) + count ≡ low + suc count = omega arith in
    let are : AreNamed (low + 1) (low + suc count) more = subst (λ (high : ℕ). AreNamed (low + 1) high more) same (named count (low + 1) (bits / 2)) in
    named_step count low more are (bits % 2 == 1)

-- ---- the names say the bits

no_bits : (count file : ℕ) → bits_form count file [] ≡ Some 0
unfolding bits_form
no_bits zero file = refl
no_bits (suc count) file = refl

some_same : (m n : ℕ) → Some m ≡ Some n → m ≡ n
some_same m n e = cc

even_none : (bits : ℕ) → 0 ≡ bits / 2 → (bits % 2 == 1) ≡ false → 0 ≡ bits
even_none bits none e = grind (arith, nat_tests)

even_whole : (bits : ℕ) → (bits % 2 == 1) ≡ false → 2 * (bits / 2) ≡ bits
even_whole bits e = grind (arith, nat_tests)

bits_step : (count file high bits : ℕ) (more : List (List ℕ)) → file < 2 ^ 32 → high ≤ 2 ^ 32 → AreNamed (file + 1) high more → bits_form count (file + 1) more ≡ Some (bits / 2)
    → (t : Bool) → (bits % 2 == 1) ≡ t → bits_form (suc count) file (cond t (file_text file ∷ more) more) ≡ Some bits
unfolding bits_form
bits_step count file high bits more lt most are says true e =
    let odd : bits % 2 ≡ 1 = eqb-true (bits % 2) 1 e in
    let whole : 1 + 2 * (bits / 2) ≡ bits = omega (arith, odd) in
    rw (file_again file lt, eq-eqb file file refl, says) (ap Some whole)
bits_step count file high bits [] lt most are says false e =
    let none : 0 ≡ bits / 2 = some_same 0 (bits / 2) (sym (no_bits count (file + 1)) ∙ says) in
    let zero_bits : 0 ≡ bits = even_none bits none e in
    ap Some zero_bits
bits_step count file high bits (name ∷ names) lt most are says false e =
    let n = are.0 in
    let read : file_form name ≡ Some n.file = ap file_form n.is ∙ file_again n.file (let b = n.below in omega arith) in
    let other : n.file ≡ file → ⊥ = λ same. let f = n.from in absurd (omega arith) in
    let whole : 2 * (bits / 2) ≡ bits = even_whole bits e in
    rw (read, ne_eqb n.file file other, says) (ap Some whole)

bits_again : (count file bits : ℕ) → file + count ≤ 2 ^ 32 → bits < 2 ^ count → bits_form count file (bit_files count file bits) ≡ Some bits
bits_again zero file bits most lt = no_bits zero file ∙ ap Some {x = 0} {y = bits} (omega arith)
bits_again (suc count) file bits most lt =
    let half : bits / 2 < 2 ^ count = omega (arith, pow-suc 2 count) in
    let says = bits_again count (file + 1) (bits / 2) (omega arith) half in
    let same : (file + 1) + count ≡ file + suc count = omega arith in
    let more = bit_files count (file + 1) (bits / 2) in
    bits_step count file ((file + 1) + count) bits more (omega arith) (omega arith) (named count (file + 1) (bits / 2)) says (bits % 2 == 1) refl

-- ---- the names with commas between them

name_apart : (file : ℕ) → file < 2 ^ 64 → All (λ x. (x == 44) ≡ false) (file_text file)
name_apart file lt = All-cons (λ x. (x == 44) ≡ false) 102 (decimal file) refl (number_apart 44 file refl lt)

apart : (low high : ℕ) (name : List ℕ) → high ≤ 2 ^ 64 → IsNamed low high name → All (λ x. (x == 44) ≡ false) name
apart low high name most n = subst (λ (w : List ℕ). All (λ x. (x == 44) ≡ false) w) (sym n.is) (name_apart n.file (let b = n.below in omega arith))

names_again : (low high : ℕ) (name : List ℕ) (names : List (List ℕ)) → high ≤ 2 ^ 64 → AreNamed low high (name ∷ names)
    → slice_split (λ b. b == 44) (join_with_byte 44 (name ∷ names)) ≡ name ∷ names
names_again low high name [] most are = slice_split_none (λ b. b == 44) name (apart low high name most are.0)
names_again low high name (next ∷ names) most are =
    slice_split_at (λ b. b == 44) name 44 (join_with_byte 44 (next ∷ names)) (apart low high name most are.0) refl
    ∙ ap (λ (rest : List (List ℕ)). name ∷ rest) (names_again low high next names most are.1)

name_word : (low high : ℕ) (name : List ℕ) → high ≤ 2 ^ 64 → IsNamed low high name → is_word name ≡ true
name_word low high name most n = ap is_word n.is ∙ decimal_is_word n.file (let b = n.below in omega arith)

names_word : (low high : ℕ) (name : List ℕ) (names : List (List ℕ)) → high ≤ 2 ^ 64 → AreNamed low high (name ∷ names) → is_word (join_with_byte 44 (name ∷ names)) ≡ true
names_word low high name [] most are = name_word low high name most are.0
names_word low high name (next ∷ names) most are =
    list_all-append is_ascii_graphic name (44 ∷ join_with_byte 44 (next ∷ names)) (name_word low high name most are.0) (names_word low high next names most are.1)

-- they are no dash
no_dash : (file : ℕ) (names : List (List ℕ)) → bytes_eq (join_with_byte 44 (file_text file ∷ names)) (codes "-") ≡ false
no_dash file [] = refl
no_dash file (next ∷ names) = refl

listed : (files : ℕ) (names : List (List ℕ)) → AreNamed 0 16 names → bits_form 16 0 names ≡ Some files → files_form (files_text names) ≡ Some files
unfolding files_form
listed files [] are says = sym (no_bits 16 0) ∙ says
listed files (name ∷ names) are says =
    let n = are.0 in
    let other : bytes_eq (join_with_byte 44 (name ∷ names)) (codes "-") ≡ false = ap (λ (w : List ℕ). bytes_eq (join_with_byte 44 (w ∷ names)) (codes "-")) n.is ∙ no_dash n.file names in
    rw (other, names_again 0 16 name names (omega arith) are) says

listed_word : (names : List (List ℕ)) → AreNamed 0 16 names → is_word (files_text names) ≡ true
listed_word [] are = refl
listed_word (name ∷ names) are = names_word 0 16 name names (omega arith) are

pub files_again : (files : ℕ) → files < 2 ^ 16 → files_form (files_text (bit_files 16 0 files)) ≡ Some files
files_again files lt = listed files (bit_files 16 0 files) (named 16 0 files) (bits_again 16 0 files (omega arith) lt)

pub files_is_word : (files : ℕ) → is_word (files_text (bit_files 16 0 files)) ≡ true
files_is_word files = listed_word (bit_files 16 0 files) (named 16 0 files)
