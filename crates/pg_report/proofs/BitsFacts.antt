-- The files of a list are the bits of the number that it says.
use Rattle.std.proofs.Common.{◌≡◌, ℕ, zero, suc, ◌+◌, ◌*◌, ◌/◌, ◌%◌, ◌==◌, cond, true, List, [], ◌∷◌, codes, Some, option_map, refl, ap, sym, ◌∙◌, arith}
use Rattle.std.specs.List.{slice_split, join_with_byte}
use Rattle.std.proofs.lemmas.Bool.{eqb-true, eq-eqb, ne_eqb}
use Rattle.std.proofs.lemmas.List.Splits.{join_with_byte-slice_split}
use Rattle.pg_words.specs.Names.{file_text}
use Rattle.pg_words.proofs.HexFacts.{map_takes}
use Rattle.pg_words.proofs.NameFacts.{chosen, is_word_text}
use Rattle.pg_report.specs.Forms.{bit_files, files_text}
use Rattle.pg_report.specs.Forms.{file_form, bits_form, files_form}
use Rattle.pg_report.proofs.EndFacts.{ended_split}
use Rattle.pg_report.specs.Reading.{ended}
use Rattle.pg_report.proofs.TookFacts.{Took, bind_some, some_is, file_took}

-- a bit that is set, and one that is not
odd : (count file bits : ℕ) → bit_files (suc count) file (1 + 2 * bits) ≡ file_text file ∷ bit_files count (file + 1) bits
odd count file bits =
    let r : (1 + 2 * bits) % 2 ≡ 1 = omega arith in
    let q : (1 + 2 * bits) / 2 ≡ bits = omega arith in
    rw (eq-eqb _ 1 r, q) refl

even : (count file bits : ℕ) → bit_files (suc count) file (2 * bits) ≡ bit_files count (file + 1) bits
even count file bits =
    let r : (2 * bits) % 2 ≡ 1 → ⊥ = λ e. absurd (omega arith) in
    let q : (2 * bits) / 2 ≡ bits = omega arith in
    rw (ne_eqb _ 1 r, q) refl

no_files : (count file : ℕ) → bit_files count file 0 ≡ []
no_files zero file = refl
no_files (suc count) file = even count file 0 ∙ no_files count (file + 1)

bits_are : (count file : ℕ) (names : List (List ℕ)) (bits : ℕ) → bits_form count file names ≡ Some bits → names ≡ bit_files count file bits
unfolding bits_form
bits_are zero file [] bits e = refl
bits_are zero file (name ∷ names) bits e = absurd cc
bits_are (suc count) file [] bits e = sym (no_files (suc count) file) ∙ ap (bit_files (suc count) file) (some_is 0 bits e)
bits_are (suc count) file (name ∷ names) bits e =
    let b = bind_some (λ n. cond (n == file) (option_map (λ m. 1 + 2 * m) (bits_form count (file + 1) names)) (option_map (λ m. 2 * m) (bits_form count (file + 1) (name ∷ names)))) (file_form name) bits e in
    chosen (b.0 == file) _ _ _ b.2
    (λ t e.
    let m = map_takes (λ n. 1 + 2 * n) (bits_form count (file + 1) names) bits e in
    let here : name ≡ file_text file = file_took.is name b.0 b.1 ∙ ap file_text (eqb-true b.0 file t) in
    (λ i. here i ∷ bits_are count (file + 1) names m.0 m.1 i) ∙ sym (odd count file m.0) ∙ ap (bit_files (suc count) file) m.2)
    (λ e.
    let m = map_takes (λ n. 2 * n) (bits_form count (file + 1) (name ∷ names)) bits e in
    bits_are count (file + 1) (name ∷ names) m.0 m.1 ∙ sym (even count file m.0) ∙ ap (bit_files (suc count) file) m.2)

listed_so : (names : List (List ℕ)) → ended names ≡ true → files_text names ≡ join_with_byte 44 names
listed_so [] some = absurd cc
listed_so (name ∷ names) some = refl

files_are : (w : List ℕ) (files : ℕ) → files_form w ≡ Some files → w ≡ files_text (bit_files 16 0 files)
unfolding files_form
files_are w files e =
    chosen _ _ _ _ e
    (λ t e. is_word_text w (codes "-") t ∙ ap files_text (sym (no_files 16 0) ∙ ap (bit_files 16 0) (some_is 0 files e)))
    (λ e.
    let names = slice_split (λ b. b == 44) w in
    sym (join_with_byte-slice_split 44 w) ∙ sym (listed_so names (ended_split (λ b. b == 44) w)) ∙ ap files_text (bits_are 16 0 names files e))

pub files_took : Took files_form (λ files. files_text (bit_files 16 0 files))
files_took = record { is = files_are }
