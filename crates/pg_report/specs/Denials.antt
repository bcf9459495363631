-- The table of denials: the columns behind the keyword of each; how denials are printed, and what words of denials say.
use Rattle.std.specs.Prelude.{ℕ, List, [], ◌∷◌, codes, if◌then◌else◌, bytes_eq, Option, Some, None, option_map, option_and_then}
use Rattle.cs_policy.specs.declared.denial.Denial.{Denial}
use Rattle.cs_policy.specs.declared.denial.Denial.TheVariants.{PrivateCopy, Unsigned, BeyondLimit, WritableShared, Mismatch, SealedWrite}
use Rattle.pg_words.specs.Tables.{Row, columns1, columns2, columns4}
use Rattle.pg_report.specs.declared.words.DenialWord.{DenialWord}
use Rattle.pg_report.specs.declared.words.DenialWord.TheVariants as word
use Rattle.pg_report.specs.Words.{denial_keyword, denial_word}
use Rattle.pg_report.specs.Columns.{long_column, short_column, few_column}

-- `privatecopy PAGE`
abbrev pub private_copy : Row ℕ Denial
private_copy = columns1 long_column (λ page. PrivateCopy page)

-- `unsigned PAGE`
abbrev pub unsigned : Row ℕ Denial
unsigned = columns1 long_column (λ page. Unsigned page)

-- `beyondlimit PAGE`
abbrev pub beyond_limit : Row ℕ Denial
beyond_limit = columns1 long_column (λ page. BeyondLimit page)

-- `writableshared PAGE REGION`
abbrev pub writable_shared : Row (ℕ × ℕ) Denial
writable_shared = columns2 long_column short_column (λ page region. WritableShared page region)

-- `mismatch PAGE SLOT FOUND WANTED`
abbrev pub mismatch : Row (ℕ × ℕ × List ℕ × List ℕ) Denial
mismatch =
    columns4 long_column long_column (few_column 48) (few_column 48) (λ page slot found wanted. Mismatch page slot found wanted)

-- `sealedwrite PAGE`
abbrev pub sealed_write : Row ℕ Denial
sealed_write = columns1 long_column (λ page. SealedWrite page)

-- how a denial is printed
abbrev pub denial_words : Denial → List (List ℕ)
denial_words (PrivateCopy page) = denial_keyword word.PrivateCopy ∷ private_copy.words page
denial_words (Unsigned page) = denial_keyword word.Unsigned ∷ unsigned.words page
denial_words (BeyondLimit page) = denial_keyword word.BeyondLimit ∷ beyond_limit.words page
denial_words (WritableShared page region) = denial_keyword word.WritableShared ∷ writable_shared.words (page, region)
denial_words (Mismatch page slot found wanted) = denial_keyword word.Mismatch ∷ mismatch.words (page, slot, found, wanted)
denial_words (SealedWrite page) = denial_keyword word.SealedWrite ∷ sealed_write.words page

-- what the words behind a keyword say
abbrev pub denial_row : DenialWord → List (List ℕ) → Option Denial
denial_row word.PrivateCopy words = private_copy.says words
denial_row word.Unsigned words = unsigned.says words
denial_row word.BeyondLimit words = beyond_limit.says words
denial_row word.WritableShared words = writable_shared.says words
denial_row word.Mismatch words = mismatch.says words
denial_row word.SealedWrite words = sealed_write.says words

-- what the words of a denial say
unfoldable pub denial_of : List (List ℕ) → Option Denial
denial_of [] = None
denial_of (first ∷ words) = option_and_then (λ key. denial_row key words) (denial_word first)

-- the rule that an access breaks which was given all the same, if there is one
abbrev pub violation_key : List ℕ
violation_key = codes "violation"

abbrev pub violation_words : Option Denial → List (List ℕ)
violation_words None = []
violation_words (Some denial) = violation_key ∷ denial_words denial

unfoldable pub violation_of : List (List ℕ) → Option (Option Denial)
violation_of [] = Some None
violation_of (first ∷ words) = if bytes_eq first violation_key then option_map (λ d. Some d) (denial_of words) else None
