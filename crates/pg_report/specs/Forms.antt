-- The forms of words of a journal: what a word says, or none where it is not of the form.
use Rattle.std.specs.Prelude.{ℕ, ◌^◌, ◌+◌, ◌*◌, ◌/◌, ◌%◌, ◌==◌, zero, suc, nat_le, if◌then◌else◌, List, [], ◌∷◌, ◌++◌, length, codes, bytes_eq, Option, Some, None, option_map, option_and_then}
use Rattle.std.specs.List.{slice_split, join_with_byte}
use Rattle.std.specs.Option.{option_or}
use Rattle.std.specs.Fmt.{decimal}
use Rattle.cs_policy.specs.declared.entry.Who.{Who}
use Rattle.cs_policy.specs.declared.entry.Place.{Place}
use Rattle.cs_policy.specs.declared.entry.Place.TheVariants as place
use Rattle.cs_policy.specs.declared.flags.ProcFlags.{ProcFlags}
use Rattle.cs_policy.specs.declared.refusal.Refusal.{Refusal}
use Rattle.cs_policy.specs.declared.data.Data.{Data}
use Rattle.cs_policy.specs.ProcFlags.{flags_of}
use Rattle.cs_policy.specs.Refusal.{family_name}
use Rattle.pg_words.specs.Numbers.{number_word, address_word}
use Rattle.pg_words.specs.Digits.{hex_word, bytes_word, flags_word}
use Rattle.pg_words.specs.Names.{name_word, file_text, process_text}
use Rattle.pg_words.specs.Data.{data_word}
use Rattle.pg_words.specs.Rows.{row2, row4, named}

-- numbers of 64, 32 and 8 bits
abbrev pub long : List ℕ → Option ℕ
long word = number_word (2 ^ 64) word

abbrev pub short : List ℕ → Option ℕ
short word = number_word (2 ^ 32) word

abbrev pub tiny : List ℕ → Option ℕ
tiny word = number_word (2 ^ 8) word

-- a number that is this one
abbrev pub only : ℕ → List ℕ → Option ℕ
only limit word = option_and_then (λ n. if n == limit then Some n else None) (short word)

-- names, by their letters
abbrev pub file_form : List ℕ → Option ℕ
file_form word = name_word (2 ^ 32) 102 word

abbrev pub process_form : List ℕ → Option ℕ
process_form word = name_word (2 ^ 32) 112 word

abbrev pub cache_form : List ℕ → Option ℕ
cache_form word = name_word (2 ^ 32) 99 word

abbrev pub address_form : List ℕ → Option ℕ
address_form word = address_word (2 ^ 64) word

-- `@` and the stamp of an earlier event
abbrev pub stamp_text : ℕ → List ℕ
stamp_text stamp = codes "@" ++ decimal stamp

abbrev pub stamp_form : List ℕ → Option ℕ
stamp_form word = name_word (2 ^ 64) 64 word

-- flags
abbrev pub flags_form : List ℕ → Option ProcFlags
flags_form word = option_map flags_of (flags_word word)

-- a cdhash
abbrev pub cdhash_form : List ℕ → Option (List ℕ)
cdhash_form word = bytes_word 20 word

-- bytes, one or more and at most so many
unfoldable pub few_bytes : ℕ → List ℕ → Option (List ℕ)
few_bytes most word = option_and_then (λ bytes. if nat_le (length bytes) most then Some bytes else None) (hex_word word)

-- the data of a write
abbrev pub data_form : List ℕ → Option Data
data_form word = data_word (2 ^ 32) word

-- the number of a family of refusals by its name
abbrev pub families : List ℕ
families = 1 ∷ 2 ∷ 3 ∷ 4 ∷ 5 ∷ 6 ∷ []

unfoldable pub family_form : List ℕ → Option ℕ
family_form word = named family_name families word

-- a refusal: four parts with points between them
abbrev pub refusal_made : ℕ → ℕ → ℕ → ℕ → Refusal
refusal_made family number a b = record { family = family; number = number; a = a; b = b }

unfoldable pub refusal_form : List ℕ → Option Refusal
refusal_form word = row4 family_form tiny long long refusal_made (slice_split (λ b. b == 46) word)

-- a worker and its call
abbrev pub who_text : Who → List ℕ
who_text who = decimal who.worker ++ (codes "." ++ decimal who.call)

abbrev pub who_made : ℕ → ℕ → Who
who_made worker call = record { worker = worker; call = call }

unfoldable pub who_form : List ℕ → Option Who
who_form word = row2 short short who_made (slice_split (λ b. b == 46) word)

-- a part: a file, a process or the trust list
abbrev pub place_text : Place → List ℕ
place_text (place.File file) = file_text file
place_text (place.Process pid) = process_text pid
place_text place.Trust = codes "t"

unfoldable pub place_form : List ℕ → Option Place
place_form word =
    option_or (option_map (λ f. place.File f) (file_form word))
    (option_or (option_map (λ p. place.Process p) (process_form word)) (named place_text (place.Trust ∷ []) word))

-- the files of the bits of a number, of which there are so many, from a file on
abbrev pub bit_files : ℕ → ℕ → ℕ → List (List ℕ)
bit_files zero file bits = []
bit_files (suc count) file bits =
    if bits % 2 == 1 then file_text file ∷ bit_files count (file + 1) (bits / 2) else bit_files count (file + 1) (bits / 2)

-- files with commas between them, or `-` where there are none
abbrev pub files_text : List (List ℕ) → List ℕ
files_text [] = codes "-"
files_text (name ∷ names) = join_with_byte 44 (name ∷ names)

-- the number whose bits are so many files, from a file on
unfoldable pub bits_form : ℕ → ℕ → List (List ℕ) → Option ℕ
bits_form zero file [] = Some 0
bits_form zero file (name ∷ names) = None
bits_form (suc count) file [] = Some 0
bits_form (suc count) file (name ∷ names) =
    option_and_then (λ n.
    if n == file then option_map (λ bits. 1 + 2 * bits) (bits_form count (file + 1) names)
    else option_map (λ bits. 2 * bits) (bits_form count (file + 1) (name ∷ names))) (file_form name)

-- files with commas between them, or a dash
unfoldable pub files_form : List ℕ → Option ℕ
files_form word = if bytes_eq word (codes "-") then Some 0 else bits_form 16 0 (slice_split (λ b. b == 44) word)
