-- What header lines say, what they name and which ranges they keep, and how they are printed.
use Rattle.std.specs.Prelude.{◌≡◌, ℕ, ◌^◌, ◌<◌, Bool, true, not, ◌&&◌, ◌||◌, ◌==◌, nat_lt, nat_le, if◌then◌else◌, List, [], ◌∷◌, ◌++◌, length, codes, bytes_eq, Option, Some, None}
use Rattle.std.specs.List.{join_with_byte}
use Rattle.std.specs.Fmt.{decimal}
use Rattle.hex.specs.Hex.{IsBytes, encode_lower}
use Rattle.cs_policy.specs.declared.flags.ProcFlags.{ProcFlags}
use Rattle.cs_policy.specs.ProcFlags.{flags_of, is_set, hard, kill, enforcement}
use Rattle.pg_words.specs.Numbers.{number_word}
use Rattle.pg_words.specs.Digits.{bytes_word}
use Rattle.pg_words.specs.Names.{name_word, file_text}
use Rattle.pg_words.specs.Lines.{is_word}
use Rattle.scene_text.specs.declared.head.Head.{Head}
use Rattle.scene_text.specs.declared.head.Head.TheVariants.{PageSize, Adhoc, Resident, File, Raw, Static, Admit, Cache, Process, Fail}
use Rattle.scene_text.specs.declared.keywords.HeadWord.{HeadWord}
use Rattle.scene_text.specs.declared.keywords.HeadWord.TheVariants as word
use Rattle.scene_text.specs.declared.line.Known.{Known}
use Rattle.pg_words.specs.Rows.{named}
use Rattle.scene_text.specs.Keywords.{head_text}
use Rattle.pg_words.specs.Rows.{row1, row2, row3}

-- a number below 2 ^ 64
abbrev pub number : List ℕ → Option ℕ
number word = number_word (2 ^ 64) word

-- the name of a file
abbrev pub file_name : List ℕ → Option ℕ
file_name word = name_word (2 ^ 64) 102 word

-- a path: one byte or more
unfoldable pub path_word : List ℕ → Option (List ℕ)
path_word word = if not (length word == 0) && is_word word then Some word else None

-- the one policy
unfoldable pub adhoc_word : List ℕ → Option (Unit {0})
adhoc_word word = if bytes_eq word (codes "adhoc") then Some tt else None

-- the names of the declared flags that are set
abbrev pub flag_names : ProcFlags → List (List ℕ)
flag_names f =
    (if is_set f hard then codes "hard" ∷ [] else [])
    ++ ((if is_set f kill then codes "kill" ∷ [] else [])
    ++ (if is_set f enforcement then codes "enforce" ∷ [] else []))

-- declared flags: their names in this order with `+` between them, or `none`
abbrev pub declared_names : List (List ℕ) → List ℕ
declared_names [] = codes "none"
declared_names (name ∷ names) = join_with_byte 43 (name ∷ names)

abbrev pub declared_text : ProcFlags → List ℕ
declared_text f = declared_names (flag_names f)

-- the flags that can be declared: HARD, KILL and ENFORCEMENT, each set or not
abbrev pub declared_flags : List ProcFlags
declared_flags =
    flags_of 0x0000 ∷ flags_of 0x0100 ∷ flags_of 0x0200 ∷ flags_of 0x0300
    ∷ flags_of 0x1000 ∷ flags_of 0x1100 ∷ flags_of 0x1200 ∷ flags_of 0x1300 ∷ []

-- those whose text the word is
unfoldable pub flags_word : List ℕ → Option ProcFlags
flags_word word = named declared_text declared_flags word

-- what the words behind the keyword say
abbrev pub head_says : HeadWord → List (List ℕ) → Option Head
head_says word.PageSize words = row1 number (λ bytes. PageSize bytes) words
head_says word.Policy words = row1 adhoc_word (λ _. Adhoc) words
head_says word.Resident words = row1 number (λ pages. Resident pages) words
head_says word.File words = row1 path_word (λ path. File path) words
head_says word.Raw words = row3 path_word number number (λ path off len. Raw path off len) words
head_says word.Static words = row1 path_word (λ path. Static path) words
head_says word.Admit words = row1 (bytes_word 20) (λ cdhash. Admit cdhash) words
head_says word.Cache words = row1 path_word (λ path. Cache path) words
head_says word.Process words = row1 flags_word (λ flags. Process flags) words
head_says word.Fail words = row2 file_name number (λ file call. Fail file call) words

-- what the line names is declared
abbrev pub head_known : Known → Head → Bool
head_known known (Fail file call) = nat_lt file known.files
head_known known other = true

-- its numbers are in their ranges
abbrev pub head_in_range : Head → Bool
head_in_range (PageSize bytes) = bytes == 4096 || bytes == 16384
head_in_range (Resident pages) = nat_le 1 pages && nat_le pages 4096
head_in_range (Raw path off len) = nat_lt off (2 ^ 32) && nat_lt len (2 ^ 32)
head_in_range (Fail file call) = nat_le 1 call && nat_lt call (2 ^ 32)
head_in_range other = true

-- the words of the line
abbrev pub head_line : Head → List (List ℕ)
head_line (PageSize bytes) = head_text word.PageSize ∷ decimal bytes ∷ []
head_line Adhoc = head_text word.Policy ∷ codes "adhoc" ∷ []
head_line (Resident pages) = head_text word.Resident ∷ decimal pages ∷ []
head_line (File path) = head_text word.File ∷ path ∷ []
head_line (Raw path off len) = head_text word.Raw ∷ path ∷ decimal off ∷ decimal len ∷ []
head_line (Static path) = head_text word.Static ∷ path ∷ []
head_line (Admit cdhash) = head_text word.Admit ∷ encode_lower cdhash ∷ []
head_line (Cache path) = head_text word.Cache ∷ path ∷ []
head_line (Process flags) = head_text word.Process ∷ declared_text flags ∷ []
head_line (Fail file call) = head_text word.Fail ∷ file_text file ∷ decimal call ∷ []

-- its keyword
abbrev pub head_key : Head → HeadWord
head_key (PageSize bytes) = word.PageSize
head_key Adhoc = word.Policy
head_key (Resident pages) = word.Resident
head_key (File path) = word.File
head_key (Raw path off len) = word.Raw
head_key (Static path) = word.Static
head_key (Admit cdhash) = word.Admit
head_key (Cache path) = word.Cache
head_key (Process flags) = word.Process
head_key (Fail file call) = word.Fail

-- a path is a word
abbrev pub IsPath : List ℕ → Type 0
IsPath path = path_word path ≡ Some path

-- each of its columns has a form: it can be printed as a word that says it
abbrev pub HeadHasForm : Head → Type 0
HeadHasForm (PageSize bytes) = bytes < 2 ^ 64
HeadHasForm Adhoc = Unit {0}
HeadHasForm (Resident pages) = pages < 2 ^ 64
HeadHasForm (File path) = IsPath path
HeadHasForm (Raw path off len) = IsPath path × (off < 2 ^ 64) × (len < 2 ^ 64)
HeadHasForm (Static path) = IsPath path
HeadHasForm (Admit cdhash) = IsBytes cdhash × (length cdhash ≡ 20)
HeadHasForm (Cache path) = IsPath path
HeadHasForm (Process flags) = flags_word (declared_text flags) ≡ Some flags
HeadHasForm (Fail file call) = (file < 2 ^ 64) × (call < 2 ^ 64)
