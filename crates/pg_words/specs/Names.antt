-- Names as words: of files, processes and trust caches by their numbers, and of protections and accesses.
use Rattle.std.specs.Prelude.{ℕ, Bool, true, false, ◌++◌, ◌==◌, if◌then◌else◌, List, [], ◌∷◌, codes, Option, None}
use Rattle.std.specs.Fmt.{decimal}
use Rattle.cs_policy.specs.declared.access.Access.{Access}
use Rattle.cs_policy.specs.declared.access.Access.TheVariants.{Read, Write, Execute}
use Rattle.cs_policy.specs.declared.access.Prot.{Prot}
use Rattle.cs_policy.specs.declared.access.Prot.TheVariants.{R, RW, RX, RWX}
use Rattle.pg_words.specs.Numbers.{number_word}
use Rattle.pg_words.specs.Rows.{named}

-- a letter and a number below a limit
unfoldable pub name_word : ℕ → ℕ → List ℕ → Option ℕ
name_word limit letter [] = None
name_word limit letter (c ∷ digits) = if c == letter then number_word limit digits else None

-- how files, processes and trust caches are named: `f`, `p` and `c`, and the number
abbrev pub file_text : ℕ → List ℕ
file_text file = codes "f" ++ decimal file

abbrev pub process_text : ℕ → List ℕ
process_text pid = codes "p" ++ decimal pid

abbrev pub cache_text : ℕ → List ℕ
cache_text cache = codes "c" ++ decimal cache

-- what a region permits
abbrev pub prot_text : Prot → List ℕ
prot_text R = codes "r--"
prot_text RW = codes "rw-"
prot_text RX = codes "r-x"
prot_text RWX = codes "rwx"

unfoldable pub prot_word : List ℕ → Option Prot
prot_word word = named prot_text (R ∷ RW ∷ RX ∷ RWX ∷ []) word

-- whether writes change the file
abbrev pub share_text : Bool → List ℕ
share_text true = codes "shared"
share_text false = codes "private"

unfoldable pub share_word : List ℕ → Option Bool
share_word word = named share_text (true ∷ false ∷ []) word

-- what is asked of a page
abbrev pub access_text : Access → List ℕ
access_text Read = codes "r"
access_text Write = codes "w"
access_text Execute = codes "x"

unfoldable pub access_word : List ℕ → Option Access
access_word word = named access_text (Read ∷ Write ∷ Execute ∷ []) word
