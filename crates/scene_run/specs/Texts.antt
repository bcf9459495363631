-- The one line that an early end of a run prints.
use Rattle.std.specs.Prelude.{ℕ, List, [], ◌∷◌, ◌++◌, codes, slice_index_or}
use Rattle.std.specs.Fmt.{decimal}
use Rattle.pg_bytes.specs.declared.status.Status.{Status}
use Rattle.pg_bytes.specs.declared.status.Status.TheVariants as status
use Rattle.pg_bytes.specs.declared.status.Which.{Which}
use Rattle.pg_bytes.specs.declared.status.Which.TheVariants as which

-- the words of the kinds of bad lines, of which the first has number 1
abbrev pub kind_words : List (List ℕ)
kind_words =
    [] ∷ codes "nottext" ∷ codes "firstline" ∷ codes "unknownword" ∷ codes "place" ∷ codes "words" ∷ codes "form"
    ∷ codes "unknown" ∷ codes "range" ∷ []

-- the word of a kind
abbrev pub kind_word : ℕ → List ℕ
kind_word kind = slice_index_or kind_words kind []

-- the word of a bounded quantity
abbrev pub which_word : Which → List ℕ
which_word which.Scene = codes "scene"
which_word which.Calls = codes "calls"
which_word which.Workers = codes "workers"
which_word which.Files = codes "files"
which_word which.Processes = codes "processes"
which_word which.Statics = codes "statics"
which_word which.Caches = codes "caches"
which_word which.Fails = codes "fails"
which_word which.Attaches = codes "attaches"
which_word which.FileBytes = codes "filebytes"
which_word which.SignatureBytes = codes "signaturebytes"

-- the rule that a trust cache breaks
abbrev pub rule_text : ℕ → ℕ → List ℕ
rule_text number arg = codes " refused: trust." ++ (decimal number ++ (codes "." ++ (decimal arg ++ codes ".0\n")))

-- the line that goes with a status; none goes with the others
abbrev pub early_line : Status → List ℕ
early_line status.Usage = codes "usage: csrun SCENE | csrun solo SCENE | csrun gen N\n"
early_line (status.SceneBad line kind) = codes "csrun: line " ++ (decimal line ++ (codes ": " ++ (kind_word kind ++ codes "\n")))
early_line (status.FileFault item) = codes "csrun: cannot read item " ++ (decimal item ++ codes "\n")
early_line (status.Limit which number) = codes "csrun: limit " ++ (which_word which ++ (codes " " ++ (decimal number ++ codes "\n")))
early_line (status.TrustBad item number arg) =
    codes "csrun: trust cache of item " ++ (decimal item ++ rule_text number arg)
early_line other = []
