-- How a run ends early: its status, and the one line that it writes.
use Rattle.std.specs.Prelude.{ℕ, Bool, true, false, List, ◌++◌, codes}
use Rattle.std.specs.Fmt.{decimal}
use Rattle.pg_bytes.specs.declared.status.Status.{Status}
use Rattle.pg_bytes.specs.declared.status.Status.TheVariants as status
use Rattle.pg_bytes.specs.declared.status.Which.TheVariants.{FileBytes}
use Rattle.cs_sign.specs.declared.early.Early.{Early}
use Rattle.cs_sign.specs.declared.early.Early.TheVariants.{Usage, Unread, TooLarge, Refused, NotSealed}
use Rattle.cs_sign.specs.Refusals.{refusal_text}

-- the most bytes that a file may have
abbrev pub most : ℕ
most = 67108864

-- the status of an early end
abbrev pub status_of : Early → Status
status_of Usage = status.Usage
status_of (Unread item) = status.FileFault item
status_of TooLarge = status.Limit FileBytes most
status_of (Refused refusal) = status.NotSealed
status_of (NotSealed item) = status.NotSealed

-- the number of an item between two texts
abbrev pub item_line : List ℕ → ℕ → List ℕ → List ℕ
item_line before item behind = before ++ (decimal item ++ behind)

-- its one line
abbrev pub early_line : Early → List ℕ
early_line Usage = codes "usage: cssign sign PATH IDENT 4|16 [PATH] | cssign cache PATH..\n"
early_line (Unread item) = item_line (codes "cssign: cannot read item ") item (codes "\n")
early_line TooLarge = codes "cssign: limit filebytes 67108864\n"
early_line (Refused refusal) = codes "cssign: refused " ++ (refusal_text refusal ++ codes "\n")
early_line (NotSealed item) = item_line (codes "cssign: item ") item (codes " not sealed\n")

-- whether a file could not be read
abbrev pub is_unread : Early → Bool
is_unread (Unread item) = true
is_unread other = false
