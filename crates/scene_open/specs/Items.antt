-- The items of a scene: its header lines, each with the bytes of the file that it names.
--
-- An item's number is that of its header line, counted from 1.
use Rattle.std.specs.Prelude.{◌≡◌, ℕ, ◌+◌, ◌≤◌, Bool, nat_lt, if◌then◌else◌, List, [], ◌∷◌, length, map, count_by, Option, Some, None, is_some, unwrap_or}
use Rattle.std.specs.Option.{option_or}
use Rattle.pg_bytes.specs.declared.status.Status.{Status}
use Rattle.pg_bytes.specs.declared.status.Status.TheVariants.{FileFault, Limit, TrustBad}
use Rattle.pg_bytes.specs.declared.status.Which.TheVariants.{FileBytes, SignatureBytes}
use Rattle.pg_io.specs.Calls.{count_after}
use Rattle.pg_io.specs.Files.{Told, next_read, after_read}
use Rattle.cs_policy.specs.declared.layout.Layout.{Layout}
use Rattle.cs_trust.specs.declared.refusal.TrustRefusal.{TrustRefusal}
use Rattle.cs_trust.specs.Rules as trust
use Rattle.cs_trust.specs.Refusals.{number_of, argument_of}
use Rattle.scene_text.specs.declared.head.Head.{Head}
use Rattle.scene_text.specs.declared.head.Head.TheVariants as head
use Rattle.scene_open.specs.Layouts.{macho_layout, raw_layout, has_long}

-- A header line, and the bytes of the file that it names: none where it names none, or where the file cannot be read.
pub record Item : Type 0 where
  pub head : Head
  pub found : Option (List ℕ)

-- the header lines of items
abbrev pub heads_of : List Item → List Head
heads_of items = map (λ item. item.head) items

-- the bytes that were found
abbrev pub bytes_of : Item → List ℕ
bytes_of item = unwrap_or item.found []

-- the file that a header line names
abbrev pub path_of : Head → Option (List ℕ)
path_of (head.File path) = Some path
path_of (head.Raw path off len) = Some path
path_of (head.Static path) = Some path
path_of (head.Cache path) = Some path
path_of other = None

-- it names one
abbrev pub names_file : Head → Bool
names_file head = is_some (path_of head)

-- ---- what is read

-- the bytes that the next read finds
abbrev pub found_by : Told → Option (List ℕ) → Option (List ℕ)
found_by told None = None
found_by told (Some path) = next_read told path

-- what is told behind it
abbrev pub told_behind : Told → Option (List ℕ) → Told
told_behind told None = told
told_behind told (Some path) = after_read told

-- the items of header lines whose files are read one after another
abbrev pub items_told : Told → List Head → List Item
items_told told [] = []
items_told told (head ∷ heads) =
    record { head = head; found = found_by told (path_of head) } ∷ items_told (told_behind told (path_of head)) heads

-- what is told after so many reads
abbrev pub told_after : Told → ℕ → Told
told_after told reads = record told { made = count_after told.made reads }

-- how many files header lines name
abbrev pub files_named : List Head → ℕ
files_named heads = count_by names_file heads

-- At most so many reads were made.
pub record ReadsWithin (told : Told) (most : ℕ) (now : Option Told) : Type 0 where
  pub reads : ℕ
  pub few : reads ≤ most
  pub after : now ≡ Some (told_after told reads)

-- ---- what ends a run

-- a file is held to 67,108,864 bytes, and then the signature of each of its slices to 1,048,576
abbrev pub file_end : List ℕ → Layout → Option Status
file_end bytes layout =
    if nat_lt 67108864 (length bytes) then Some (Limit FileBytes 67108864)
    else (if has_long layout then Some (Limit SignatureBytes 1048576) else None)

-- a static trust cache by the first rule that it breaks
abbrev pub static_end : ℕ → Option TrustRefusal → Option Status
static_end number (Some refusal) = Some (TrustBad number (number_of refusal) (argument_of refusal))
static_end number None = None

-- why an item with these bytes ends the run. A trust cache that a script may load is no reason.
abbrev pub bytes_end : ℕ → Head → List ℕ → Option Status
bytes_end number (head.File path) bytes = file_end bytes (macho_layout bytes)
bytes_end number (head.Raw path off len) bytes = file_end bytes (raw_layout bytes (record { at = off; len = len }))
bytes_end number (head.Static path) bytes = static_end number (trust.broken bytes)
bytes_end number other bytes = None

-- the same for what was found of it, where it names a file: one that cannot be read ends the run
abbrev pub found_end : ℕ → Head → Option (List ℕ) → Option Status
found_end number head None = if names_file head then Some (FileFault number) else None
found_end number head (Some bytes) = bytes_end number head bytes

abbrev pub item_end : ℕ → Item → Option Status
item_end number item = found_end number item.head item.found

-- why items end the run, the first of which has this number: the first of them that does, or none
abbrev pub items_end : ℕ → List Item → Option Status
items_end number [] = None
items_end number (item ∷ items) = option_or (item_end number item) (items_end (number + 1) items)

-- the items up to the first that ends the run, with it; or all of them
abbrev pub up_to_end : ℕ → List Item → List Item
up_to_end number [] = []
up_to_end number (item ∷ items) =
    item ∷ (if is_some (item_end number item) then [] else up_to_end (number + 1) items)

-- how many files these name
abbrev pub files_read : List Item → ℕ
files_read items = files_named (heads_of (up_to_end 1 items))
