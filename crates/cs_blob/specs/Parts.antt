-- The blobs of a signature.
-- Source: XNU's `cs_blobs.h`, CSMAGIC_* and CSSLOT_*; Apple TN3126.
use Rattle.std.specs.Prelude.{ℕ, ◌+◌, ◌≤◌, Bool, ◌&&◌, ◌||◌, List, [], ◌∷◌, length, filter, find, Option, nat_le, ◌==◌, if◌then◌else◌}
use Rattle.pg_bytes.specs.Fields.{be32_at}
use Rattle.pg_bytes.specs.declared.fields.Range.{Range}
use Rattle.cs_superblob.specs.declared.entries.Seat.{Seat}
use Rattle.cs_superblob.specs.Layout.{seats}

-- whether the bytes begin with a code directory: they are then no SuperBlob
unfoldable pub is_bare : List ℕ → Bool
is_bare bytes = nat_le 4 (length bytes) && (be32_at bytes 0 == 0xfade0c02)

-- the range lies within the bytes
pub record IsWithin (bytes : List ℕ) (range : Range) : Type 0 where
  pub within : range.at + range.len ≤ length bytes

-- a code directory alone, as an entry that places all bytes
abbrev pub whole : List ℕ → Seat
whole bytes = record { slot = 0; range = record { at = 0; len = length bytes } }

-- the entries of the SuperBlob's table; a code directory alone has none
unfoldable pub entries : List ℕ → List Seat
entries bytes = if is_bare bytes then [] else seats bytes

-- whether a type is that of a code directory: the first one, or one of five alternates
abbrev pub is_directory_type : ℕ → Bool
is_directory_type slot = (slot == 0) || (nat_le 0x1000 slot && nat_le slot 0x1004)

-- those of several entries that place code directories, in their order
abbrev pub directories_among : List Seat → List Seat
directories_among seats = filter (λ seat. is_directory_type seat.slot) seats

-- the entries that place code directories, in their order
unfoldable pub directories : List ℕ → List Seat
directories bytes = if is_bare bytes then whole bytes ∷ [] else directories_among (seats bytes)

-- the entry of a type, of which a SuperBlob has one at most
abbrev pub entry_of : List Seat → ℕ → Option Seat
entry_of entries slot = find (λ seat. seat.slot == slot) entries
