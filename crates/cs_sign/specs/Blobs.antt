-- The blobs of a signature, and a SuperBlob of several. Each number has its greatest byte first.
-- Source: `CS_GenericBlob`, `CS_SuperBlob` and `CS_BlobIndex` in XNU's `cs_blobs.h`; Apple TN3126.
use Rattle.std.specs.Prelude.{ℕ, ◌+◌, ◌*◌, List, [], ◌∷◌, ◌++◌, length}
use Rattle.std.specs.List.{flat_map}
use Rattle.byteorder.specs.Endian.{big_bytes}
use Rattle.cs_sign.specs.declared.fields.Field.{Field}
use Rattle.cs_sign.specs.declared.fields.Field.TheVariants.{Byte, Word, Long}

-- the bytes of a field
unfoldable pub field_bytes : Field → List ℕ
field_bytes (Byte number) = number ∷ []
field_bytes (Word number) = big_bytes 4 number
field_bytes (Long number) = big_bytes 8 number

-- a blob: its magic, its length with these two numbers, and what it holds
abbrev pub blob : ℕ → List ℕ → List ℕ
blob magic held = flat_map field_bytes (Word magic ∷ Word (8 + length held) ∷ []) ++ held

-- a blob of a SuperBlob: its type, and its bytes
pub record Part : Type 0 where
  pub slot : ℕ
  pub bytes : List ℕ

abbrev pub part_bytes : Part → List ℕ
part_bytes part = part.bytes

-- how many bytes several blobs have
abbrev pub parts_length : List Part → ℕ
parts_length parts = length (flat_map part_bytes parts)

-- the table of a SuperBlob: the type and the place of each blob, of which the first begins at `at` and each other where
-- the one before ends
abbrev pub index : ℕ → List Part → List ℕ
index at [] = []
index at (part ∷ more) = flat_map field_bytes (Word part.slot ∷ Word at ∷ []) ++ index (at + length part.bytes) more

-- a SuperBlob: how many blobs it has, the table, and behind it the blobs in their order and without gaps
abbrev pub superblob : List Part → List ℕ
superblob parts =
    blob 0xfade0cc0 (field_bytes (Word (length parts)) ++ (index (12 + 8 * length parts) parts ++ flat_map part_bytes parts))
