-- How long blobs and their table are.
use Rattle.std.proofs.Common.{◌≡◌, ℕ, ◌+◌, ◌*◌, List, [], ◌∷◌, length, length-append, refl, arith}
use Rattle.cs_sign.specs.declared.fields.Field.TheVariants.{Byte, Word, Long}
use Rattle.cs_sign.specs.Blobs.{Part, index, field_bytes}

-- how many bytes a field has
pub length-byte : (number : ℕ) → length (field_bytes (Byte number)) ≡ 1
unfolding field_bytes
length-byte number = refl

pub length-word : (number : ℕ) → length (field_bytes (Word number)) ≡ 4
unfolding field_bytes
length-word number = refl

pub length-long : (number : ℕ) → length (field_bytes (Long number)) ≡ 8
unfolding field_bytes
length-long number = refl

-- the table has eight bytes for each blob
pub length-index : (at : ℕ) (parts : List Part) → length (index at parts) ≡ 8 * length parts
length-index at [] = omega arith
length-index at (part ∷ more) =
    omega (arith, length-append {A = ℕ}, length-word part.slot, length-word at, length-index (at + length part.bytes) more)
