-- Numbers that stand in a text, by their place and byte order.
use Rattle.std.specs.Prelude.{ℕ, ◌+◌, List, length, drop, Option, Some, None, nat_le, if◌then◌else◌}
use Rattle.byteorder.specs.Endian.{big_number, little_number}

-- the number of a field of so many bytes at a place, and none where the field passes the text's end
abbrev pub field : ℕ → List ℕ → ℕ → ℕ → Option ℕ
field size bytes at number = if nat_le (at + size) (length bytes) then Some number else None

-- the number of the four bytes at a place, the greatest byte first
unfoldable pub be32_at : List ℕ → ℕ → ℕ
be32_at bytes at = big_number 4 (drop at bytes)

-- the number of the eight bytes at a place, the greatest byte first
unfoldable pub be64_at : List ℕ → ℕ → ℕ
be64_at bytes at = big_number 8 (drop at bytes)

-- the number of the four bytes at a place, the least byte first
unfoldable pub le32_at : List ℕ → ℕ → ℕ
le32_at bytes at = little_number 4 (drop at bytes)

-- the number of the eight bytes at a place, the least byte first
unfoldable pub le64_at : List ℕ → ℕ → ℕ
le64_at bytes at = little_number 8 (drop at bytes)
