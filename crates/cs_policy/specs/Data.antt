-- The bytes of a write.
use Rattle.std.specs.Prelude.{ℕ, List, replicate}
use Rattle.cs_policy.specs.declared.data.Data.{Data}
use Rattle.cs_policy.specs.declared.data.Data.TheVariants.{Hex, Fill}

-- the bytes that a write puts into the file, in their order
abbrev pub data_bytes : Data → List ℕ
data_bytes (Hex bytes) = bytes
data_bytes (Fill byte count) = replicate count byte

-- the bytes were given one by one
abbrev pub IsHex : Data → Type 0
IsHex (Hex bytes) = Unit {0}
IsHex (Fill byte count) = ⊥
