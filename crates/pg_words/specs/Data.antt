-- The data of a write as a word.
use Rattle.std.specs.Prelude.{ℕ, ◌<◌, ◌++◌, ◌==◌, if◌then◌else◌, List, [], ◌∷◌, length, codes, bytes_eq, Option, None, option_map, option_and_then}
use Rattle.std.specs.Fmt.{decimal}
use Rattle.hex.specs.Hex.{IsBytes, encode_lower}
use Rattle.cs_policy.specs.declared.data.Data.{Data}
use Rattle.cs_policy.specs.declared.data.Data.TheVariants.{Hex, Fill}
use Rattle.pg_words.specs.Numbers.{number_word}
use Rattle.pg_words.specs.Digits.{hex_word, byte_word}

-- bytes in hex, or `fill:BB:COUNT` for so many times a byte
abbrev pub data_text : Data → List ℕ
data_text (Hex bytes) = encode_lower bytes
data_text (Fill byte count) = codes "fill:" ++ (encode_lower (byte ∷ []) ++ (codes ":" ++ decimal count))

-- `BB:COUNT`, the count below a limit
unfoldable pub fill_word : ℕ → List ℕ → Option Data
fill_word limit (high ∷ low ∷ colon ∷ count) =
    if colon == 58
    then option_and_then (λ byte. option_map (λ count. Fill byte count) (number_word limit count)) (byte_word (high ∷ low ∷ []))
    else None
fill_word limit _ = None

-- a word of either form
unfoldable pub data_word : ℕ → List ℕ → Option Data
data_word limit (a ∷ b ∷ c ∷ d ∷ e ∷ rest) =
    if bytes_eq (a ∷ b ∷ c ∷ d ∷ e ∷ []) (codes "fill:") then fill_word limit rest
    else option_map (λ bytes. Hex bytes) (hex_word (a ∷ b ∷ c ∷ d ∷ e ∷ rest))
data_word limit word = option_map (λ bytes. Hex bytes) (hex_word word)

-- how many bytes are written
abbrev pub data_count : Data → ℕ
data_count (Hex bytes) = length bytes
data_count (Fill byte count) = count

-- what a word can say: at least one byte, or a count below a limit
abbrev pub CanWrite : ℕ → Data → Type 0
CanWrite limit (Hex bytes) = IsBytes bytes × (0 < length bytes)
CanWrite limit (Fill byte count) = (byte < 256) × (count < limit)
