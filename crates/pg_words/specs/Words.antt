-- The bytes of a word of hex digits.
use Rattle.std.specs.Prelude.{ℕ, List, []}
use Rattle.std.specs.Option.{unwrap_or}
use Rattle.pg_words.specs.Digits.{hex_word}

-- the bytes that hex digits say
abbrev pub digits_bytes : List ℕ → List ℕ
digits_bytes digits = unwrap_or (hex_word digits) []
