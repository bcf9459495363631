-- Bytes as words of hex digits, two digits a byte.
use Rattle.std.specs.Prelude.{ℕ, Bool, not, ◌%◌, ◌==◌, ◌&&◌, if◌then◌else◌, List, length, slice_index, Option, None, option_map}
use Rattle.std.specs.Int.{w32, to_be_bytes, from_be_bytes}
use Rattle.std.specs.List.{list_all}
use Rattle.std.specs.Result.{result_ok}
use Rattle.hex.specs.Hex.{encode_lower, decode_of, decode_sized}
use Rattle.pg_words.specs.Numbers.{is_lower_hex}

-- an even number of lower-case digits, and some
abbrev pub is_hex : List ℕ → Bool
is_hex word = not (length word == 0) && length word % 2 == 0 && list_all is_lower_hex word

-- one byte or more
unfoldable pub hex_word : List ℕ → Option (List ℕ)
hex_word word = if is_hex word then result_ok (decode_of word) else None

-- so many bytes
unfoldable pub bytes_word : ℕ → List ℕ → Option (List ℕ)
bytes_word count word = if list_all is_lower_hex word then result_ok (decode_sized word count) else None

-- one byte
unfoldable pub byte_word : List ℕ → Option ℕ
byte_word word = option_map (λ bytes. slice_index bytes 0) (bytes_word 1 word)

-- 32 bits, as eight digits
unfoldable pub flags_word : List ℕ → Option ℕ
flags_word word = option_map (from_be_bytes w32) (bytes_word 4 word)

-- how 32 bits are printed
abbrev pub flags_text : ℕ → List ℕ
flags_text flags = encode_lower (to_be_bytes w32 flags)
