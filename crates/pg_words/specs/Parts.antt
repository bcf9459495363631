-- What the reader of a word for data gives.
use Rattle.std.specs.Prelude.{◌≡◌, ◌<◌, ◌^◌, true}
use Rattle.cs_policy.specs.declared.data.Data.{Data}
use Rattle.cs_policy.specs.declared.data.Data.TheVariants.{Hex, Fill}
use Rattle.pg_words.specs.declared.piece.DataWord.{DataWord}
use Rattle.pg_words.specs.declared.piece.DataWord.TheVariants as word
use Rattle.pg_words.specs.Digits.{is_hex}
use Rattle.pg_words.specs.Words.{digits_bytes}

-- the data that it stands for
abbrev pub data_of : DataWord → Data
data_of (word.Digits digits) = Hex (digits_bytes digits.now)
data_of (word.Fill byte count) = Fill byte count

-- the count fits, where it is one
abbrev pub IsShort : DataWord → Type 0
IsShort (word.Digits digits) = Unit {0}
IsShort (word.Fill byte count) = count < 2 ^ 32

-- its digits are hex digits
abbrev pub IsOfForm : DataWord → Type 0
IsOfForm (word.Digits digits) = is_hex digits.now ≡ true
IsOfForm (word.Fill byte count) = Unit {0}
