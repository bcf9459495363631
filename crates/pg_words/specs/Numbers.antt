-- Numbers and addresses as words: how each is printed, and what a word says, or none where it is not of the form.
use Rattle.std.specs.Prelude.{ℕ, Bool, true, false, not, ◌++◌, ◌&&◌, ◌||◌, ◌==◌, nat_lt, if◌then◌else◌, List, [], ◌∷◌, codes, bytes_eq, Option, Some, None}
use Rattle.std.specs.Int.{is_in_range}
use Rattle.std.specs.Char.{is_ascii_digit}
use Rattle.std.specs.Fmt.{digits}
use Rattle.std.specs.List.{list_all}
use Rattle.std.specs.Str.Parse.{digits_value}

-- a hex digit, whose letters are lower case: `0` to `9`, or `a` to `f`
abbrev pub is_lower_hex : ℕ → Bool
is_lower_hex c = is_in_range 48 57 c || is_in_range 97 102 c

-- a first digit stands, which is a zero only where it stands alone
abbrev pub has_lead : List ℕ → Bool
has_lead [] = false
has_lead (c ∷ []) = true
has_lead (c ∷ d ∷ ds) = not (c == 48)

-- a numeral of these digits without leading zeros
abbrev pub is_numeral : (ℕ → Bool) → List ℕ → Bool
is_numeral is_digit word = has_lead word && list_all is_digit word

-- a number that is below a limit
abbrev pub below : ℕ → ℕ → Option ℕ
below limit n = if nat_lt n limit then Some n else None

-- a number below a limit: a decimal numeral
unfoldable pub number_word : ℕ → List ℕ → Option ℕ
number_word limit word = if is_numeral is_ascii_digit word then below limit (digits_value 10 word) else None

-- a hex numeral of a number below a limit
unfoldable pub hex_number : ℕ → List ℕ → Option ℕ
hex_number limit digits = if is_numeral is_lower_hex digits then below limit (digits_value 16 digits) else None

-- an address below a limit: `0x` and a hex numeral
unfoldable pub address_word : ℕ → List ℕ → Option ℕ
address_word limit (c ∷ d ∷ digits) = if bytes_eq (c ∷ d ∷ []) (codes "0x") then hex_number limit digits else None
address_word limit _ = None

-- how an address is printed
abbrev pub address_text : ℕ → List ℕ
address_text addr = codes "0x" ++ digits 16 false addr
