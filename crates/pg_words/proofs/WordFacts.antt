-- What a test of each byte says of a word.
use Rattle.std.proofs.Common.{◌≡◌, ◌≢◌, ℕ, ◌<◌, ◌≤◌, ◌^◌, Bool, true, false, ◌&&◌, List, [], ◌∷◌, length, get_or, refl, arith, IsAscii, Result, Ok, Err, IsOk, MatchResult}
use Rattle.std.specs.List.{list_all}
use Rattle.std.specs.Result.{OkIff, result_ok}
use Rattle.std.specs.Char.{digit_value, is_ascii_digit, is_ascii_graphic}
use Rattle.std.specs.Str.Parse.{AllDigits, IsNumeral, ParsesUnsigned, digits_value}
use Rattle.std.proofs.lemmas.Bool.Decides.{nat_tests}
use Rattle.std.proofs.lemmas.Str.Ascii.{IsAscii-nil, IsAscii-cons}
use Rattle.std.proofs.lemmas.Str.Parse.{without_leading_plus_none}
use Rattle.pg_words.specs.Numbers.{is_lower_hex, has_lead, below}

-- both parts of a test that passes
both_pass : (a b : Bool) → (a && b) ≡ true → (a ≡ true) × (b ≡ true)
both_pass true b e = (refl, e)
both_pass false b e = absurd cc

-- bytes that pass a test which only bytes below 128 pass
pub IsAscii-from_pass : (test : ℕ → Bool) → ((c : ℕ) → test c ≡ true → c < 128) → (word : List ℕ) → list_all test word ≡ true → IsAscii word
IsAscii-from_pass test below [] all = IsAscii-nil
IsAscii-from_pass test below (c ∷ cs) all =
    let parts = both_pass (test c) (list_all test cs) all in
    IsAscii-cons c cs (below c parts.0) (IsAscii-from_pass test below cs parts.1)

-- bytes that pass a test which only digits pass
digits_from_pass : (test : ℕ → Bool) (radix : ℕ) → ((c : ℕ) → test c ≡ true → digit_value c < radix) → (word : List ℕ) → list_all test word ≡ true → AllDigits radix word
digits_from_pass test radix below [] all = tt
digits_from_pass test radix below (c ∷ cs) all =
    let parts = both_pass (test c) (list_all test cs) all in
    (below c parts.0, digits_from_pass test radix below cs parts.1)

some_from_lead : (word : List ℕ) → has_lead word ≡ true → 0 < length word
some_from_lead [] e = absurd cc
some_from_lead (c ∷ cs) e = omega arith

decimal_value : (c : ℕ) → is_ascii_digit c ≡ true → digit_value c < 10
decimal_value c e = grind (arith, nat_tests)

hex_value : (c : ℕ) → is_lower_hex c ≡ true → digit_value c < 16
hex_value c e = grind (arith, nat_tests)

graphic_below : (c : ℕ) → is_ascii_graphic c ≡ true → c < 128
graphic_below c e = grind (arith, nat_tests)

digit_below : (radix c : ℕ) → radix ≤ 16 → digit_value c < radix → (c < 128) × (c ≢ 43)
digit_below radix c small d = (grind (arith, nat_tests), grind (arith, nat_tests))

-- a call that fails only where U does not hold
pub ok_from_cases : {T E : Type 0} (r : Result T E) (P : T → Type 0) (U : Type 0) (Q : E → Type 0) → MatchResult r P (λ e. ¬ U × Q e) → U → IsOk r
ok_from_cases (Ok x) P U Q cases holds = refl
ok_from_cases (Err e) P U Q cases holds = absurd (cases.0 holds)

pub IsAscii-from_graphic : (word : List ℕ) → list_all is_ascii_graphic word ≡ true → IsAscii word
IsAscii-from_graphic word all = IsAscii-from_pass is_ascii_graphic graphic_below word all

pub numeral_from_decimal : (word : List ℕ) → has_lead word ≡ true → list_all is_ascii_digit word ≡ true → IsNumeral 10 word
numeral_from_decimal word lead all = (some_from_lead word lead, digits_from_pass is_ascii_digit 10 decimal_value word all)

pub numeral_from_hex : (word : List ℕ) → has_lead word ≡ true → list_all is_lower_hex word ≡ true → IsNumeral 16 word
numeral_from_hex word lead all = (some_from_lead word lead, digits_from_pass is_lower_hex 16 hex_value word all)

-- digits in a base of at most 16 are ASCII
pub IsAscii-from_digits : (radix : ℕ) (word : List ℕ) → radix ≤ 16 → AllDigits radix word → IsAscii word
IsAscii-from_digits radix [] small all = IsAscii-nil
IsAscii-from_digits radix (c ∷ cs) small all = IsAscii-cons c cs (digit_below radix c small all.0).0 (IsAscii-from_digits radix cs small all.1)

-- and none of them is a plus
pub no_plus_from_digits : (radix : ℕ) (word : List ℕ) → radix ≤ 16 → AllDigits radix word → get_or word 0 0 ≢ 43
no_plus_from_digits radix [] small all = omega arith
no_plus_from_digits radix (c ∷ cs) small all = (digit_below radix c small all.0).1

below_from_ok_iff : {E : Type 0} (r : Result ℕ E) (P : Type 0) (limit n : ℕ) → P → OkIff r (P × (n < limit)) n → result_ok r ≡ below limit n
below_from_ok_iff (Ok x) P limit n holds h = let lt : n < limit = h.0.1 in let same : x ≡ n = h.1 in grind (arith, nat_tests)
below_from_ok_iff (Err e) P limit n holds h = let le : ¬ (n < limit) = λ lt. h (holds, lt) in grind (arith, nat_tests)

-- what is read of a numeral is its value, where that fits
pub read_numeral : {E : Type 0} (radix : ℕ) (word : List ℕ) (r : Result ℕ E) → radix ≤ 16 → IsNumeral radix word → ParsesUnsigned 64 radix word r → result_ok r ≡ below (2 ^ 64) (digits_value radix word)
read_numeral radix word r small numeral parsed =
    let bare = without_leading_plus_none word (no_plus_from_digits radix word small numeral.1) in
    below_from_ok_iff r (IsNumeral radix word) (2 ^ 64) (digits_value radix word) numeral (rw bare at parsed)
