-- Hex digits are how the bytes that they say are printed.
use Rattle.std.proofs.Common.{◌≡◌, ℕ, zero, suc, ◌+◌, ◌*◌, ◌^◌, ◌/◌, ◌%◌, ◌<◌, cond, ◌==◌, Bool, true, false, not, ◌&&◌, List, [], ◌∷◌, length, slice_index, Option, Some, None, Result, Ok, Err, refl, ap, sym, ◌∙◌, arith, inl, inr}
use Rattle.std.specs.Int.{w32, to_be_bytes, from_be_bytes}
use Rattle.std.specs.List.{list_all}
use Rattle.std.specs.Char.{digit_value}
use Rattle.std.specs.Option.{option_map}
use Rattle.std.specs.Result.{result_ok}
use Rattle.std.specs.Fmt.{digit_glyph}
use Rattle.std.proofs.lemmas.Bool.{cases_lt, and_parts, and_from, eqb-true, eqb-false, not-true, not_from_false, ne_eqb, eq-eqb}
use Rattle.std.proofs.lemmas.Bool.Decides.{nat_tests}
use Rattle.std.proofs.lemmas.Nat.{div-mul-add, mod-mul-add, mod_below, div_below, be_bytes_4, from_be_bytes-to_be_bytes_4}
use Rattle.hex.specs.Hex.{IsBytes, encode_lower, encode_with, lower_digits, decode_of, decode_pairs, hex_digit_value, ◌>>=◌}
use Rattle.hex.specs.declared.error.FromHexError.{FromHexError}
use Rattle.hex.specs.declared.error.FromHexError.TheVariants.{OddLength}
use Rattle.hex.proofs.HexLemmas.{length-encode_with, decode_of-encode_lower, decode_sized-encode_lower, decode_sized-ok, decode_sized-twice}
use Rattle.pg_words.specs.Numbers.{is_lower_hex}
use Rattle.pg_words.specs.Digits.{is_hex, hex_word, bytes_word, byte_word, flags_word, flags_text}
use Rattle.pg_words.proofs.NumeralFacts.{base16, positive, guarded_again, guarded_takes}

-- the digit at each place of the table is what is printed for it
abbrev glyphs_below : ℕ → Bool
glyphs_below zero = true
glyphs_below (suc n) = (slice_index lower_digits n == digit_glyph false n) && glyphs_below n

glyph_at : (n k : ℕ) → glyphs_below n ≡ true → k < n → slice_index lower_digits k ≡ digit_glyph false k
glyph_at zero k h lt = absurd (omega arith)
glyph_at (suc n) k h lt =
    let parts = and_parts (slice_index lower_digits n == digit_glyph false n) (glyphs_below n) h in
    elim (cases_lt k n) [
      | inl under ↦ glyph_at n k parts.1 under
      | inr top ↦ let e : k ≡ n = omega arith in rw e (eqb-true _ _ parts.0)
    ]

digit_reads : (c : ℕ) → is_lower_hex c ≡ true → hex_digit_value c ≡ Some (digit_value c)
digit_reads c e = grind (arith, nat_tests)

digit_prints : (c : ℕ) → is_lower_hex c ≡ true → slice_index lower_digits (digit_value c) ≡ c
digit_prints c e = glyph_at 16 (digit_value c) refl (base16.small c e) ∙ base16.printed c e

bind_ok : {A B : Type 0} (r : Result A FromHexError) (f : A → Result B FromHexError) (y : B) → (r >>= f) ≡ Ok y → (x : A) × (r ≡ Ok x) × (f x ≡ Ok y)
bind_ok (Ok x) f y e = (x, refl, e)
bind_ok (Err d) f y e = absurd cc

-- a byte for each two digits
pub record Decoded (text bytes : List ℕ) : Type 0 where
  pub is : text ≡ encode_lower bytes
  pub fits : IsBytes bytes

pub no_bytes : IsBytes []
no_bytes i = omega arith

pub more_bytes : (b : ℕ) (bytes : List ℕ) → b < 256 → IsBytes bytes → IsBytes (b ∷ bytes)
more_bytes b bytes lt rest zero = lt
more_bytes b bytes lt rest (suc i) = rest i

pairs_taken : (i : ℕ) (text bytes : List ℕ) → list_all is_lower_hex text ≡ true → decode_pairs i text ≡ Ok bytes → Decoded text bytes
unfolding decode_pairs encode_with
pairs_taken i [] bytes all e = let none : [] ≡ bytes = cc in rw (← none) (record { is = refl; fits = no_bytes })
pairs_taken i (h ∷ []) bytes all e = absurd cc
pairs_taken i (h ∷ l ∷ rest) bytes all e =
    let first = and_parts (is_lower_hex h) (list_all is_lower_hex (l ∷ rest)) all in
    let second = and_parts (is_lower_hex l) (list_all is_lower_hex rest) first.1 in
    let byte = digit_value h * 16 + digit_value l in
    let high = digit_reads h first.0 in
    let low = digit_reads l second.0 in
    let read : (decode_pairs (i + 2) rest >>= λ others. Ok (byte ∷ others)) ≡ Ok bytes = rw (high, low) at e in
    let b = bind_ok (decode_pairs (i + 2) rest) (λ others. Ok (byte ∷ others)) bytes read in
    let more = pairs_taken (i + 2) rest b.0 second.1 b.1 in
    let whole : byte ∷ b.0 ≡ bytes = let same : Ok (byte ∷ b.0) ≡ Ok bytes = b.2 in cc in
    let q : byte / 16 ≡ digit_value h = div-mul-add (digit_value h) 16 (digit_value l) (base16.small l second.0) in
    let r : byte % 16 ≡ digit_value l = mod-mul-add (digit_value h) 16 (digit_value l) (base16.small l second.0) in
    let printed : encode_lower (byte ∷ b.0) ≡ h ∷ l ∷ rest =
    (λ k. (ap (slice_index lower_digits) q ∙ digit_prints h first.0) k ∷ (ap (slice_index lower_digits) r ∙ digit_prints l second.0) k ∷ sym more.is k) in
    rw (← whole) (record { is = sym printed; fits = more_bytes byte b.0 (omega (arith, base16.small h first.0, base16.small l second.0)) more.fits })

glyph_lower : (d : ℕ) → d < 16 → is_lower_hex (slice_index lower_digits d) ≡ true
glyph_lower d lt = rw (glyph_at 16 d refl lt) (base16.passes d lt)

pub encoded_lower : (bytes : List ℕ) → IsBytes bytes → list_all is_lower_hex (encode_lower bytes) ≡ true
unfolding encode_with
encoded_lower [] fits = refl
encoded_lower (b ∷ bytes) fits =
    let high = glyph_lower (b / 16) (div_below b 16 16 (omega arith) (fits 0)) in
    let low = glyph_lower (b % 16) (mod_below b 16 (omega arith)) in
    and_from _ _ high (and_from _ _ low (encoded_lower bytes (λ i. fits (suc i))))

-- the length of the digits of some bytes is even and not 0
even : (n : ℕ) → 0 < n → not (2 * n == 0) ≡ true
even n some = not_from_false _ (ne_eqb (2 * n) 0 (λ e. absurd (omega arith)))

twice : (n : ℕ) → (2 * n % 2 == 0) ≡ true
twice n = eq-eqb (2 * n % 2) 0 (omega arith)

encoded_is_hex : (bytes : List ℕ) → IsBytes bytes → 0 < length bytes → is_hex (encode_lower bytes) ≡ true
encoded_is_hex bytes fits some =
    let len : length (encode_lower bytes) ≡ 2 * length bytes = length-encode_with lower_digits bytes in
    and_from _ _ (and_from _ _ (ap (λ (n : ℕ). not (n == 0)) len ∙ even (length bytes) some) (ap (λ (n : ℕ). n % 2 == 0) len ∙ twice (length bytes))) (encoded_lower bytes fits)

pub hex_again : (bytes : List ℕ) → IsBytes bytes → 0 < length bytes → hex_word (encode_lower bytes) ≡ Some bytes
unfolding hex_word
hex_again bytes fits some = guarded_again _ _ bytes (encoded_is_hex bytes fits some) (ap result_ok (decode_of-encode_lower bytes fits))

result_ok_takes : {A E : Type 0} (r : Result A E) (x : A) → result_ok r ≡ Some x → r ≡ Ok x
result_ok_takes (Ok y) x e = let same : y ≡ x = cc in ap Ok same
result_ok_takes (Err d) x e = absurd cc

decode_of_takes : (text bytes : List ℕ) → list_all is_lower_hex text ≡ true → decode_of text ≡ Ok bytes → Decoded text bytes
decode_of_takes text bytes all e = by (length text % 2 == 1) e
  where
    by : (t : Bool) → cond t (Err OddLength) (decode_pairs 0 text) ≡ Ok bytes → Decoded text bytes
    by true e = absurd cc
    by false e = pairs_taken 0 text bytes all e

-- some bytes, each two digits
pub record SomeDecoded (text bytes : List ℕ) : Type 0 where
  pub decoded : Decoded text bytes
  pub some : 0 < length bytes

pub hex_takes : (bytes word : List ℕ) → hex_word word ≡ Some bytes → SomeDecoded word bytes
unfolding hex_word
hex_takes bytes word e =
    let g = guarded_takes (is_hex word) _ bytes e in
    let parts = and_parts _ _ g.0 in
    let front = and_parts _ _ parts.0 in
    let d = decode_of_takes word bytes parts.1 (result_ok_takes _ bytes g.1) in
    let filled = eqb-false (length word) 0 (not-true _ front.0) in
    let len : length word ≡ 2 * length bytes = ap length d.is ∙ length-encode_with lower_digits bytes in
    record { decoded = d; some = positive (length bytes) (λ z. filled (omega arith)) }

-- pairs of digits say bytes
found_pairs : (i : ℕ) (text : List ℕ) (n : ℕ) → length text ≡ 2 * n → list_all is_lower_hex text ≡ true → (bytes : List ℕ) × (decode_pairs i text ≡ Ok bytes)
unfolding decode_pairs
found_pairs i [] n len all = ([], refl)
found_pairs i (h ∷ []) n len all = absurd (omega arith)
found_pairs i (h ∷ l ∷ rest) zero len all = absurd (omega arith)
found_pairs i (h ∷ l ∷ rest) (suc n) len all =
    let first = and_parts (is_lower_hex h) (list_all is_lower_hex (l ∷ rest)) all in
    let second = and_parts (is_lower_hex l) (list_all is_lower_hex rest) first.1 in
    let more = found_pairs (i + 2) rest n (omega arith) second.1 in
    ((digit_value h * 16 + digit_value l) ∷ more.0, rw (digit_reads h first.0, digit_reads l second.0, more.1) refl)

-- the bytes of a word of the form
pub hex_found : (word : List ℕ) → is_hex word ≡ true → (bytes : List ℕ) × (hex_word word ≡ Some bytes)
unfolding hex_word
hex_found word e =
    let parts = and_parts (not (length word == 0) && length word % 2 == 0) (list_all is_lower_hex word) e in
    let front = and_parts (not (length word == 0)) (length word % 2 == 0) parts.0 in
    let o = found_pairs 0 word (length word / 2) (omega (arith, eqb-true (length word % 2) 0 front.1)) parts.1 in
    let even : (length word % 2 == 1) ≡ false = ne_eqb _ 1 (λ odd. absurd (omega (arith, eqb-true (length word % 2) 0 front.1))) in
    (o.0, rw (e, even, o.1) refl)

pub bytes_again : (count : ℕ) (bytes : List ℕ) → IsBytes bytes → length bytes ≡ count → bytes_word count (encode_lower bytes) ≡ Some bytes
unfolding bytes_word
bytes_again count bytes fits len = guarded_again _ _ bytes (encoded_lower bytes fits) (ap result_ok (decode_sized-encode_lower bytes count len fits))

-- so many bytes
pub record SizedDecoded (count : ℕ) (text bytes : List ℕ) : Type 0 where
  pub decoded : Decoded text bytes
  pub size : length bytes ≡ count

pub bytes_takes : (count : ℕ) (bytes word : List ℕ) → bytes_word count word ≡ Some bytes → SizedDecoded count word bytes
unfolding bytes_word
bytes_takes count bytes word e =
    let g = guarded_takes (list_all is_lower_hex word) _ bytes e in
    let sized = result_ok_takes _ bytes g.1 in
    let len : length word ≡ 2 * count = decode_sized-ok word count bytes sized in
    let d = decode_of_takes word bytes g.0 (sym (decode_sized-twice word count len) ∙ sized) in
    let lens : length word ≡ 2 * length bytes = ap length d.is ∙ length-encode_with lower_digits bytes in
    record { decoded = d; size = omega arith }

pub byte_again : (b : ℕ) → b < 256 → byte_word (encode_lower (b ∷ [])) ≡ Some b
unfolding byte_word
byte_again b lt = ap (option_map (λ (bytes : List ℕ). slice_index bytes 0)) (bytes_again 1 (b ∷ []) (more_bytes b [] lt no_bytes) refl)

pub map_takes : {A B : Type 0} (f : A → B) (o : Option A) (y : B) → option_map f o ≡ Some y → (x : A) × (o ≡ Some x) × (f x ≡ y)
map_takes f (Some x) y e = (x, refl, cc)
map_takes f None y e = absurd cc

-- a byte is printed so
pub record OneDecoded (text : List ℕ) (b : ℕ) : Type 0 where
  pub is : text ≡ encode_lower (b ∷ [])
  pub fits : b < 256

pub byte_takes : (b : ℕ) (word : List ℕ) → byte_word word ≡ Some b → OneDecoded word b
unfolding byte_word
byte_takes b word e =
    let m = map_takes (λ (bytes : List ℕ). slice_index bytes 0) (bytes_word 1 word) b e in
    let s = bytes_takes 1 m.0 word m.1 in
    let one = only_one m.0 s.size in
    rw (← m.2) (record { is = s.decoded.is ∙ ap encode_lower one; fits = s.decoded.fits 0 })
  where
    only_one : (bytes : List ℕ) → length bytes ≡ 1 → bytes ≡ slice_index bytes 0 ∷ []
    only_one [] e = absurd (omega arith)
    only_one (x ∷ []) e = refl
    only_one (x ∷ y ∷ more) e = absurd (omega arith)

pub flags_again : (flags : ℕ) → flags < 2 ^ 32 → flags_word (flags_text flags) ≡ Some flags
unfolding flags_word
flags_again flags lt =
    ap (option_map (from_be_bytes w32)) (bytes_again 4 (to_be_bytes w32 flags) (four flags) refl) ∙ ap (λ (n : ℕ). Some n) (from_be_bytes-to_be_bytes_4 flags lt)
  where
    four : (n : ℕ) → IsBytes (to_be_bytes w32 n)
    four n zero = mod_below (n / 16777216) 256 (omega arith)
    four n (suc zero) = mod_below (n / 65536) 256 (omega arith)
    four n (suc (suc zero)) = mod_below (n / 256) 256 (omega arith)
    four n (suc (suc (suc zero))) = mod_below n 256 (omega arith)
    four n (suc (suc (suc (suc i)))) = omega arith

-- 32 bits are printed so
pub record FlagsDecoded (text : List ℕ) (flags : ℕ) : Type 0 where
  pub is : text ≡ flags_text flags
  pub fits : flags < 2 ^ 32

pub flags_takes : (flags : ℕ) (word : List ℕ) → flags_word word ≡ Some flags → FlagsDecoded word flags
unfolding flags_word
flags_takes flags word e =
    let m = map_takes (from_be_bytes w32) (bytes_word 4 word) flags e in
    let s = bytes_takes 4 m.0 word m.1 in
    let fits = s.decoded.fits in
    rw (← m.2) (record { is = s.decoded.is ∙ ap encode_lower (sym (be_bytes_4 m.0 _ s.size fits refl)); fits = omega (arith, fits 0, fits 1, fits 2, fits 3) })
