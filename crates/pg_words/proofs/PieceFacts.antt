-- The data of a write are printed as the word that says them.
use Rattle.std.proofs.Common.{◌≡◌, ℕ, ◌*◌, ◌/◌, Ok, ◌^◌, ◌<◌, ◌≤◌, true, false, List, [], ◌∷◌, ◌++◌, length, get_or, codes, Some, None, option_map, refl, ap, sym, subst, ◌∙◌, arith}
use Rattle.std.specs.Option.{unwrap_or}
use Rattle.std.specs.Fmt.{decimal}
use Rattle.std.specs.Prelude.{bytes_eq}
use Rattle.std.specs.List.{list_all}
use Rattle.std.proofs.lemmas.Bool.{eqb-true, and_parts, false_from_ne_true}
use Rattle.std.proofs.lemmas.Option.{option_and_then_some}
use Rattle.pg_words.specs.Numbers.{is_lower_hex}
use Rattle.pg_words.proofs.NameFacts.{chosen, is_word_text}
use Rattle.std.proofs.lemmas.Slice.Eq.{bytes_eq-Decides}
use Rattle.hex.specs.Hex.{encode_lower, encode_with, lower_digits, decode_of}
use Rattle.hex.proofs.HexLemmas.{length-encode_with}
use Rattle.pg_words.specs.Words.{digits_bytes}
use Rattle.cs_policy.specs.declared.data.Data.{Data}
use Rattle.cs_policy.specs.declared.data.Data.TheVariants.{Hex, Fill}
use Rattle.pg_words.specs.Numbers.{number_word}
use Rattle.pg_words.specs.Digits.{is_hex, hex_word, byte_word}
use Rattle.pg_words.specs.Data.{data_text, fill_word, data_word, CanWrite}
use Rattle.pg_words.proofs.NumeralFacts.{guarded_takes, number_again, number_takes}
use Rattle.pg_words.proofs.HexFacts.{encoded_lower, hex_found, hex_again, hex_takes, byte_again, byte_takes, map_takes}

pub hex_some : (word : List ℕ) → is_hex word ≡ true → Some (Hex (unwrap_or (hex_word word) [])) ≡ option_map (λ (bytes : List ℕ). Hex bytes) (hex_word word)
hex_some word e = let o = hex_found word e in rw o.1 refl

pub digits_some : (word : List ℕ) → is_hex word ≡ true → Some (digits_bytes word) ≡ hex_word word
digits_some word e = let o = hex_found word e in rw o.1 refl

pub digits_are : (word : List ℕ) (bytes : List ℕ) → is_hex word ≡ true → decode_of word ≡ Ok bytes → bytes ≡ digits_bytes word
unfolding hex_word
digits_are word bytes e decoded = rw (e, decoded) refl

pub digits_count : (word : List ℕ) → is_hex word ≡ true → length word / 2 ≡ length (digits_bytes word)
digits_count word e =
    let o = hex_found word e in
    let h = hex_takes o.0 word o.1 in
    let len : length word ≡ 2 * length o.0 = ap length h.decoded.is ∙ length-encode_with lower_digits o.0 in
    rw o.1 (omega arith)

pub digits_more : (word : List ℕ) → is_hex word ≡ true → 0 < length word / 2
digits_more word e =
    let o = hex_found word e in
    let h = hex_takes o.0 word o.1 in
    omega (arith, digits_count word e, (let n : length (digits_bytes word) ≡ length o.0 = rw o.1 refl in n), h.some)

pub hex_none : (word : List ℕ) → is_hex word ≡ false → hex_word word ≡ None
unfolding hex_word
hex_none word e = rw e refl

-- no hex digit is the letter behind `f`
not_fill : (a b c d e : ℕ) → is_lower_hex b ≡ true → bytes_eq (a ∷ b ∷ c ∷ d ∷ e ∷ []) (codes "fill:") ≡ false
not_fill a b c d e ok =
    false_from_ne_true _ (λ t.
    let same = (bytes_eq-Decides (a ∷ b ∷ c ∷ d ∷ e ∷ []) (codes "fill:")).0 t in
    let is : b ≡ 105 = ap (λ (xs : List ℕ). get_or xs 1 0) same in
    let wrong : is_lower_hex 105 ≡ true = sym (ap is_lower_hex is) ∙ ok in
    absurd cc)

data_is_hex : (limit : ℕ) (word : List ℕ) → list_all is_lower_hex word ≡ true → data_word limit word ≡ option_map (λ (bytes : List ℕ). Hex bytes) (hex_word word)
unfolding data_word
data_is_hex limit [] all = refl
data_is_hex limit (a ∷ []) all = refl
data_is_hex limit (a ∷ b ∷ []) all = refl
data_is_hex limit (a ∷ b ∷ c ∷ []) all = refl
data_is_hex limit (a ∷ b ∷ c ∷ d ∷ []) all = refl
data_is_hex limit (a ∷ b ∷ c ∷ d ∷ e ∷ rest) all =
    let first = and_parts (is_lower_hex a) (list_all is_lower_hex (b ∷ c ∷ d ∷ e ∷ rest)) all in
    let second = and_parts (is_lower_hex b) (list_all is_lower_hex (c ∷ d ∷ e ∷ rest)) first.1 in
    rw (not_fill a b c d e second.0) refl

fill_again : (limit byte count : ℕ) → limit ≤ 2 ^ 64 → byte < 256 → count < limit → fill_word limit (encode_lower (byte ∷ []) ++ (codes ":" ++ decimal count)) ≡ Some (Fill byte count)
unfolding fill_word encode_with
fill_again limit byte count most small lt =
    let b : byte_word (encode_lower (byte ∷ [])) ≡ Some byte = byte_again byte small in
    rw (b, number_again limit count most lt) refl

pub data_again : (limit : ℕ) (piece : Data) → limit ≤ 2 ^ 64 → CanWrite limit piece → data_word limit (data_text piece) ≡ Some piece
unfolding data_word
data_again limit (Hex bytes) most can = data_is_hex limit (encode_lower bytes) (encoded_lower bytes can.0) ∙ ap (option_map (λ (bytes : List ℕ). Hex bytes)) (hex_again bytes can.0 can.1)
data_again limit (Fill byte count) most can = fill_again limit byte count most can.0 can.1

-- what a word says is printed so
pub record SaysData (limit : ℕ) (word : List ℕ) (piece : Data) : Type 0 where
  pub is : word ≡ data_text piece
  pub can : CanWrite limit piece

hex_piece : (limit : ℕ) (word : List ℕ) (piece : Data) → option_map (λ (bytes : List ℕ). Hex bytes) (hex_word word) ≡ Some piece → SaysData limit word piece
hex_piece limit word piece e =
    let m = map_takes (λ (bytes : List ℕ). Hex bytes) (hex_word word) piece e in
    let h = hex_takes m.0 word m.1 in
    subst (λ (p : Data). SaysData limit word p) m.2 (record { is = h.decoded.is; can = (h.decoded.fits, h.some) })

fill_piece : (limit : ℕ) (rest : List ℕ) (piece : Data) → limit ≤ 2 ^ 64 → fill_word limit rest ≡ Some piece → SaysData limit (codes "fill:" ++ rest) piece
unfolding fill_word
fill_piece limit [] piece most e = absurd cc
fill_piece limit (a ∷ []) piece most e = absurd cc
fill_piece limit (a ∷ b ∷ []) piece most e = absurd cc
fill_piece limit (high ∷ low ∷ colon ∷ count) piece most e =
    let g = guarded_takes _ _ piece e in
    let at : colon ≡ 58 = eqb-true colon 58 g.0 in
    option_and_then_some _ (byte_word (high ∷ low ∷ [])) piece g.1 (λ byte is_byte rest.
    let m = map_takes (λ (n : ℕ). Fill byte n) (number_word limit count) piece rest in
    let b = byte_takes byte (high ∷ low ∷ []) is_byte in
    let n = number_takes limit m.0 count most m.1 in
    let whole : codes "fill:" ++ (high ∷ low ∷ colon ∷ count) ≡ data_text (Fill byte m.0) =
    ap (λ (w : List ℕ). codes "fill:" ++ (w ++ colon ∷ count)) b.is ∙ (λ i. codes "fill:" ++ (encode_lower (byte ∷ []) ++ (at i ∷ n.is i))) in
    subst (λ (p : Data). SaysData limit (codes "fill:" ++ (high ∷ low ∷ colon ∷ count)) p) m.2 (record { is = whole; can = (b.fits, n.fits) }))

pub data_takes : (limit : ℕ) (word : List ℕ) (piece : Data) → limit ≤ 2 ^ 64 → data_word limit word ≡ Some piece → SaysData limit word piece
unfolding data_word
data_takes limit [] piece most e = hex_piece limit _ piece e
data_takes limit (a ∷ []) piece most e = hex_piece limit _ piece e
data_takes limit (a ∷ b ∷ []) piece most e = hex_piece limit _ piece e
data_takes limit (a ∷ b ∷ c ∷ []) piece most e = hex_piece limit _ piece e
data_takes limit (a ∷ b ∷ c ∷ d ∷ []) piece most e = hex_piece limit _ piece e
data_takes limit (a ∷ b ∷ c ∷ d ∷ f ∷ rest) piece most e =
    chosen (bytes_eq (a ∷ b ∷ c ∷ d ∷ f ∷ []) (codes "fill:")) _ _ _ e
    (λ t e.
    let front : a ∷ b ∷ c ∷ d ∷ f ∷ [] ≡ codes "fill:" = is_word_text _ _ t in
    let whole : codes "fill:" ++ rest ≡ a ∷ b ∷ c ∷ d ∷ f ∷ rest = ap (λ (w : List ℕ). w ++ rest) (sym front) in
    subst (λ (w : List ℕ). SaysData limit w piece) whole (fill_piece limit rest piece most e))
    (λ e. hex_piece limit _ piece e)
