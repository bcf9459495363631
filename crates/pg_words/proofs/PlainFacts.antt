-- What is printed for each kind of word is a word.
use Rattle.std.proofs.Common.{◌≡◌, ℕ, ◌^◌, ◌<◌, ◌≤◌, Bool, true, false, List, [], ◌∷◌, ◌++◌, codes, refl, arith}
use Rattle.std.specs.List.{list_all}
use Rattle.std.specs.Char.{is_ascii_graphic, is_ascii_digit}
use Rattle.std.specs.Fmt.{decimal, digits}
use Rattle.std.proofs.lemmas.Bool.{and_parts}
use Rattle.std.proofs.lemmas.Bool.Decides.{nat_tests}
use Rattle.hex.specs.Hex.{IsBytes, encode_lower}
use Rattle.cs_policy.specs.declared.access.Access.{Access}
use Rattle.cs_policy.specs.declared.access.Access.TheVariants.{Read, Write, Execute}
use Rattle.cs_policy.specs.declared.access.Prot.{Prot}
use Rattle.cs_policy.specs.declared.access.Prot.TheVariants.{R, RW, RX, RWX}
use Rattle.cs_policy.specs.declared.data.Data.{Data}
use Rattle.cs_policy.specs.declared.data.Data.TheVariants.{Hex, Fill}
use Rattle.pg_words.specs.Numbers.{is_lower_hex, has_lead, address_text}
use Rattle.pg_words.specs.Names.{prot_text, share_text, access_text}
use Rattle.pg_words.specs.Data.{data_text, CanWrite}
use Rattle.pg_words.specs.Lines.{is_word}
use Rattle.pg_words.proofs.NumeralFacts.{base10, base16, printed_numeral}
use Rattle.pg_words.proofs.HexFacts.{encoded_lower, more_bytes, no_bytes}
use Rattle.pg_words.proofs.LineFacts.{list_all-weaker, list_all-append}

digit_graphic : (c : ℕ) → is_ascii_digit c ≡ true → is_ascii_graphic c ≡ true
digit_graphic c e = grind (arith, nat_tests)

hex_graphic : (c : ℕ) → is_lower_hex c ≡ true → is_ascii_graphic c ≡ true
hex_graphic c e = grind (arith, nat_tests)

pub decimal_is_word : (n : ℕ) → n < 2 ^ 64 → is_word (decimal n) ≡ true
decimal_is_word n lt =
    list_all-weaker is_ascii_digit is_ascii_graphic digit_graphic (decimal n) (and_parts (has_lead (decimal n)) (list_all is_ascii_digit (decimal n)) (printed_numeral is_ascii_digit 10 base10 n lt)).1

pub address_is_word : (addr : ℕ) → addr < 2 ^ 64 → is_word (address_text addr) ≡ true
address_is_word addr lt =
    list_all-weaker is_lower_hex is_ascii_graphic hex_graphic (digits 16 false addr) (and_parts (has_lead (digits 16 false addr)) (list_all is_lower_hex (digits 16 false addr)) (printed_numeral is_lower_hex 16 base16 addr lt)).1

pub hex_is_word : (bytes : List ℕ) → IsBytes bytes → is_word (encode_lower bytes) ≡ true
hex_is_word bytes fits = list_all-weaker is_lower_hex is_ascii_graphic hex_graphic (encode_lower bytes) (encoded_lower bytes fits)

pub prot_is_word : (prot : Prot) → is_word (prot_text prot) ≡ true
prot_is_word R = refl
prot_is_word RW = refl
prot_is_word RX = refl
prot_is_word RWX = refl

pub share_is_word : (shared : Bool) → is_word (share_text shared) ≡ true
share_is_word true = refl
share_is_word false = refl

pub access_is_word : (access : Access) → is_word (access_text access) ≡ true
access_is_word Read = refl
access_is_word Write = refl
access_is_word Execute = refl

pub data_is_word : (limit : ℕ) (piece : Data) → limit ≤ 2 ^ 64 → CanWrite limit piece → is_word (data_text piece) ≡ true
data_is_word limit (Hex bytes) most can = hex_is_word bytes can.0
data_is_word limit (Fill byte count) most can =
    list_all-append is_ascii_graphic (encode_lower (byte ∷ [])) (codes ":" ++ decimal count) (hex_is_word (byte ∷ []) (more_bytes byte [] can.0 no_bytes))
    (decimal_is_word count (omega (arith, can.1)))
