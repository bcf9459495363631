-- A word as it is printed says what is printed.
use Rattle.std.proofs.Common.{codes, None, ◌≡◌, ℕ, zero, suc, ◌/◌, ◌^◌, ◌<◌, ◌≤◌, ◌==◌, Bool, true, false, List, [], ◌∷◌, ◌++◌, length, Some, refl, ap, sym, ◌∙◌, arith, All}
use Rattle.std.specs.List.{list_all, slice_split}
use Rattle.std.specs.Char.{is_ascii_digit, is_ascii_graphic}
use Rattle.std.specs.Fmt.{decimal}
use Rattle.std.proofs.lemmas.Bool.{and_parts, eqb-true, le-leb}
use Rattle.std.proofs.lemmas.List.Splits.{slice_split_none, slice_split_at}
use Rattle.std.proofs.lemmas.List.Elements.{All-cons, All-nil}
use Rattle.std.proofs.lemmas.Nat.{mod_below}
use Rattle.std.specs.Int.{to_be_bytes}
use Rattle.std.specs.Int.{w32}
use Rattle.hex.specs.Hex.{IsBytes, encode_lower}
use Rattle.cs_policy.specs.declared.entry.Place.{Place}
use Rattle.cs_policy.specs.declared.entry.Place.TheVariants as place
use Rattle.cs_policy.specs.declared.entry.Who.{Who}
use Rattle.cs_policy.specs.declared.flags.ProcFlags.{ProcFlags}
use Rattle.cs_policy.specs.ProcFlags.{number_of}
use Rattle.cs_policy.specs.declared.refusal.Refusal.{Refusal}
use Rattle.cs_policy.specs.Refusal.{family_name, refusal_text}
use Rattle.pg_words.specs.Numbers.{address_text, has_lead}
use Rattle.pg_words.specs.Digits.{flags_text}
use Rattle.pg_words.specs.Names.{name_word, file_text, process_text, cache_text}
use Rattle.pg_words.specs.Lines.{is_word}
use Rattle.pg_words.proofs.PlainFacts.{decimal_is_word, hex_is_word}
use Rattle.pg_words.proofs.LineFacts.{list_all-append}
use Rattle.pg_words.proofs.NumeralFacts.{number_again, address_again, base10, printed_numeral}
use Rattle.pg_words.proofs.NameFacts.{name_again}
use Rattle.pg_words.proofs.HexFacts.{hex_again, bytes_again, flags_again}
use Rattle.pg_report.specs.Forms.{stamp_text, who_text, place_text}
use Rattle.pg_report.specs.Fits.{PlaceFits, RefusalFits, FewBytes, IsCdhash}
use Rattle.pg_report.specs.Forms.{long, short, tiny, file_form, process_form, cache_form, address_form, stamp_form, cdhash_form, flags_form, few_bytes, place_form, who_form, family_form, refusal_form}

pub long_again : (n : ℕ) → n < 2 ^ 64 → long (decimal n) ≡ Some n
long_again n lt = number_again (2 ^ 64) n (omega arith) lt

pub short_again : (n : ℕ) → n < 2 ^ 32 → short (decimal n) ≡ Some n
short_again n lt = number_again (2 ^ 32) n (omega arith) lt

pub tiny_again : (n : ℕ) → n < 2 ^ 8 → tiny (decimal n) ≡ Some n
tiny_again n lt = number_again (2 ^ 8) n (omega arith) lt

pub file_again : (n : ℕ) → n < 2 ^ 32 → file_form (file_text n) ≡ Some n
file_again n lt = name_again (2 ^ 32) 102 n (omega arith) lt

pub process_again : (n : ℕ) → n < 2 ^ 32 → process_form (process_text n) ≡ Some n
process_again n lt = name_again (2 ^ 32) 112 n (omega arith) lt

pub cache_again : (n : ℕ) → n < 2 ^ 32 → cache_form (cache_text n) ≡ Some n
cache_again n lt = name_again (2 ^ 32) 99 n (omega arith) lt

pub stamp_again : (n : ℕ) → n < 2 ^ 64 → stamp_form (stamp_text n) ≡ Some n
stamp_again n lt = name_again (2 ^ 64) 64 n (omega arith) lt

pub addr_again : (a : ℕ) → a < 2 ^ 64 → address_form (address_text a) ≡ Some a
addr_again a lt = address_again (2 ^ 64) a (omega arith) lt

pub cdhash_again : (bytes : List ℕ) → IsCdhash bytes → cdhash_form (encode_lower bytes) ≡ Some bytes
cdhash_again bytes f = bytes_again 20 bytes f.are f.count

pub few_again : (most : ℕ) (bytes : List ℕ) → FewBytes most bytes → few_bytes most (encode_lower bytes) ≡ Some bytes
unfolding few_bytes
few_again most bytes f = rw (hex_again bytes f.are f.some, le-leb (length bytes) most f.few) refl

trust_named : place_form (codes "t") ≡ Some place.Trust
unfolding place_form name_word
trust_named = refl

file_no_process : (n : ℕ) → file_form (process_text n) ≡ None
unfolding name_word
file_no_process n = refl

pub place_again : (p : Place) → PlaceFits p → place_form (place_text p) ≡ Some p
unfolding place_form
place_again (place.File f) lt = rw (file_again f lt) refl
place_again (place.Process p) lt = rw (file_no_process p, process_again p lt) refl
place_again place.Trust lt = trust_named

pub flag_again : (f : ProcFlags) → number_of f < 2 ^ 32 → flags_form (flags_text (number_of f)) ≡ Some f
flag_again f lt = rw (flags_again (number_of f) lt) refl

-- ---- parts with a mark between them

clash : true ≡ false → ⊥
clash e = absurd cc

apart_digit : (mark : ℕ) → is_ascii_digit mark ≡ false → (c : ℕ) → is_ascii_digit c ≡ true → (c == mark) ≡ false
apart_digit mark other c e0 = by (c == mark) refl
  where
    by : (t : Bool) → (c == mark) ≡ t → (c == mark) ≡ false
    by false e = e
    by true e = absurd (clash (sym e0 ∙ ap is_ascii_digit (eqb-true c mark e) ∙ other))

all_apart : (mark : ℕ) → is_ascii_digit mark ≡ false → (xs : List ℕ) → list_all is_ascii_digit xs ≡ true → All (λ x. (x == mark) ≡ false) xs
all_apart mark other [] all = All-nil (λ x. (x == mark) ≡ false)
all_apart mark other (x ∷ xs) all =
    let parts = and_parts (is_ascii_digit x) (list_all is_ascii_digit xs) all in
    All-cons (λ x. (x == mark) ≡ false) x xs (apart_digit mark other x parts.0) (all_apart mark other xs parts.1)

pub number_apart : (mark n : ℕ) → is_ascii_digit mark ≡ false → n < 2 ^ 64 → All (λ x. (x == mark) ≡ false) (decimal n)
number_apart mark n other lt = all_apart mark other (decimal n) (and_parts (has_lead (decimal n)) (list_all is_ascii_digit (decimal n)) (printed_numeral is_ascii_digit 10 base10 n lt)).1

pub last_part : (n : ℕ) → n < 2 ^ 64 → slice_split (λ b. b == 46) (decimal n) ≡ decimal n ∷ []
last_part n lt = slice_split_none (λ b. b == 46) (decimal n) (number_apart 46 n refl lt)

pub next_part : (n : ℕ) (rest : List ℕ) → n < 2 ^ 64 → slice_split (λ b. b == 46) (decimal n ++ 46 ∷ rest) ≡ decimal n ∷ slice_split (λ b. b == 46) rest
next_part n rest lt = slice_split_at (λ b. b == 46) (decimal n) 46 rest (number_apart 46 n refl lt) refl

who_parts : (w : Who) → w.worker < 2 ^ 32 → w.call < 2 ^ 32 → slice_split (λ b. b == 46) (who_text w) ≡ decimal w.worker ∷ decimal w.call ∷ []
who_parts w a b = next_part w.worker (decimal w.call) (omega arith) ∙ ap (λ (r : List (List ℕ)). decimal w.worker ∷ r) (last_part w.call (omega arith))

pub who_again : (w : Who) → w.worker < 2 ^ 32 → w.call < 2 ^ 32 → who_form (who_text w) ≡ Some w
unfolding who_form
who_again w a b = rw (who_parts w a b, short_again w.worker a, short_again w.call b) refl

name_parts : (family : ℕ) (rest : List ℕ) → 1 ≤ family → family ≤ 6 → slice_split (λ b. b == 46) (family_name family ++ 46 ∷ rest) ≡ family_name family ∷ slice_split (λ b. b == 46) rest
unfolding family_name
name_parts zero rest ge le = absurd (omega arith)
name_parts (suc zero) rest ge le = refl
name_parts (suc (suc zero)) rest ge le = refl
name_parts (suc (suc (suc zero))) rest ge le = refl
name_parts (suc (suc (suc (suc zero)))) rest ge le = refl
name_parts (suc (suc (suc (suc (suc zero))))) rest ge le = refl
name_parts (suc (suc (suc (suc (suc (suc zero)))))) rest ge le = refl
name_parts (suc (suc (suc (suc (suc (suc (suc n))))))) rest ge le = absurd (omega arith)

family_again : (family : ℕ) → 1 ≤ family → family ≤ 6 → family_form (family_name family) ≡ Some family
unfolding family_name family_form
family_again zero ge le = absurd (omega arith)
family_again (suc zero) ge le = refl
family_again (suc (suc zero)) ge le = refl
family_again (suc (suc (suc zero))) ge le = refl
family_again (suc (suc (suc (suc zero)))) ge le = refl
family_again (suc (suc (suc (suc (suc zero))))) ge le = refl
family_again (suc (suc (suc (suc (suc (suc zero)))))) ge le = refl
family_again (suc (suc (suc (suc (suc (suc (suc n))))))) ge le = absurd (omega arith)

refusal_parts : (r : Refusal) → RefusalFits r → slice_split (λ b. b == 46) (refusal_text r) ≡ family_name r.family ∷ decimal r.number ∷ decimal r.a ∷ decimal r.b ∷ []
refusal_parts r f =
    name_parts r.family _ f.family f.named
    ∙ ap (λ (x : List (List ℕ)). family_name r.family ∷ x)
    (next_part r.number _ (let lt = f.number in omega arith)
    ∙ ap (λ (x : List (List ℕ)). decimal r.number ∷ x)
    (next_part r.a _ f.a ∙ ap (λ (x : List (List ℕ)). decimal r.a ∷ x) (last_part r.b f.b)))

pub refusal_again : (r : Refusal) → RefusalFits r → refusal_form (refusal_text r) ≡ Some r
unfolding refusal_form
refusal_again r f = rw (refusal_parts r f, family_again r.family f.family f.named, tiny_again r.number f.number, long_again r.a f.a, long_again r.b f.b) refl

-- ---- words

pub flags_is_word : (flags : ℕ) → flags < 2 ^ 32 → is_word (flags_text flags) ≡ true
flags_is_word flags lt = hex_is_word (to_be_bytes w32 flags) (four flags)
  where
    four : (n : ℕ) → IsBytes (to_be_bytes w32 n)
    four n zero = mod_below (n / 16777216) 256 (omega arith)
    four n (suc zero) = mod_below (n / 65536) 256 (omega arith)
    four n (suc (suc zero)) = mod_below (n / 256) 256 (omega arith)
    four n (suc (suc (suc zero))) = mod_below n 256 (omega arith)
    four n (suc (suc (suc (suc i)))) = omega arith

name_is_word : (family : ℕ) → 1 ≤ family → family ≤ 6 → is_word (family_name family) ≡ true
unfolding family_name
name_is_word zero ge le = absurd (omega arith)
name_is_word (suc zero) ge le = refl
name_is_word (suc (suc zero)) ge le = refl
name_is_word (suc (suc (suc zero))) ge le = refl
name_is_word (suc (suc (suc (suc zero)))) ge le = refl
name_is_word (suc (suc (suc (suc (suc zero))))) ge le = refl
name_is_word (suc (suc (suc (suc (suc (suc zero)))))) ge le = refl
name_is_word (suc (suc (suc (suc (suc (suc (suc n))))))) ge le = absurd (omega arith)

-- two parts with a point between them
joined_word : (a b : List ℕ) → is_word a ≡ true → is_word b ≡ true → is_word (a ++ 46 ∷ b) ≡ true
joined_word a b x y = list_all-append is_ascii_graphic a (46 ∷ b) x y

pub refusal_is_word : (r : Refusal) → RefusalFits r → is_word (refusal_text r) ≡ true
refusal_is_word r f =
    joined_word (family_name r.family) _ (name_is_word r.family f.family f.named)
    (joined_word (decimal r.number) _ (decimal_is_word r.number (let lt = f.number in omega arith))
    (joined_word (decimal r.a) (decimal r.b) (decimal_is_word r.a f.a) (decimal_is_word r.b f.b)))

pub who_is_word : (w : Who) → w.worker < 2 ^ 32 → w.call < 2 ^ 32 → is_word (who_text w) ≡ true
who_is_word w a b = joined_word (decimal w.worker) (decimal w.call) (decimal_is_word w.worker (omega arith)) (decimal_is_word w.call (omega arith))

pub place_is_word : (p : Place) → PlaceFits p → is_word (place_text p) ≡ true
place_is_word (place.File f) lt = decimal_is_word f (omega arith)
place_is_word (place.Process p) lt = decimal_is_word p (omega arith)
place_is_word place.Trust lt = refl
