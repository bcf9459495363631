-- A numeral without leading zeros is how its value is printed, and what is printed is such a numeral.
use Rattle.std.proofs.Common.{codes, inl, inr, ◌≡◌, ◌≢◌, ℕ, zero, suc, ◌+◌, ◌-◌, ◌*◌, ◌^◌, ◌/◌, ◌%◌, ◌<◌, ◌≤◌, cond, eqb, ltb, ◌==◌, Bool, true, false, not, List, [], ◌∷◌, ◌++◌, length, Option, Some, None, refl, ap, sym, ◌∙◌, arith}
use Rattle.std.specs.List.{list_all}
use Rattle.std.specs.Char.{digit_value, is_ascii_digit}
use Rattle.std.specs.Fmt.{digit_glyph, digits_onto, digits, decimal}
use Rattle.std.specs.Str.Parse.{digits_value, digits_value_after}
use Rattle.std.proofs.lemmas.Bool.{not-true, and_parts, and_from, eqb-false, eqb-true, ltb-true, lt-ltb, ne_eqb, cases_lt}
use Rattle.std.proofs.lemmas.Bool.Decides.{nat_tests}
use Rattle.std.proofs.lemmas.Fmt.{digits_is_IsNumeral}
use Rattle.std.proofs.lemmas.List.{append-nil}
use Rattle.std.proofs.lemmas.Slice.Eq.{bytes_eq-Decides}
use Rattle.std.proofs.lemmas.Nat.{div-mul-add, mod-mul-add, div_below, mod_below, div-add-mod'}
use Rattle.std.proofs.Math.Nat.{mul-le-mul_left, mul-le-mul_right, pow-suc, pow-zero, pow-le-pow_right}
use Rattle.pg_words.specs.Numbers.{is_lower_hex, has_lead, is_numeral, below, number_word, hex_number, address_word, address_text}

-- the digits of a base: each that passes the test has a value below the base and is what is printed for it
pub record IsBase (test : ℕ → Bool) (b : ℕ) : Type 0 where
  pub low : 2 ≤ b
  pub high : b ≤ 16
  pub wide : 2 ^ 64 ≤ b ^ 64
  pub small : (c : ℕ) → test c ≡ true → digit_value c < b
  pub printed : (c : ℕ) → test c ≡ true → digit_glyph false (digit_value c) ≡ c
  pub zero_is : (c : ℕ) → test c ≡ true → digit_value c ≡ 0 → c ≡ 48
  pub passes : (d : ℕ) → d < b → test (digit_glyph false d) ≡ true

glyph_some : (d : ℕ) → 0 < d → digit_glyph false d ≢ 48
glyph_some d pos e = absurd (grind (arith, nat_tests))

pub base10 : IsBase is_ascii_digit 10
base10 = record {
  low = omega arith;
  high = omega arith;
  wide = omega arith;
  small = λ c e. grind (arith, nat_tests);
  printed = λ c e. grind (arith, nat_tests);
  zero_is = λ c e z. grind (arith, nat_tests);
  passes = λ d lt. grind (arith, nat_tests);
}

pub base16 : IsBase is_lower_hex 16
base16 = record {
  low = omega arith;
  high = omega arith;
  wide = omega arith;
  small = λ c e. grind (arith, nat_tests);
  printed = λ c e. grind (arith, nat_tests);
  zero_is = λ c e z. grind (arith, nat_tests);
  passes = λ d lt. grind (arith, nat_tests);
}

pub positive : (n : ℕ) → (n ≡ 0 → ⊥) → 0 < n
positive zero apart = absurd (apart refl)
positive (suc n) apart = omega arith

opened : (b n : ℕ) → digits b false n ≡ digits_onto 64 b false n []
unfolding digits
opened b n = refl

-- each digit at least doubles the number
doubled : (n b d p : ℕ) → 2 ≤ b → n * (p * 2) ≤ (n * b + d) * p
doubled n b d p low =
    let one : n * 2 ≤ n * b = mul-le-mul_left n low in
    let two : (n * 2) * p ≤ (n * b + d) * p = mul-le-mul_right p (omega arith) in
    omega (arith, two)

grow : (b n : ℕ) (ds : List ℕ) → 2 ≤ b → n * 2 ^ length ds ≤ digits_value_after b n ds
grow b n [] low = omega (arith, pow-zero 2)
grow b n (c ∷ cs) low =
    let more = grow b (n * b + digit_value c) cs low in
    let step = doubled n b (digit_value c) (2 ^ length cs) low in
    rw (pow-suc 2 (length cs)) (omega (arith, more, step))

-- one step of printing takes the last digit off
taken : (j b n d : ℕ) (acc : List ℕ) → 0 < n → d < b → digits_onto (suc j) b false (n * b + d) acc ≡ digits_onto j b false n (digit_glyph false d ∷ acc)
taken j b n d acc some lt =
    let q : (n * b + d) / b ≡ n = div-mul-add n b d lt in
    let r : (n * b + d) % b ≡ d = mod-mul-add n b d lt in
    let t : eqb n 0 ≡ false = ne_eqb n 0 (λ e. absurd (omega arith)) in
    rw (q, r, t) refl

-- and the last step ends at a number of one digit
ended : (j b d : ℕ) (acc : List ℕ) → d < b → digits_onto (suc j) b false d acc ≡ digit_glyph false d ∷ acc
ended j b d acc lt =
    let q : d / b ≡ 0 = ap (λ (n : ℕ). n / b) {x = d} {y = 0 * b + d} (omega arith) ∙ div-mul-add 0 b d lt in
    let r : d % b ≡ d = ap (λ (n : ℕ). n % b) {x = d} {y = 0 * b + d} (omega arith) ∙ mod-mul-add 0 b d lt in
    rw (q, r) refl

module _ (test : ℕ → Bool) (b : ℕ) (base : IsBase test b) where
  onto : (ds : List ℕ) (k j n : ℕ) (acc : List ℕ) → k ≡ j + length ds → 0 < n → list_all test ds ≡ true
      → digits_onto k b false (digits_value_after b n ds) acc ≡ digits_onto j b false n (ds ++ acc)
  onto [] k j n acc same some all = ap (λ (i : ℕ). digits_onto i b false n acc) {x = k} {y = j} (omega arith)
  onto (c ∷ cs) k j n acc same some all =
      let parts = and_parts (test c) (list_all test cs) all in
      let more : 0 < n * b + digit_value c = omega (arith, mul-le-mul_left n base.low) in
      onto cs k (suc j) (n * b + digit_value c) acc (omega arith) more parts.1
      ∙ taken j b n (digit_value c) (cs ++ acc) some (base.small c parts.0)
      ∙ ap (λ (d : ℕ). digits_onto j b false n (d ∷ (cs ++ acc))) (base.printed c parts.0)

  one_digit : (c : ℕ) → test c ≡ true → digits b false (digits_value b (c ∷ [])) ≡ c ∷ []
  unfolding digits
  one_digit c ok =
      ap (λ (n : ℕ). digits_onto 64 b false n []) {x = 0 * b + digit_value c} {y = digit_value c} (omega arith)
      ∙ ended 63 b (digit_value c) [] (base.small c ok) ∙ ap (λ (d : ℕ). d ∷ []) (base.printed c ok)

  few : (n : ℕ) (ds : List ℕ) → 0 < n → digits_value_after b n ds < 2 ^ 64 → length ds < 64
  few n ds some lt =
      elim (cases_lt (length ds) 64) [
        | inl small ↦ small
        | inr large ↦
            let most : 2 ^ 64 ≤ 2 ^ length ds = pow-le-pow_right {n = 2} (omega arith) large in
            let once : 1 * 2 ^ length ds ≤ n * 2 ^ length ds = mul-le-mul_right (2 ^ length ds) some in
            absurd (omega (arith, grow b n ds base.low, once, most))
      ]

  many_digits : (c d : ℕ) (ds : List ℕ) → (c ≡ 48 → ⊥) → test c ≡ true → list_all test (d ∷ ds) ≡ true → digits_value b (c ∷ d ∷ ds) < 2 ^ 64
      → digits b false (digits_value b (c ∷ d ∷ ds)) ≡ c ∷ d ∷ ds
  many_digits c d ds lead ok all lt =
      let first : 0 * b + digit_value c ≡ digit_value c = omega arith in
      let is : digits_value b (c ∷ d ∷ ds) ≡ digits_value_after b (digit_value c) (d ∷ ds) = ap (λ (n : ℕ). digits_value_after b n (d ∷ ds)) first in
      let some : 0 < digit_value c = positive (digit_value c) (λ z. lead (base.zero_is c ok z)) in
      let room = few (digit_value c) (d ∷ ds) some (rw is at lt) in
      let j = 63 - length (d ∷ ds) in
      opened b (digits_value b (c ∷ d ∷ ds)) ∙ ap (λ (n : ℕ). digits_onto 64 b false n []) is
      ∙ onto (d ∷ ds) 64 (suc j) (digit_value c) [] (omega arith) some all
      ∙ ended j b (digit_value c) ((d ∷ ds) ++ []) (base.small c ok)
      ∙ ap (λ (x : ℕ). x ∷ ((d ∷ ds) ++ [])) (base.printed c ok) ∙ ap (λ (rest : List ℕ). c ∷ rest) (append-nil (d ∷ ds))

  -- a numeral is how its value is printed
  pub numeral_printed : (word : List ℕ) → is_numeral test word ≡ true → digits_value b word < 2 ^ 64 → digits b false (digits_value b word) ≡ word
  numeral_printed [] e lt = absurd cc
  numeral_printed (c ∷ []) e lt = one_digit c (and_parts (test c) true e).0
  numeral_printed (c ∷ d ∷ ds) e lt =
      let parts = and_parts (not (c == 48)) (list_all test (c ∷ d ∷ ds)) e in
      let more = and_parts (test c) (list_all test (d ∷ ds)) parts.1 in
      many_digits c d ds (eqb-false c 48 (not-true (c == 48) parts.0)) more.0 more.1 lt

  onto_all : (k n : ℕ) (acc : List ℕ) → list_all test acc ≡ true → list_all test (digits_onto k b false n acc) ≡ true
  onto_all zero n acc all = all
  onto_all (suc k) n acc all =
      let some : 0 < b = omega (arith, base.low) in
      let first = base.passes (n % b) (mod_below n b some) in
      let with_first : list_all test (digit_glyph false (n % b) ∷ acc) ≡ true = and_from _ _ first all in
      either (n / b == 0) _ _ with_first (onto_all k (n / b) (digit_glyph false (n % b) ∷ acc) with_first)
    where
      either : (t : Bool) (xs ys : List ℕ) → list_all test xs ≡ true → list_all test ys ≡ true → list_all test (cond t xs ys) ≡ true
      either true xs ys p q = p
      either false xs ys p q = q

  -- the first digit of a number above 0 is none
  abbrev pub Leads : List ℕ → Type 0
  Leads ds = (c : ℕ) × (rest : List ℕ) × (ds ≡ c ∷ rest) × (c ≡ 48 → ⊥)

  onto_leads : (k n : ℕ) (acc : List ℕ) → 0 < n → n < b ^ k → Leads (digits_onto k b false n acc)
  onto_leads zero n acc some lt = absurd (omega (arith, pow-zero b))
  onto_leads (suc k) n acc some lt =
      by (n / b == 0) refl (λ more. onto_leads k (n / b) (digit_glyph false (n % b) ∷ acc) more (div_below n b (b ^ k) (omega (arith, base.low)) (rw (pow-suc b k) at lt)))
    where
      by : (t : Bool) → (n / b == 0) ≡ t → (0 < n / b → Leads (digits_onto k b false (n / b) (digit_glyph false (n % b) ∷ acc))) → Leads (cond t (digit_glyph false (n % b) ∷ acc) (digits_onto k b false (n / b) (digit_glyph false (n % b) ∷ acc)))
      by true e more =
          let z : n / b ≡ 0 = eqb-true (n / b) 0 e in
          let whole : 0 * b + n % b ≡ n = ap (λ (q : ℕ). q * b + n % b) (sym z) ∙ div-add-mod' n b in
          (digit_glyph false (n % b), acc, refl, glyph_some (n % b) (omega arith))
      by false e more = more (positive (n / b) (eqb-false (n / b) 0 e))

  lead_true : (ds : List ℕ) → Leads ds → has_lead ds ≡ true
  lead_true ds (c, [], e, apart) = ap has_lead e
  lead_true ds (c, d ∷ rest, e, apart) = ap has_lead e ∙ ap not (ne_eqb c 48 apart)

  -- and what is printed is a numeral of the number
  pub printed_numeral : (n : ℕ) → n < 2 ^ 64 → is_numeral test (digits b false n) ≡ true
  printed_numeral n lt = and_from _ _ (lead n lt) (rw (opened b n) (onto_all 64 n [] refl))
    where
      lead : (n : ℕ) → n < 2 ^ 64 → has_lead (digits b false n) ≡ true
      lead zero lt = rw (opened b 0, ended 63 b 0 [] (omega (arith, base.low))) refl
      lead (suc n) lt = rw (opened b (suc n)) (lead_true _ (onto_leads 64 (suc n) [] (omega arith) (omega (arith, base.wide))))

  pub printed_value : (n : ℕ) → n < 2 ^ 64 → digits_value b (digits b false n) ≡ n
  printed_value n lt = (digits_is_IsNumeral b false base.low base.high n (omega (arith, base.wide))).1

-- a number below a limit, read again
pub below_again : (limit n : ℕ) → n < limit → below limit n ≡ Some n
below_again limit n lt = rw (lt-ltb n limit lt) refl

pub below_takes : (limit n m : ℕ) → below limit n ≡ Some m → (n ≡ m) × (m < limit)
below_takes limit n m e = by (ltb n limit) refl e
  where
    by : (t : Bool) → ltb n limit ≡ t → cond t (Some n) None ≡ Some m → (n ≡ m) × (m < limit)
    by true lt e = let same : n ≡ m = cc in (same, omega (arith, ltb-true n limit lt))
    by false ge e = absurd cc

-- a test in front of a value, both ways
pub guarded_again : {A : Type 0} (t : Bool) (o : Option A) (x : A) → t ≡ true → o ≡ Some x → cond t o None ≡ Some x
guarded_again true o x e is = is
guarded_again false o x e is = absurd cc

pub guarded_takes : {A : Type 0} (t : Bool) (o : Option A) (x : A) → cond t o None ≡ Some x → (t ≡ true) × (o ≡ Some x)
guarded_takes true o x e = (refl, e)
guarded_takes false o x e = absurd cc

-- what a word says is how it is printed
pub record Says (word text : List ℕ) (n limit : ℕ) : Type 0 where
  pub is : word ≡ text
  pub fits : n < limit

pub number_again : (limit n : ℕ) → limit ≤ 2 ^ 64 → n < limit → number_word limit (decimal n) ≡ Some n
unfolding number_word
number_again limit n most lt =
    let small : n < 2 ^ 64 = omega arith in
    guarded_again _ _ n (printed_numeral is_ascii_digit 10 base10 n small)
    (ap (below limit) (printed_value is_ascii_digit 10 base10 n small) ∙ below_again limit n lt)

pub number_takes : (limit n : ℕ) (word : List ℕ) → limit ≤ 2 ^ 64 → number_word limit word ≡ Some n → Says word (decimal n) n limit
unfolding number_word
number_takes limit n word most e =
    let g = guarded_takes _ _ n e in
    let b = below_takes limit (digits_value 10 word) n g.1 in
    let same = numeral_printed is_ascii_digit 10 base10 word g.0 (omega (arith, b.1)) in
    record { is = sym same ∙ ap decimal b.0; fits = b.1 }

pub hex_again : (limit n : ℕ) → limit ≤ 2 ^ 64 → n < limit → hex_number limit (digits 16 false n) ≡ Some n
unfolding hex_number
hex_again limit n most lt =
    let small : n < 2 ^ 64 = omega arith in
    guarded_again _ _ n (printed_numeral is_lower_hex 16 base16 n small)
    (ap (below limit) (printed_value is_lower_hex 16 base16 n small) ∙ below_again limit n lt)

pub hex_takes : (limit n : ℕ) (word : List ℕ) → limit ≤ 2 ^ 64 → hex_number limit word ≡ Some n → Says word (digits 16 false n) n limit
unfolding hex_number
hex_takes limit n word most e =
    let g = guarded_takes _ _ n e in
    let b = below_takes limit (digits_value 16 word) n g.1 in
    let same = numeral_printed is_lower_hex 16 base16 word g.0 (omega (arith, b.1)) in
    record { is = sym same ∙ ap (digits 16 false) b.0; fits = b.1 }

pub address_again : (limit addr : ℕ) → limit ≤ 2 ^ 64 → addr < limit → address_word limit (address_text addr) ≡ Some addr
unfolding address_word
address_again limit addr most lt = hex_again limit addr most lt

pub address_takes : (limit addr : ℕ) (word : List ℕ) → limit ≤ 2 ^ 64 → address_word limit word ≡ Some addr → Says word (address_text addr) addr limit
unfolding address_word
address_takes limit addr [] most e = absurd cc
address_takes limit addr (c ∷ []) most e = absurd cc
address_takes limit addr (c ∷ d ∷ word) most e =
    let g = guarded_takes _ _ addr e in
    let front : c ∷ d ∷ [] ≡ codes "0x" = (bytes_eq-Decides (c ∷ d ∷ []) (codes "0x")).0 g.0 in
    let h = hex_takes limit addr word most g.1 in
    record { is = ap (λ (f : List ℕ). f ++ word) front ∙ ap (λ (w : List ℕ). codes "0x" ++ w) h.is; fits = h.fits }
