-- What the first bytes of a file tell of all of it.
use Rattle.std.proofs.Common.{◌≡◌, ℕ, zero, suc, ◌+◌, ◌*◌, ◌<◌, ◌≤◌, cond, Bool, true, false, ltb, not, eqb, List, length, take, drop, Some, None, refl, ap, sym, ◌∙◌, arith}
use Rattle.std.specs.Prelude.{◌||◌}
use Rattle.std.proofs.lemmas.List.{length-take-le, take_all, drop-take, get_or-take}
use Rattle.std.proofs.lemmas.Bool.{lt-ltb, ne_eqb}
use Rattle.std.proofs.lemmas.Bool.Decides.{nat_tests}
use Rattle.pg_bytes.specs.declared.status.Status.TheVariants.{Limit}
use Rattle.pg_bytes.specs.declared.status.Which.TheVariants.{FileBytes}
use Rattle.pg_bytes.specs.Fields.{le32_at}
use Rattle.pg_bytes.specs.Rules.{first}
use Rattle.pg_bytes.proofs.RuleFacts.{first-append-broken}
use Rattle.byteorder.specs.Endian.{little_from, little_number}
use Rattle.cs_policy.specs.declared.layout.Layout.{Layout}
use Rattle.cs_trust.specs.declared.refusal.TrustRefusal.{TrustRefusal}
use Rattle.cs_trust.specs.declared.refusal.TrustRefusal.TheVariants.{Version, TooMany, LengthBad}
use Rattle.cs_trust.specs.Order.{cdhashes_of}
use Rattle.cs_trust.specs.Layout.{version, count, entry_place, entries}
use Rattle.cs_trust.specs.Rules as trust
use Rattle.cs_trust.specs.Rules.{frame_rules, order_rules}
use Rattle.scene_open.specs.Items.{file_end}

-- The first bytes are all bytes, or there are more of both than so many.
pub data IsCut (most : ℕ) (whole bytes : List ℕ) : Type 0 where
  is_all : bytes ≡ whole → IsCut most whole bytes
  is_longer : most < length bytes → most < length whole → IsCut most whole bytes

pub cut : (most : ℕ) (whole bytes : List ℕ) → bytes ≡ take (most + 1) whole → IsCut most whole bytes
cut most whole bytes is = by (ltb most (length whole)) refl
  where
    by : (t : Bool) → ltb most (length whole) ≡ t → IsCut most whole bytes
    by true long =
        let more : most < length whole = grind (arith, nat_tests) in
        let many = ap length is ∙ length-take-le (most + 1) whole (omega arith) in
        is_longer (omega arith) more
    by false short = let few : length whole ≤ most + 1 = grind (arith, nat_tests) in is_all (is ∙ take_all (most + 1) whole few)

-- ---- a file's limit

pub long_file : (bytes : List ℕ) (layout : Layout) → 67108864 < length bytes → file_end bytes layout ≡ Some (Limit FileBytes 67108864)
long_file bytes layout long = rw (lt-ltb 67108864 (length bytes) long) refl

-- ---- a trust cache

little-take : (i k m : ℕ) (bytes : List ℕ) → i + k ≤ m → little_from i k (take m bytes) ≡ little_from i k bytes
little-take i zero m bytes fits = refl
little-take i (suc k) m bytes fits =
    (λ j. get_or-take m bytes i 0 (omega arith) j + 256 * little-take (suc i) k m bytes (omega arith) j)

field-take : (at j : ℕ) (bytes : List ℕ) → le32_at (take (at + (4 + j)) bytes) at ≡ le32_at bytes at
unfolding le32_at
field-take at j bytes = ap (little_number 4) (drop-take at (4 + j) bytes) ∙ little-take 0 4 (4 + j) (drop at bytes) (omega arith)

-- the refusal by the header, of any bytes that are so long
abbrev header_refusal : ℕ → ℕ → TrustRefusal
header_refusal v c = cond (not (eqb v 1 || eqb v 2)) (Version v) (cond (ltb 65536 c) TooMany LengthBad)

place_below : (v c : ℕ) → c ≤ 65536 → entry_place v c ≤ 1572888
place_below v c few = by (eqb v 2)
  where
    by : (t : Bool) → cond t (24 + 24 * c) (24 + 22 * c) ≤ 1572888
    by true = omega arith
    by false = omega arith

framed : (bytes : List ℕ) → 1572888 < length bytes → first (frame_rules bytes) ≡ Some (header_refusal (version bytes) (count bytes))
framed bytes long = by (not (eqb (version bytes) 1 || eqb (version bytes) 2)) refl (ltb 65536 (count bytes)) refl
  where
    short : ltb (length bytes) 24 ≡ false
    short = grind (arith, nat_tests)

    by : (a : Bool) → not (eqb (version bytes) 1 || eqb (version bytes) 2) ≡ a → (b : Bool) → ltb 65536 (count bytes) ≡ b
        → first (frame_rules bytes) ≡ Some (cond a (Version (version bytes)) (cond b TooMany LengthBad))
    by true is b few = rw (short, is) refl
    by false is true many = rw (short, is, many) refl
    by false is false few =
        let below = place_below (version bytes) (count bytes) (grind (arith, nat_tests)) in
        let other : eqb (length bytes) (entry_place (version bytes) (count bytes)) ≡ false = ne_eqb _ _ (λ same. omega arith) in
        rw (short, is, few, other) refl

broken_long : (bytes : List ℕ) → 1572888 < length bytes → trust.broken bytes ≡ Some (header_refusal (version bytes) (count bytes))
unfolding trust.broken
broken_long bytes long = first-append-broken (frame_rules bytes) (order_rules (cdhashes_of (entries bytes))) _ (framed bytes long)

-- the first bytes of a trust cache break the same rule as all of it
pub broken_cut : (whole bytes : List ℕ) → bytes ≡ take 1572889 whole → trust.broken bytes ≡ trust.broken whole
broken_cut whole bytes is = by (cut 1572888 whole bytes is)
  where
    by : IsCut 1572888 whole bytes → trust.broken bytes ≡ trust.broken whole
    by (is_all same) = ap trust.broken same
    by (is_longer long longer) =
        let v : version bytes ≡ version whole = ap (λ (b : List ℕ). le32_at b 0) is ∙ field-take 0 1572885 whole in
        let c : count bytes ≡ count whole = ap (λ (b : List ℕ). le32_at b 20) is ∙ field-take 20 1572865 whole in
        broken_long bytes long ∙ (λ i. Some (header_refusal (v i) (c i))) ∙ sym (broken_long whole longer)

-- an accepted one is whole
pub accepted_whole : (whole bytes : List ℕ) → bytes ≡ take 1572889 whole → trust.broken bytes ≡ None → bytes ≡ whole
accepted_whole whole bytes is accepted = by (cut 1572888 whole bytes is)
  where
    by : IsCut 1572888 whole bytes → bytes ≡ whole
    by (is_all same) = same
    by (is_longer long longer) = let e = sym accepted ∙ broken_long bytes long in absurd cc
