-- The parts of a page, one after another.
use Rattle.std.proofs.Common.{◌≡◌, ℕ, zero, suc, ◌+◌, ◌*◌, ◌-◌, ◌<◌, ◌∙◌, List, take, drop, refl, ap, arith, sym, subst, inl, inr}
use Rattle.std.specs.Prelude.{◌⊎◌}
use Rattle.pg_bytes.specs.Counts.{Rose}
use Rattle.pg_pages.specs.Pages.{piece}
use Rattle.pg_pages.proofs.MarkFacts.{same_or}

-- so many bytes from a place on
pub cut : (size at : ℕ) (bytes : List ℕ) → take (at + size - at) (drop at bytes) ≡ take size (drop at bytes)
cut size at bytes = ap (λ n. take n (drop at bytes)) {x = at + size - at} {y = size} (omega arith)

-- the same as a piece of a size that is equal
pub cut_as : (size size' place : ℕ) (bytes : List ℕ) → size ≡ size' → take (place * size + size - place * size) (drop (place * size) bytes) ≡ piece size' place bytes
cut_as size size' place bytes same = cut size (place * size) bytes ∙ ap (λ s. piece s place bytes) same

-- a count that rose once more, or for the first time
pub next_rose : (old now next place : ℕ) → (place ≡ 0 → now ≡ old) → (0 < place → Rose old now) → Rose now next → Rose old next
next_rose old now next zero first before rose = subst (λ n. Rose n next) (first refl) rose
next_rose old now next (suc place) first before rose =
    let b = before (omega arith) in
    record { later = let l = b.later in let r = rose.later in omega arith; counted = let c = b.counted in let l = rose.later in omega arith }

-- equal at one place more
pub more_equal : (one other : ℕ → List ℕ) (place : ℕ) → ((p : ℕ) → p < place → one p ≡ other p) → one place ≡ other place → (p : ℕ) → p < place + 1 → one p ≡ other p
more_equal one other place before here p less = equal_of (same_or p place)
  where
    equal_of : (p ≡ place) ⊎ (p ≡ place → ⊥) → one p ≡ other p
    equal_of (inl same) = ap one same ∙ here ∙ ap other (sym same)
    equal_of (inr apart) = before p (less_of apart)
      where
        less_of : (p ≡ place → ⊥) → p < place
        less_of apart = omega arith
