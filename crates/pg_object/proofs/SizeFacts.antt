-- Sizes of pages.
use Rattle.std.proofs.Common.{◌≡◌, ℕ, ◌+◌, ◌-◌, ◌*◌, ◌/◌, ◌%◌, ◌<◌, ◌≤◌, ◌^◌, arith, inl, inr, sym, subst}
use Rattle.std.specs.Prelude.{◌⊎◌, ◌==◌, IsTrue, Bool, true}
use Rattle.std.specs.Int.{div_ceil}
use Rattle.std.proofs.lemmas.Grind.{common_steps}
use Rattle.pg_bytes.specs.PageSize.{is_page_size}
use Rattle.cs_blob.specs.Signature.{Signature}
use Rattle.pg_plain.specs.Covers.{Fits, first_covered, covers, begins}

pub page_sizes : (size : ℕ) → IsTrue (is_page_size size) → (size ≡ 4096) ⊎ (size ≡ 16384)
page_sizes size known = by_test (size == 4096) (size == 16384) (grind (arith, common_steps)) (grind (arith, common_steps)) (grind (arith, common_steps, known))
  where
    by_test : (a b : Bool) → (a ≡ true → size ≡ 4096) → (b ≡ true → size ≡ 16384) → (a ≡ true) ⊎ (b ≡ true) → (size ≡ 4096) ⊎ (size ≡ 16384)
    by_test a b one other (inl e) = inl (one e)
    by_test a b one other (inr e) = inr (other e)

-- of a size that pages have, what holds of both sizes
pub each_size : (P : ℕ → Type 0) (size : ℕ) → IsTrue (is_page_size size) → P 4096 → P 16384 → P size
each_size P size known small large = by_size (page_sizes size known)
  where
    by_size : (size ≡ 4096) ⊎ (size ≡ 16384) → P size
    by_size (inl e) = subst P (sym e) small
    by_size (inr e) = subst P (sym e) large

pub few_pages : (bytes size : ℕ) → IsTrue (is_page_size size) → bytes < 2 ^ 64 → bytes / size < 2 ^ 52
few_pages bytes size known below = each_size (λ (s : ℕ). bytes / s < 2 ^ 52) size known (omega arith) (omega arith)

pub few_ceil : (bytes size : ℕ) → IsTrue (is_page_size size) → bytes < 2 ^ 64 → div_ceil bytes size ≤ 2 ^ 52
few_ceil bytes size known below = each_size (λ (s : ℕ). div_ceil bytes s ≤ 2 ^ 52) size known (omega arith) (omega arith)

-- ---- a page that a signature covers

-- its place in the slice, counted in pages from the first that is covered
pub begins_is : (size at limit page : ℕ) → IsTrue (is_page_size size) → at % size ≡ 0 → at / size ≤ page → page < at / size + div_ceil limit size
    → ((page - at / size) * size ≡ page * size - at) × ((page - at / size) * size < limit)
begins_is size at limit page known aligned from to =
    each_size (λ (s : ℕ). at % s ≡ 0 → at / s ≤ page → page < at / s + div_ceil limit s → ((page - at / s) * s ≡ page * s - at) × ((page - at / s) * s < limit)) size known
    (λ a f t. (omega arith, omega arith)) (λ a f t. (omega arith, omega arith)) aligned from to

-- the same of the signature, from what is asked of it
pub begins_of : (blob : Signature) (size page first : ℕ) → IsTrue (is_page_size size) → IsTrue (covers size blob page) → Fits size blob → first ≡ first_covered size blob
    → (first ≤ page) × ((page - first) * size ≡ begins size blob page) × ((page - first) * size < blob.best.limit)
begins_of blob size page first known covered fits same =
    let from : blob.slice.at / size ≤ page = grind (arith, common_steps, covered) in
    let to : page < blob.slice.at / size + div_ceil blob.best.limit size = grind (arith, common_steps, covered) in
    let is = begins_is size blob.slice.at blob.best.limit page known fits.aligned from to in
    subst (λ f. (f ≤ page) × ((page - f) * size ≡ begins size blob page) × ((page - f) * size < blob.best.limit)) (sym same) (from, is.0, is.1)
