-- The sizes that pages have, one by one.
use Rattle.std.proofs.Common.{◌≡◌, ℕ, ◌<◌, ◌⊎◌, ◌==◌, ◌||◌, Bool, true, false, refl, inl, inr, arith}
use Rattle.std.proofs.lemmas.Bool.Decides.{nat_tests}
use Rattle.pg_bytes.specs.PageSize.{IsPageSize}

-- a page has one of the two sizes
pub page_sizes : (size : ℕ) → IsPageSize size → (size ≡ 4096) ⊎ (size ≡ 16384)
page_sizes size known = by_first (size == 4096) refl known
  where
    by_first : (b : Bool) → (size == 4096) ≡ b → (b || size == 16384) ≡ true → (size ≡ 4096) ⊎ (size ≡ 16384)
    by_first true small rest = inl (grind (arith, nat_tests))
    by_first false other rest = inr (grind (arith, nat_tests))

-- a page has some bytes
pub some_page : (size : ℕ) → IsPageSize size → 0 < size
some_page size known = grind (arith, nat_tests)
