-- What holds of each element of a list by its place.
use Rattle.std.proofs.Common.{◌≡◌, ℕ, zero, suc, ◌+◌, ◌<◌, List, [], ◌∷◌, ◌++◌, length, take, drop, subst, refl, sym, ap, ◌∙◌, arith}
use Rattle.std.specs.Prelude.{slice_index_or}
use Rattle.pg_book.specs.Opening.{EachFrom}
use Rattle.pg_book.proofs.Placing.{each_at}

module _ {A : Type 0} (P : ℕ → A → Type 0) where
  by_index : (n : ℕ) (xs : List A) → ((i : ℕ) (d : A) → i < length xs → P (n + i) (slice_index_or xs i d)) → EachFrom P n xs
  by_index n [] all = tt
  by_index n (x ∷ xs) all =
      let first : n + 0 ≡ n = omega arith in (
        subst (λ k. P k x) first (all 0 x (omega arith)),
        by_index (suc n) xs (λ i d lt.
            let next : n + suc i ≡ suc n + i = omega arith in
            subst (λ k. P k (slice_index_or xs i d)) next (all (suc i) d (omega (arith, lt)))),
      )

  at_index : (n : ℕ) (xs : List A) → EachFrom P n xs → (i : ℕ) (d : A) → i < length xs → P (n + i) (slice_index_or xs i d)
  at_index n [] each i d lt = absurd (omega (arith, lt))
  at_index n (x ∷ xs) each zero d lt =
      let first : n ≡ n + 0 = omega arith in
      subst (λ k. P k x) first each.0
  at_index n (x ∷ xs) each (suc i) d lt =
      let next : suc n + i ≡ n + suc i = omega arith in
      subst (λ k. P k (slice_index_or xs i d)) next (at_index (suc n) xs each.1 i d (omega (arith, lt)))

  pub each-of : (xs : List A) → ((i : ℕ) (d : A) → i < length xs → P i (slice_index_or xs i d)) → EachFrom P 0 xs
  each-of xs all = by_index 0 xs (λ i d lt.
      let same : i ≡ 0 + i = omega arith in
      subst (λ k. P k (slice_index_or xs i d)) same (all i d lt))

  pub each-here : (xs : List A) → EachFrom P 0 xs → (i : ℕ) (d : A) → i < length xs → P i (slice_index_or xs i d)
  each-here xs each i d lt =
      let same : 0 + i ≡ i = omega arith in
      subst (λ k. P k (slice_index_or xs i d)) same (at_index 0 xs each i d lt)

  -- the element that a loop has come to
  pub here-of : (yielded : List A) (x : A) (others rest all : List A) → rest ≡ x ∷ others → yielded ++ rest ≡ all → EachFrom P 0 all
      → P (length yielded) x
  here-of yielded x others rest all steps whole each =
      let place : 0 + length yielded ≡ length yielded = omega arith in
      let split : all ≡ yielded ++ x ∷ others = sym whole ∙ ap (λ l. yielded ++ l) steps in
      subst (λ k. P k x) place (each_at P 0 yielded others x (subst (λ l. EachFrom P 0 l) split each))

-- a list that was written whole
pub written-whole : {A : Type 0} (n : ℕ) (xs ys : List A) → length xs ≡ length ys → n ≡ length xs → take n (xs ++ drop (length xs) ys) ≡ xs
written-whole zero [] [] long size = refl
written-whole (suc n) [] [] long size = refl
written-whole n [] (y ∷ ys) long size = absurd (omega (arith, long))
written-whole n (x ∷ xs) [] long size = absurd (omega (arith, long))
written-whole zero (x ∷ xs) (y ∷ ys) long size = absurd (omega (arith, size))
written-whole (suc n) (x ∷ xs) (y ∷ ys) long size =
    ap (λ l. x ∷ l) (written-whole n xs ys (omega (arith, long)) (omega (arith, size)))
