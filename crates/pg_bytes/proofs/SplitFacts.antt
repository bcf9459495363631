-- Lists that are split at a place by a test of their elements.
use Rattle.std.proofs.Common.{◌≡◌, ℕ, suc, zero, ◌-◌, ◌<◌, ◌≤◌, Bool, true, false, cond, List, [], ◌∷◌, length, get_or, take, drop, filter, Some, None, refl, sym, ap, arith}
use Rattle.std.specs.Prelude.{find, position}
use Rattle.std.specs.List.{AllByRecursion, AllWithin, remove}
use Rattle.std.proofs.lemmas.Bool.{lt-ltb, le-ltb}
use Rattle.std.proofs.lemmas.List.Filters.{FiltersInPlace}
use Rattle.std.proofs.lemmas.List.Sums.{position_or_len_is}

module _ {X : Type 0} where
  -- what holds up to a place holds of the elements before it
  pub all_before : (P : X → Type 0) (i : ℕ) (xs : List X) → i ≤ length xs → AllWithin P xs 0 i → AllByRecursion P (take i xs)
  all_before P zero xs within all = tt
  all_before P (suc n) [] within all = tt
  all_before P (suc n) (x ∷ xs) within all =
      (all 0 x (omega arith) (omega arith), all_before P n xs (omega arith) (λ k d le lt. all (suc k) d (omega arith) (omega arith)))

  -- and what holds from a place on, of those from it on
  pub all_behind : (P : X → Type 0) (i : ℕ) (xs : List X) → AllWithin P xs i (length xs) → AllByRecursion P (drop i xs)
  all_behind P zero [] all = tt
  all_behind P zero (x ∷ xs) all =
      (all 0 x (omega arith) (omega arith), all_behind P zero xs (λ k d le lt. all (suc k) d (omega arith) (omega arith)))
  all_behind P (suc n) [] all = tt
  all_behind P (suc n) (x ∷ xs) all = all_behind P n xs (λ k d le lt. all (suc k) d (omega arith) (omega arith))

  module _ (p : X → Bool) where
    -- no element is kept
    pub filter_drops_all : (xs : List X) → AllByRecursion (λ x. p x ≡ false) xs → filter p xs ≡ []
    filter_drops_all [] all = refl
    filter_drops_all (x ∷ xs) all = rw all.0 (filter_drops_all xs all.1)

    -- each element is kept
    pub filter_keeps_all : (xs : List X) → AllByRecursion (λ x. p x ≡ true) xs → filter p xs ≡ xs
    filter_keeps_all [] all = refl
    filter_keeps_all (x ∷ xs) all = rw all.0 (ap (λ ys. x ∷ ys) (filter_keeps_all xs all.1))

    -- what passes stands between two places
    pub filter_between : (low high : ℕ) (xs : List X) → low ≤ high → high ≤ length xs → AllWithin (λ x. p x ≡ false) xs 0 low → AllWithin (λ x. p x ≡ true) xs low high → AllWithin (λ x. p x ≡ false) xs high (length xs) → filter p xs ≡ take (high - low) (drop low xs)
    filter_between zero zero xs le within none all rest = filter_drops_all xs (all_behind (λ x. p x ≡ false) 0 xs rest)
    filter_between zero (suc n) [] le within none all rest = absurd (omega arith)
    filter_between zero (suc n) (x ∷ xs) le within none all rest =
        let here : p x ≡ true = all 0 x (omega arith) (omega arith) in
        let same : suc n - 0 ≡ suc (n - 0) = omega arith in
        let later : filter p xs ≡ take (n - 0) xs =
        filter_between zero n xs (omega arith) (omega arith) (λ k d le lt. absurd (omega arith)) (λ k d le lt. all (suc k) d (omega arith) (omega arith)) (λ k d le lt. rest (suc k) d (omega arith) (omega arith)) in
        rw (here, same) (ap (λ ys. x ∷ ys) later)
    filter_between (suc m) high [] le within none all rest = absurd (omega arith)
    filter_between (suc m) zero (x ∷ xs) le within none all rest = absurd (omega arith)
    filter_between (suc m) (suc n) (x ∷ xs) le within none all rest =
        let here : p x ≡ false = none 0 x (omega arith) (omega arith) in
        let same : suc n - suc m ≡ n - m = omega arith in
        rw (here, same) (filter_between m n xs (omega arith) (omega arith) (λ k d le lt. none (suc k) d (omega arith) (omega arith)) (λ k d le lt. all (suc k) d (omega arith) (omega arith)) (λ k d le lt. rest (suc k) d (omega arith) (omega arith)))

    -- all pass but the one at a place
    pub filter_but_one : (i : ℕ) (xs : List X) → i < length xs → AllWithin (λ x. p x ≡ true) xs 0 i → ((d : X) → p (get_or xs i d) ≡ false) → AllWithin (λ x. p x ≡ true) xs (suc i) (length xs) → filter p xs ≡ remove xs i
    filter_but_one i [] lt before here behind = absurd (omega arith)
    filter_but_one zero (x ∷ xs) lt before here behind =
        rw (here x) (filter_keeps_all xs (all_behind (λ y. p y ≡ true) 0 xs (λ k d le lt. behind (suc k) d (omega arith) (omega arith))))
    filter_but_one (suc i) (x ∷ xs) lt before here behind =
        let first : p x ≡ true = before 0 x (omega arith) (omega arith) in
        rw first (ap (λ ys. x ∷ ys) (filter_but_one i xs (omega arith) (λ k d le lt. before (suc k) d (omega arith) (omega arith)) here (λ k d le lt. behind (suc k) d (omega arith) (omega arith))))

    -- the first that passes stands at a place
    pub finds_at : (i : ℕ) (xs : List X) (d : X) → i < length xs → AllWithin (λ x. p x ≡ false) xs 0 i → p (get_or xs i d) ≡ true → find p xs ≡ Some (get_or xs i d)
    finds_at i [] d lt before here = absurd (omega arith)
    finds_at zero (x ∷ xs) d lt before here = rw here refl
    finds_at (suc i) (x ∷ xs) d lt before here =
        let first : p x ≡ false = before 0 x (omega arith) (omega arith) in
        rw first (finds_at i xs d (omega arith) (λ k e le lt. before (suc k) e (omega arith) (omega arith)) here)

    -- none passes
    pub finds_none : (xs : List X) → AllWithin (λ x. p x ≡ false) xs 0 (length xs) → find p xs ≡ None
    finds_none [] all = refl
    finds_none (x ∷ xs) all =
        let first : p x ≡ false = all 0 x (omega arith) (omega arith) in
        rw first (finds_none xs (λ k d le lt. all (suc k) d (omega arith) (omega arith)))

    -- the first that passes is counted to
    pub positions_at : (i : ℕ) (xs : List X) (d : X) → i < length xs → AllWithin (λ x. p x ≡ false) xs 0 i → p (get_or xs i d) ≡ true → position p xs ≡ Some i
    positions_at i xs d lt before here =
        let first = position_or_len_is p xs i d (omega arith) (λ k less. before k d (omega arith) less) (λ _. here) in
        rw (first, lt-ltb i (length xs) lt) refl

    pub positions_none : (xs : List X) (d : X) → AllWithin (λ x. p x ≡ false) xs 0 (length xs) → position p xs ≡ None
    positions_none xs d none =
        let first = position_or_len_is p xs (length xs) d (omega arith) (λ k less. none k d (omega arith) less) (λ lt. absurd (omega arith)) in
        rw (first, le-ltb (length xs) (length xs) (omega arith)) refl

    -- outside a part no element is kept
    pub filter_part : (low high : ℕ) (xs : List X) → low ≤ length xs → high ≤ length xs → AllWithin (λ x. p x ≡ false) xs 0 low → AllWithin (λ x. p x ≡ false) xs high (length xs) → filter p (take (high - low) (drop low xs)) ≡ filter p xs
    filter_part zero high xs within above none rest = from_start high xs above rest
      where
        from_start : (n : ℕ) (ys : List X) → n ≤ length ys → AllWithin (λ x. p x ≡ false) ys n (length ys) → filter p (take (n - 0) ys) ≡ filter p ys
        from_start zero ys below others = sym (filter_drops_all ys (all_behind (λ x. p x ≡ false) 0 ys others))
        from_start (suc n) [] below others = absurd (omega arith)
        from_start (suc n) (y ∷ ys) below others =
            let same : suc n - 0 ≡ suc (n - 0) = omega arith in
            let later = from_start n ys (omega arith) (λ k d le lt. others (suc k) d (omega arith) (omega arith)) in
            rw same (ap (λ zs. cond (p y) (y ∷ zs) zs) later)
    filter_part (suc low) high [] within above none rest = absurd (omega arith)
    filter_part (suc low) zero (x ∷ xs) within above none rest =
        let here : p x ≡ false = none 0 x (omega arith) (omega arith) in
        let nothing : 0 - suc low ≡ 0 = omega arith in
        rw (nothing, here) (sym (filter_drops_all xs (all_behind (λ y. p y ≡ false) 0 xs (λ k d le lt. rest (suc k) d (omega arith) (omega arith)))))
    filter_part (suc low) (suc high) (x ∷ xs) within above none rest =
        let here : p x ≡ false = none 0 x (omega arith) (omega arith) in
        let same : suc high - suc low ≡ high - low = omega arith in
        rw (same, here) (filter_part low high xs (omega arith) (omega arith) (λ k d le lt. none (suc k) d (omega arith) (omega arith)) (λ k d le lt. rest (suc k) d (omega arith) (omega arith)))

    -- the elements before a place are kept, before any is moved
    pub filters_start : (i : ℕ) (xs : List X) → i ≤ length xs → AllWithin (λ x. p x ≡ true) xs 0 i → FiltersInPlace p xs xs i i
    filters_start i xs within all = record {
      front = sym (filter_keeps_all (take i xs) (all_before (λ x. p x ≡ true) i xs within all));
      rest = refl;
      behind = omega arith;
      within = within;
      long = refl;
    }
