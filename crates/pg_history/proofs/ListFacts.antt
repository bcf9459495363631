-- Elements by their places in lists that grow or change at a place.
use Rattle.std.proofs.Common.{◌≡◌, ◌⊎◌, ℕ, zero, suc, ◌<◌, Bool, true, false, List, [], ◌∷◌, ◌++◌, length, Some, refl, sym, ap, ◌∙◌, arith, inl, inr}
use Rattle.std.specs.Prelude.{◌==◌, slice_get, slice_set, find, filter, if◌then◌else◌}
use Rattle.pg_bytes.specs.Order.{in_order}
use Rattle.std.specs.List.{AllByRecursion}
use Rattle.std.proofs.lemmas.Grind.{common_steps}

same_place : (i j : ℕ) → (i == j) ≡ true → i ≡ j
same_place i j e = grind (arith, common_steps, e)

module _ {X : Type 0} where
  pub get-set_same : (xs : List X) (i : ℕ) (x y : X) → slice_get xs i ≡ Some y → slice_get (slice_set xs i x) i ≡ Some x
  get-set_same [] i x y e = absurd (grind (arith, common_steps, e))
  get-set_same (z ∷ zs) zero x y e = grind (arith, common_steps)
  get-set_same (z ∷ zs) (suc i) x y e = grind (arith, common_steps, get-set_same zs i x y (grind (arith, common_steps, e)))

  pub get-set_other : (xs : List X) (i j : ℕ) (x : X) → (j == i) ≡ false → slice_get (slice_set xs i x) j ≡ slice_get xs j
  get-set_other [] i j x e = refl
  get-set_other (z ∷ zs) zero zero x e = absurd (grind (arith, common_steps, e))
  get-set_other (z ∷ zs) zero (suc j) x e = grind (arith, common_steps)
  get-set_other (z ∷ zs) (suc i) zero x e = grind (arith, common_steps)
  get-set_other (z ∷ zs) (suc i) (suc j) x e = grind (arith, common_steps, get-set_other zs i j x (grind (arith, common_steps, e)))

  -- what stands in the front part stands in the whole
  pub get-front : (xs ys : List X) (k : ℕ) (x : X) → slice_get xs k ≡ Some x → slice_get (xs ++ ys) k ≡ Some x
  get-front [] ys k x e = absurd (grind (arith, common_steps, e))
  get-front (z ∷ zs) ys zero x e = e
  get-front (z ∷ zs) ys (suc k) x e = grind (arith, common_steps, get-front zs ys k x (grind (arith, common_steps, e)))

  -- and what stands in the whole before its end stands in it
  pub get-before : (xs ys : List X) (k : ℕ) (x : X) → k < length xs → slice_get (xs ++ ys) k ≡ Some x → slice_get xs k ≡ Some x
  get-before [] ys k x lt e = absurd (omega (arith, lt))
  get-before (z ∷ zs) ys zero x lt e = e
  get-before (z ∷ zs) ys (suc k) x lt e = grind (arith, common_steps, get-before zs ys k x (omega (arith, lt)) (grind (arith, common_steps, e)))

  -- an element of a list with one more is one of the list, or the last
  pub get-last : (xs : List X) (y x : X) (k : ℕ) → slice_get (xs ++ y ∷ []) k ≡ Some x → (slice_get xs k ≡ Some x) ⊎ ((k ≡ length xs) × (y ≡ x))
  get-last [] y x zero e = inr (refl, grind (arith, common_steps, e))
  get-last [] y x (suc k) e = absurd (grind (arith, common_steps, e))
  get-last (z ∷ zs) y x zero e = inl e
  get-last (z ∷ zs) y x (suc k) e = elim (get-last zs y x k (grind (arith, common_steps, e))) [
    | inl there ↦ inl (grind (arith, common_steps, there))
    | inr last ↦ inr (grind (arith, common_steps, last.0), last.1)
  ]

  pub get-end : (xs : List X) (y : X) (ys : List X) → slice_get (xs ++ y ∷ ys) (length xs) ≡ Some y
  get-end [] y ys = refl
  get-end (z ∷ zs) y ys = grind (arith, common_steps, get-end zs y ys)

  -- what is found in the front part is found in the whole
  pub find-front : (q : X → Bool) (xs ys : List X) (x : X) → find q xs ≡ Some x → find q (xs ++ ys) ≡ Some x
  find-front q [] ys x e = absurd (grind (arith, common_steps, e))
  find-front q (z ∷ zs) ys x e = by_test (q z) refl (find-front q zs ys x)
    where
      by_test : (b : Bool) → q z ≡ b → (find q zs ≡ Some x → find q (zs ++ ys) ≡ Some x) → find q (z ∷ (zs ++ ys)) ≡ Some x
      by_test true f rest = grind (arith, common_steps, f, e)
      by_test false f rest = grind (arith, common_steps, f, rest (grind (arith, common_steps, f, e)))

  -- the last is found where it passes and no other does
  pub find-last : (q : X → Bool) (xs : List X) (y : X) → AllByRecursion (λ x. q x ≡ false) xs → q y ≡ true → find q (xs ++ y ∷ []) ≡ Some y
  find-last q [] y all e = grind (arith, common_steps, e)
  find-last q (z ∷ zs) y all e = grind (arith, common_steps, all.0, find-last q zs y all.1 e)

  pub all-append : (P : X → Type 0) (xs ys : List X) → AllByRecursion P xs → AllByRecursion P ys → AllByRecursion P (xs ++ ys)
  all-append P [] ys one other = other
  all-append P (x ∷ xs) ys one other = (one.0, all-append P xs ys one.1 other)

  pub all-map : (P Q : X → Type 0) → ((x : X) → P x → Q x) → (xs : List X) → AllByRecursion P xs → AllByRecursion Q xs
  all-map P Q f [] all = tt
  all-map P Q f (x ∷ xs) all = (f x all.0, all-map P Q f xs all.1)

  pub all-filter : (P : X → Type 0) (test : X → Bool) (xs : List X) → AllByRecursion P xs → AllByRecursion P (filter test xs)
  all-filter P test [] all = tt
  all-filter P test (x ∷ xs) all = by_test (test x) (all-filter P test xs all.1)
    where
      by_test : (b : Bool) → AllByRecursion P (filter test xs) → AllByRecursion P (if b then x ∷ filter test xs else filter test xs)
      by_test true rest = (all.0, rest)
      by_test false rest = rest

  pub all-in_order : (P : X → Type 0) (before : X → X → Bool) (new : X) (xs : List X) → P new → AllByRecursion P xs → AllByRecursion P (in_order before new xs)
  all-in_order P before new [] one all = (one, tt)
  all-in_order P before new (x ∷ xs) one all = by_test (before x new) (all-in_order P before new xs one all.1)
    where
      by_test : (b : Bool) → AllByRecursion P (in_order before new xs) → AllByRecursion P (if b then x ∷ in_order before new xs else new ∷ x ∷ xs)
      by_test true rest = (all.0, rest)
      by_test false rest = (one, all)

  some_same : (x y : X) → Some x ≡ Some y → x ≡ y
  some_same x y e = grind (arith, common_steps, e)

  -- what stands in a list that was changed at a place: the new element there, or an old one elsewhere
  pub at_place : (xs : List X) (i j : ℕ) (x y z : X) → slice_get xs i ≡ Some y → slice_get (slice_set xs i x) j ≡ Some z
      → ((j ≡ i) × (z ≡ x)) ⊎ (((j == i) ≡ false) × (slice_get xs j ≡ Some z))
  at_place xs i j x y z there e = by_test (j == i) refl
    where
      by_test : (b : Bool) → (j == i) ≡ b → ((j ≡ i) × (z ≡ x)) ⊎ (((j == i) ≡ false) × (slice_get xs j ≡ Some z))
      by_test true f = inl (same_place j i f, some_same z x (sym e ∙ ap (λ k. slice_get (slice_set xs i x) k) (same_place j i f) ∙ get-set_same xs i x y there))
      by_test false f = inr (f, sym (get-set_other xs i j x f) ∙ e)
