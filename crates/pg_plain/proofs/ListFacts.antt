-- Facts on lists.
use Rattle.std.proofs.Common.{◌≡◌, ℕ, zero, suc, ◌+◌, ◌≤◌, Bool, true, false, List, [], ◌∷◌, length, refl, arith}
use Rattle.std.specs.Prelude.{find, filter, map, take, is_some, slice_get}
use Rattle.std.specs.Option.{option_map_or}
use Rattle.std.proofs.lemmas.Grind.{common_steps}
use Rattle.pg_bytes.specs.Order.{in_order}

module _ {X : Type 0} where
  -- what is found first is found among those that stay, where it stays itself
  pub find-filter_kept : (q p : X → Bool) (xs : List X) → option_map_or p (find q xs) true ≡ true → find q (filter p xs) ≡ find q xs
  find-filter_kept q p [] e = refl
  find-filter_kept q p (x ∷ xs) e = by_test (q x) (p x) refl refl (find-filter_kept q p xs)
    where
      Goal : Type 0
      Goal = find q (filter p (x ∷ xs)) ≡ find q (x ∷ xs)

      Rest : Type 0
      Rest = option_map_or p (find q xs) true ≡ true → find q (filter p xs) ≡ find q xs

      by_test : (a b : Bool) → q x ≡ a → p x ≡ b → Rest → Goal
      by_test true true f g rest = grind (arith, common_steps, f, g)
      by_test true false f g rest = grind (arith, common_steps, f, g, e)
      by_test false true f g rest = grind (arith, common_steps, f, g, rest (grind (arith, common_steps, f, e)))
      by_test false false f g rest = grind (arith, common_steps, f, g, rest (grind (arith, common_steps, f, e)))

  -- another element that stands in order is not what is found
  pub find-in_order : (q : X → Bool) (before : X → X → Bool) (new : X) (xs : List X) → q new ≡ false → find q (in_order before new xs) ≡ find q xs
  find-in_order q before new [] e = grind (arith, common_steps, e)
  find-in_order q before new (x ∷ xs) e = by_test (before x new) refl (find-in_order q before new xs e)
    where
      by_test : (b : Bool) → before x new ≡ b → find q (in_order before new xs) ≡ find q xs → find q (in_order before new (x ∷ xs)) ≡ find q (x ∷ xs)
      by_test true f rest = grind (arith, common_steps, f, rest)
      by_test false f rest = grind (arith, common_steps, f, e)

  -- a map that leaves the test leaves whether something is found
  pub found-map : (q : X → Bool) (f : X → X) → ((x : X) → q (f x) ≡ q x) → (xs : List X) → is_some (find q (map f xs)) ≡ is_some (find q xs)
  found-map q f same [] = refl
  found-map q f same (x ∷ xs) = grind (arith, common_steps, same x, found-map q f same xs)

  -- what is found among so many is found without the last of them, unless it is that one
  pub found-take : (q : X → Bool) (n : ℕ) (xs : List X) → length xs ≤ n + 1 → option_map_or q (slice_get xs n) false ≡ false
      → is_some (find q xs) ≡ true → is_some (find q (take n xs)) ≡ true
  found-take q n [] short last e = grind (arith, common_steps, e)
  found-take q zero (x ∷ []) short last e = grind (arith, common_steps, last, e)
  found-take q zero (x ∷ y ∷ ys) short last e = absurd (omega arith)
  found-take q (suc n) (x ∷ xs) short last e = by_test (q x) refl (found-take q n xs (omega arith) (grind (arith, common_steps, last)))
    where
      by_test : (b : Bool) → q x ≡ b → (is_some (find q xs) ≡ true → is_some (find q (take n xs)) ≡ true) → is_some (find q (take (suc n) (x ∷ xs))) ≡ true
      by_test true f rest = grind (arith, common_steps, f)
      by_test false f rest = grind (arith, common_steps, f, rest (grind (arith, common_steps, f, e)))

  -- what one test finds passes no other that leaves nothing
  pub none-filter : (q p : X → Bool) (xs : List X) → filter p xs ≡ [] → option_map_or p (find q xs) false ≡ false
  none-filter q p [] e = refl
  none-filter q p (x ∷ xs) e = by_test (q x) (p x) refl refl (none-filter q p xs)
    where
      by_test : (a b : Bool) → q x ≡ a → p x ≡ b → (filter p xs ≡ [] → option_map_or p (find q xs) false ≡ false)
          → option_map_or p (find q (x ∷ xs)) false ≡ false
      by_test a true f g rest = absurd (grind (arith, common_steps, e, g))
      by_test true false f g rest = grind (arith, common_steps, f, g)
      by_test false false f g rest = grind (arith, common_steps, f, g, rest (grind (arith, common_steps, e, g)))
