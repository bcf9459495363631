-- Lists in which no two elements are of one key.
use Rattle.std.proofs.Common.{◌≡◌, ℕ, zero, suc, ◌<◌, List, [], ◌∷◌, length, get_or, set, map, Bool, true, false, Some, refl, ap, ◌∙◌, arith}
use Rattle.std.specs.Prelude.{find, insert, position, AllPairs, if◌then◌else◌}
use Rattle.std.specs.List.{AllByRecursion}
use Rattle.std.proofs.lemmas.Grind.{common_steps}
use Rattle.std.proofs.lemmas.List.Elements.{All-from_recursion, recursion_from_All, All-get_or}
use Rattle.std.proofs.lemmas.List.Kept.{AllPairs-cons}
use Rattle.pg_regions.proofs.ListFacts.{position_first, all_map, all_mapped, all_insert, map_none}

module _ {X : Type 0} (R : X → X → Type 0) where
  -- the same as `AllPairs`, by recursion
  abbrev pub Apart : List X → Type 0
  Apart [] = Unit {0}
  Apart (x ∷ xs) = AllByRecursion (R x) xs × Apart xs

  pub apart_from_pairs : (xs : List X) → AllPairs R xs → Apart xs
  apart_from_pairs [] pairs = tt
  apart_from_pairs (x ∷ xs) pairs = (
    recursion_from_All (R x) xs (λ k d within. pairs 0 (suc k) d (omega arith) (omega arith)),
    apart_from_pairs xs (λ i j d less within. pairs (suc i) (suc j) d (omega arith) (omega arith)),
  )

  pub pairs_from_apart : (xs : List X) → Apart xs → AllPairs R xs
  pairs_from_apart [] apart = λ i j d less within. absurd (omega arith)
  pairs_from_apart (x ∷ xs) apart =
      AllPairs-cons R x xs (All-from_recursion (R x) xs apart.0) (pairs_from_apart xs apart.1)

  apart_mapped : (f : X → X) → ((x y : X) → R x y → R (f x) (f y)) → (xs : List X) → Apart xs → Apart (map f xs)
  apart_mapped f step [] apart = tt
  apart_mapped f step (x ∷ xs) apart =
      (all_mapped (R x) (R (f x)) f xs (λ y. step x y) apart.0, apart_mapped f step xs apart.1)

  pub pairs_map : (f : X → X) → ((x y : X) → R x y → R (f x) (f y)) → (xs : List X) → AllPairs R xs → AllPairs R (map f xs)
  pairs_map f step xs pairs = pairs_from_apart (map f xs) (apart_mapped f step xs (apart_from_pairs xs pairs))

  apart_inserted : ((x y : X) → R x y → R y x) → (xs : List X) (k : ℕ) (new : X) → AllByRecursion (R new) xs → Apart xs
      → Apart (insert xs k new)
  apart_inserted swapped [] zero new all apart = (tt, tt)
  apart_inserted swapped [] (suc k) new all apart = (tt, tt)
  apart_inserted swapped (x ∷ xs) zero new all apart = (all, apart)
  apart_inserted swapped (x ∷ xs) (suc k) new all apart =
      (all_insert (R x) xs k new (swapped new x all.0) apart.0, apart_inserted swapped xs k new all.1 apart.1)

  pub pairs_insert : ((x y : X) → R x y → R y x) → (xs : List X) (k : ℕ) (new : X) → AllByRecursion (R new) xs → AllPairs R xs
      → AllPairs R (insert xs k new)
  pairs_insert swapped xs k new all pairs =
      pairs_from_apart (insert xs k new) (apart_inserted swapped xs k new all (apart_from_pairs xs pairs))

-- `same` tells two elements of one key, and q is the test of one key
module _ {X : Type 0} (same : X → X → Bool) (q : X → Bool) (alike : (x y : X) → q x ≡ true → q y ≡ true → same x y ≡ true) where
  abbrev Differ : X → X → Type 0
  Differ x y = same x y ≡ false

  -- where one passes the test, another does not
  other_fails : (x y : X) → q x ≡ true → same x y ≡ false → q y ≡ false
  other_fails x y passes differ = by_test (q y) refl
    where
      by_test : (b : Bool) → q y ≡ b → q y ≡ false
      by_test true e = absurd (let one = alike x y passes e in cc)
      by_test false e = e

  -- the element that was found is the only one that passes
  pub found_only : (xs : List X) (g : X) → AllPairs (λ x y. same x y ≡ false) xs → find q xs ≡ Some g
      → AllByRecursion (λ x. q x ≡ true → x ≡ g) xs
  found_only xs g pairs found = only xs (apart_from_pairs Differ xs pairs) found
    where
      only : (ys : List X) → Apart Differ ys → find q ys ≡ Some g → AllByRecursion (λ x. q x ≡ true → x ≡ g) ys
      only [] apart at = tt
      only (y ∷ ys) apart at = by_test (q y) refl (only ys apart.1)
        where
          by_test : (b : Bool) → q y ≡ b → (find q ys ≡ Some g → AllByRecursion (λ x. q x ≡ true → x ≡ g) ys)
              → (q y ≡ true → y ≡ g) × AllByRecursion (λ x. q x ≡ true → x ≡ g) ys
          by_test true e rest = (
            λ _. grind (arith, common_steps, e, at),
            all_map (λ x. same y x ≡ false) (λ x. q x ≡ true → x ≡ g) ys (λ x differ passes. absurd (let fails = other_fails y x e differ in cc)) apart.0,
          )
          by_test false e rest = (λ passes. absurd (cc), rest (grind (arith, common_steps, e, at)))

  -- a change of the one that passes, at its place, is a change of each that passes
  pub set-map : (f : X → X) (xs : List X) (place : ℕ) (d : X) → place < length xs → q (get_or xs place d) ≡ true
      → AllPairs (λ x y. same x y ≡ false) xs → set xs place (f (get_or xs place d)) ≡ map (λ x. if q x then f x else x) xs
  set-map f xs place d within passes pairs = at xs place within passes (apart_from_pairs Differ xs pairs)
    where
      at : (ys : List X) (n : ℕ) → n < length ys → q (get_or ys n d) ≡ true → Apart Differ ys
          → set ys n (f (get_or ys n d)) ≡ map (λ x. if q x then f x else x) ys
      at [] n inside here apart = absurd (omega arith)
      at (y ∷ ys) zero inside here apart =
          let rest : map (λ x. if q x then f x else x) ys ≡ ys =
          map_none (λ x. if q x then f x else x) ys
          (all_map (λ x. same y x ≡ false) (λ x. (if q x then f x else x) ≡ x) ys (λ x differ. ap (λ b. if b then f x else x) (other_fails y x here differ)) apart.0) in
          grind (arith, common_steps, rest, here)
      at (y ∷ ys) (suc n) inside here apart =
          let differ : same y (get_or ys n d) ≡ false = All-get_or (λ x. same y x ≡ false) ys n d (omega arith) (All-from_recursion (λ x. same y x ≡ false) ys apart.0) in
          let fails : q y ≡ false = first_fails (q y) refl differ in
          grind (arith, common_steps, fails, at ys n (omega arith) here apart.1)
        where
          first_fails : (b : Bool) → q y ≡ b → same y (get_or ys n d) ≡ false → q y ≡ false
          first_fails true e differ = absurd (let one = alike y (get_or ys n d) e here in cc)
          first_fails false e differ = e

  pub position-map : (f : X → X) (xs : List X) (place : ℕ) (x : X) → position q xs ≡ Some place → x ≡ get_or xs place x
      → AllPairs (λ x y. same x y ≡ false) xs → set xs place (f x) ≡ map (λ x. if q x then f x else x) xs
  position-map f xs place x e read pairs =
      let at = position_first q xs place e in
      let here : q (get_or xs place x) ≡ true = ap q (at.there x) ∙ at.passes in
      ap (λ y. set xs place (f y)) read ∙ set-map f xs place x at.within here pairs

-- `same x` is the test of the key of x
module _ {X : Type 0} (same : X → X → Bool) (own : (x : X) → same x x ≡ true) (swapped : (x y : X) → same x y ≡ false → same y x ≡ false) where
  -- each element is the one that is found by its key
  pub found_itself : (xs : List X) → AllPairs (λ x y. same x y ≡ false) xs → AllByRecursion (λ x. find (same x) xs ≡ Some x) xs
  found_itself xs pairs = itself xs (apart_from_pairs (λ x y. same x y ≡ false) xs pairs)
    where
      behind : (y : X) (ys all : List X) → AllByRecursion (λ x. same y x ≡ false) ys
          → AllByRecursion (λ x. find (same x) all ≡ Some x) ys → AllByRecursion (λ x. find (same x) (y ∷ all) ≡ Some x) ys
      behind y [] all differ found = tt
      behind y (z ∷ zs) all differ found =
          (let other = swapped y z differ.0 in grind (arith, common_steps, other, found.0), behind y zs all differ.1 found.1)

      itself : (ys : List X) → Apart (λ x y. same x y ≡ false) ys → AllByRecursion (λ x. find (same x) ys ≡ Some x) ys
      itself [] apart = tt
      itself (y ∷ ys) apart = (ap (λ b. if b then Some y else find (same y) ys) (own y), behind y ys ys apart.0 (itself ys apart.1))
