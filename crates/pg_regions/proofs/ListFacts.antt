-- What is found in a list that was filtered or changed, or that grew; where the first element that passes a test stands.
use Rattle.std.proofs.Common.{◌≡◌, ℕ, zero, suc, ◌<◌, ◌≤◌, List, [], ◌∷◌, ◌++◌, length, get_or, take, drop, map, filter, Bool, true, false, not, ◌&&◌, Some, None, refl, ap, sym, subst, arith}
use Rattle.std.specs.Prelude.{All, find, position, insert, if◌then◌else◌}
use Rattle.std.specs.List.{AllByRecursion, position_or_len}
use Rattle.std.specs.Option.{option_map, option_or}
use Rattle.std.proofs.lemmas.Grind.{common_steps}
use Rattle.std.proofs.lemmas.List.{drop_all, take_all, append-nil}
use Rattle.std.proofs.lemmas.List.Elements.{All-from_recursion, recursion_from_All}
use Rattle.std.proofs.lemmas.List.Quantifiers.{position-Some}

module _ {X : Type 0} where
  pub each : (P : X → Type 0) → ((x : X) → P x) → (xs : List X) → AllByRecursion P xs
  each P holds [] = tt
  each P holds (x ∷ xs) = (holds x, each P holds xs)

  -- ---- filters

  pub find-filter : (q p : X → Bool) (b : Bool) (xs : List X) → AllByRecursion (λ x. q x ≡ true → p x ≡ b) xs
      → find q (filter p xs) ≡ (if b then find q xs else None)
  find-filter q p true [] all = refl
  find-filter q p false [] all = refl
  find-filter q p true (x ∷ xs) all = grind (arith, common_steps, all.0, find-filter q p true xs all.1)
  find-filter q p false (x ∷ xs) all = grind (arith, common_steps, all.0, find-filter q p false xs all.1)

  pub filter-filter : (p q r : X → Bool) → ((x : X) → (q x && p x) ≡ r x) → (xs : List X) → filter p (filter q xs) ≡ filter r xs
  filter-filter p q r same [] = refl
  filter-filter p q r same (x ∷ xs) = grind (arith, common_steps, same x, filter-filter p q r same xs)

  pub filter_all : (p : X → Bool) (xs : List X) → AllByRecursion (λ x. p x ≡ true) xs → filter p xs ≡ xs
  filter_all p [] all = refl
  filter_all p (x ∷ xs) all = grind (arith, common_steps, all.0, filter_all p xs all.1)

  -- a filter that lets all that pass the test stay, or go
  pub find-filter_key : (q p : X → Bool) (gone : Bool) → ((x : X) → q x ≡ true → p x ≡ not gone) → (xs : List X)
      → find q (filter p xs) ≡ (if gone then None else find q xs)
  find-filter_key q p true step xs = find-filter q p false xs (each (λ x. q x ≡ true → p x ≡ false) step xs)
  find-filter_key q p false step xs = find-filter q p true xs (each (λ x. q x ≡ true → p x ≡ true) step xs)

  pub length_filter : (p : X → Bool) (xs : List X) → length (filter p xs) ≤ length xs
  length_filter p [] = omega arith
  length_filter p (x ∷ xs) = grind (arith, common_steps, length_filter p xs)

  -- ---- maps

  pub find-map : (q : X → Bool) (f : X → X) → ((x : X) → q (f x) ≡ q x) → (xs : List X)
      → find q (map f xs) ≡ option_map f (find q xs)
  find-map q f same [] = refl
  find-map q f same (x ∷ xs) = grind (arith, common_steps, same x, find-map q f same xs)

  pub map_none : (f : X → X) (xs : List X) → AllByRecursion (λ x. f x ≡ x) xs → map f xs ≡ xs
  map_none f [] all = refl
  map_none f (x ∷ xs) all = grind (arith, common_steps, all.0, map_none f xs all.1)

  -- ---- one more element

  pub find-append : (q : X → Bool) (xs ys : List X) → find q (xs ++ ys) ≡ option_or (find q xs) (find q ys)
  find-append q [] ys = refl
  find-append q (x ∷ xs) ys = grind (arith, common_steps, find-append q xs ys)

  pub find-insert : (q : X → Bool) (xs : List X) (k : ℕ) (x : X) → find q xs ≡ None
      → find q (insert xs k x) ≡ (if q x then Some x else None)
  find-insert q [] zero x none = refl
  find-insert q [] (suc k) x none = refl
  find-insert q (y ∷ ys) zero x none = grind (arith, common_steps, none)
  find-insert q (y ∷ ys) (suc k) x none = grind (arith, common_steps, none, find-insert q ys k x)

  pub find-insert_other : (q : X → Bool) (xs : List X) (k : ℕ) (x : X) → q x ≡ false → find q (insert xs k x) ≡ find q xs
  find-insert_other q [] zero x other = grind (arith, common_steps, other)
  find-insert_other q [] (suc k) x other = grind (arith, common_steps, other)
  find-insert_other q (y ∷ ys) zero x other = grind (arith, common_steps, other)
  find-insert_other q (y ∷ ys) (suc k) x other = grind (arith, common_steps, find-insert_other q ys k x other)

  -- ---- what was found

  pub found_passes : (q : X → Bool) (xs : List X) (x : X) → find q xs ≡ Some x → q x ≡ true
  found_passes q [] x found = absurd (cc)
  found_passes q (y ∷ ys) x found = grind (arith, common_steps, found, found_passes q ys x)

  pub found_has : (P : X → Type 0) (q : X → Bool) (xs : List X) (x : X) → AllByRecursion P xs → find q xs ≡ Some x → P x
  found_has P q [] x all found = absurd (cc)
  found_has P q (y ∷ ys) x all found = by_test (q y) refl (found_has P q ys x all.1)
    where
      by_test : (b : Bool) → q y ≡ b → (find q ys ≡ Some x → P x) → P x
      by_test true e rest = let same : y ≡ x = grind (arith, common_steps, e, found) in subst P same all.0
      by_test false e rest = rest (grind (arith, common_steps, e, found))

  pub none_passes : (q : X → Bool) (xs : List X) → find q xs ≡ None → AllByRecursion (λ x. q x ≡ false) xs
  none_passes q [] none = tt
  none_passes q (y ∷ ys) none = (grind (arith, common_steps, none), none_passes q ys (grind (arith, common_steps, none)))

  pub all_map : (P Q : X → Type 0) (xs : List X) → ((x : X) → P x → Q x) → AllByRecursion P xs → AllByRecursion Q xs
  all_map P Q [] step all = tt
  all_map P Q (x ∷ xs) step all = (step x all.0, all_map P Q xs step all.1)

  all_filter : (P Q : X → Type 0) (p : X → Bool) (xs : List X) → ((x : X) → p x ≡ true → P x → Q x) → AllByRecursion P xs
      → AllByRecursion Q (filter p xs)
  all_filter P Q p [] step all = tt
  all_filter P Q p (x ∷ xs) step all = by_test (p x) refl (all_filter P Q p xs step all.1)
    where
      by_test : (b : Bool) → p x ≡ b → AllByRecursion Q (filter p xs)
          → AllByRecursion Q (if p x then x ∷ filter p xs else filter p xs)
      by_test true e rest = subst (λ b. AllByRecursion Q (if b then x ∷ filter p xs else filter p xs)) (sym e) (step x e all.0, rest)
      by_test false e rest = subst (λ b. AllByRecursion Q (if b then x ∷ filter p xs else filter p xs)) (sym e) rest

  pub all_mapped : (P Q : X → Type 0) (f : X → X) (xs : List X) → ((x : X) → P x → Q (f x)) → AllByRecursion P xs
      → AllByRecursion Q (map f xs)
  all_mapped P Q f [] step all = tt
  all_mapped P Q f (x ∷ xs) step all = (step x all.0, all_mapped P Q f xs step all.1)

  pub All-filtered : (P Q : X → Type 0) (p : X → Bool) (xs : List X) → ((x : X) → p x ≡ true → P x → Q x) → All P xs
      → All Q (filter p xs)
  All-filtered P Q p xs step all = All-from_recursion Q (filter p xs) (all_filter P Q p xs step (recursion_from_All P xs all))

  pub All-mapped : (P Q : X → Type 0) (f : X → X) (xs : List X) → ((x : X) → P x → Q (f x)) → All P xs → All Q (map f xs)
  All-mapped P Q f xs step all = All-from_recursion Q (map f xs) (all_mapped P Q f xs step (recursion_from_All P xs all))

  pub all_insert : (P : X → Type 0) (xs : List X) (k : ℕ) (x : X) → P x → AllByRecursion P xs → AllByRecursion P (insert xs k x)
  all_insert P [] zero x new all = (new, tt)
  all_insert P [] (suc k) x new all = (new, tt)
  all_insert P (y ∷ ys) zero x new all = (new, all)
  all_insert P (y ∷ ys) (suc k) x new all = (all.0, all_insert P ys k x new all.1)

  pub All-inserted : (P : X → Type 0) (xs : List X) (k : ℕ) (x : X) → P x → All P xs → All P (insert xs k x)
  All-inserted P xs k x new all = All-from_recursion P (insert xs k x) (all_insert P xs k x new (recursion_from_All P xs all))

  -- ---- positions

  -- the first element that passes the test stands at this place
  pub record IsFirstAt (q : X → Bool) (xs : List X) (place : ℕ) : Type 0 where
    pub first : X
    pub found : find q xs ≡ Some first
    pub passes : q first ≡ true
    pub within : place < length xs
    pub there : (d : X) → get_or xs place d ≡ first

  first_at : (d : X) (q : X → Bool) (xs : List X) (place : ℕ) → place < length xs → q (get_or xs place d) ≡ true
      → ((k : ℕ) → k < place → q (get_or xs k d) ≡ false) → IsFirstAt q xs place
  first_at d q [] place within passes before = absurd (omega arith)
  first_at d q (x ∷ xs) zero within passes before = record {
    first = x;
    found = grind (arith, common_steps, passes);
    passes = passes;
    within = within;
    there = λ other. refl;
  }
  first_at d q (x ∷ xs) (suc place) within passes before =
      let next : q x ≡ false = before 0 (omega arith) in
      let rest = first_at d q xs place (omega arith) passes (λ k less. before (suc k) (omega arith)) in
      record {
        first = rest.first;
        found = grind (arith, common_steps, next, rest.found);
        passes = rest.passes;
        within = within;
        there = rest.there;
      }

  past_none : (q : X → Bool) (xs : List X) → length xs ≤ position_or_len q xs → find q xs ≡ None
  past_none q [] past = refl
  past_none q (x ∷ xs) past = grind (arith, common_steps, past_none q xs)

  pub position_none : (q : X → Bool) (xs : List X) → position q xs ≡ None → find q xs ≡ None
  position_none q xs none = grind (arith, common_steps, past_none q xs)

  pub position_first : (q : X → Bool) (xs : List X) (place : ℕ) → position q xs ≡ Some place → IsFirstAt q xs place
  position_first q [] place e = absurd (cc)
  position_first q (x ∷ xs) place e =
      let at = position-Some q (x ∷ xs) place x e in
      first_at x q (x ∷ xs) place at.0 at.1 at.2

  pub position_none-map : (q : X → Bool) (f : X → X) (xs : List X) → position q xs ≡ None
      → map (λ x. if q x then f x else x) xs ≡ xs
  position_none-map q f xs none =
      map_none (λ x. if q x then f x else x) xs (all_map (λ x. q x ≡ false) (λ x. (if q x then f x else x) ≡ x) xs (λ x fails. ap (λ b. if b then f x else x) fails) (none_passes q xs (position_none q xs none)))

  -- a list that was written back over all of another
  pub whole_again : (n : ℕ) (new old : List X) → length new ≡ length old → n ≡ length old → take n (new ++ drop (length new) old) ≡ new
  whole_again n new old long all =
      let none : drop (length new) old ≡ [] = drop_all (length new) old (omega arith) in
      rw (none, append-nil) (take_all n new (omega arith))
