-- Lists in the order of a page and a region, and where an element of them stands.
use Rattle.std.proofs.Common.{◌≡◌, ℕ, zero, suc, ◌+◌, ◌-◌, ◌<◌, ◌≤◌, ◌⊎◌, ◌||◌, ◌&&◌, ◌==◌, Bool, true, false, cond, List, [], ◌∷◌, length, get_or, Some, refl, sym, ap, ◌∙◌, inl, inr, ⊎_elim, arith}
use Rattle.std.specs.Prelude.{nat_lt, find, insert, count_by, AllPairs}
use Rattle.std.specs.List.{AllByRecursion, AllWithin}
use Rattle.std.specs.List.Sorted.{IsPartitionedBy}
use Rattle.std.proofs.lemmas.Bool.{cases_lt}
use Rattle.std.proofs.lemmas.Bool.Decides.{nat_tests}
use Rattle.std.proofs.lemmas.List.{get_or_default, length-take}
use Rattle.std.proofs.lemmas.List.Sums.{length-filter}
use Rattle.pg_bytes.specs.Order.{in_order}
use Rattle.pg_bytes.proofs.SplitFacts.{filter_between, finds_at}
use Rattle.pg_regions.specs.Lookups.{comes_before}
use Rattle.pg_regions.proofs.PairFacts.{Apart, apart_from_pairs, pairs_from_apart}

-- ---- keys

pub before_is : (a b c d : ℕ) → comes_before a b c d ≡ true → (a < c) ⊎ ((a ≡ c) × (b < d))
before_is a b c d e = by_first (nat_lt a c) refl e
  where
    by_first : (x : Bool) → nat_lt a c ≡ x → (x || (a == c && nat_lt b d)) ≡ true → (a < c) ⊎ ((a ≡ c) × (b < d))
    by_first true is h = inl (grind (arith, nat_tests))
    by_first false is h = inr (grind (arith, nat_tests), grind (arith, nat_tests))

pub is_before : (a b c d : ℕ) → (a < c) ⊎ ((a ≡ c) × (b < d)) → comes_before a b c d ≡ true
is_before a b c d (inl lt) = grind (arith, nat_tests)
is_before a b c d (inr (same, lt)) = grind (arith, nat_tests)

pub not_before : (a b c d : ℕ) → comes_before a b c d ≡ false → (c < a) ⊎ ((a ≡ c) × (d ≤ b))
not_before a b c d e = by_first (nat_lt a c) refl e
  where
    by_first : (x : Bool) → nat_lt a c ≡ x → (x || (a == c && nat_lt b d)) ≡ false → (c < a) ⊎ ((a ≡ c) × (d ≤ b))
    by_first true is h = absurd (cc)
    by_first false is h = by_page (a == c) refl h
      where
        by_page : (y : Bool) → (a == c) ≡ y → (y && nat_lt b d) ≡ false → (c < a) ⊎ ((a ≡ c) × (d ≤ b))
        by_page true same g = inr (grind (arith, nat_tests), grind (arith, nat_tests))
        by_page false same g = inl (grind (arith, nat_tests))

pub before_later : (a b c d e f : ℕ) → comes_before a b c d ≡ true → comes_before c d e f ≡ true → comes_before a b e f ≡ true
before_later a b c d e f one other =
    is_before a b e f (join (before_is a b c d one) (before_is c d e f other))
  where
    join : (a < c) ⊎ ((a ≡ c) × (b < d)) → (c < e) ⊎ ((c ≡ e) × (d < f)) → (a < e) ⊎ ((a ≡ e) × (b < f))
    join (inl x) (inl y) = inl (omega arith)
    join (inl x) (inr y) = inl (omega arith)
    join (inr x) (inl y) = inl (omega arith)
    join (inr x) (inr y) = inr (omega arith, omega arith)

pub before_itself : (a b : ℕ) → comes_before a b a b ≡ false
before_itself a b = grind (arith, nat_tests)

-- of two keys that differ one comes before the other
pub before_other : (a b c d : ℕ) → comes_before a b c d ≡ false → ((b == d) && (a == c)) ≡ false → comes_before c d a b ≡ true
before_other a b c d late differ = is_before c d a b (join (not_before a b c d late))
  where
    join : (c < a) ⊎ ((a ≡ c) × (d ≤ b)) → (c < a) ⊎ ((c ≡ a) × (d < b))
    join (inl x) = inl x
    join (inr x) = by_region (cases_lt d b)
      where
        by_region : (d < b) ⊎ (b ≤ d) → (c < a) ⊎ ((c ≡ a) × (d < b))
        by_region (inl y) = inr (omega arith, y)
        by_region (inr y) = let same : b ≡ d = omega arith in absurd (grind (arith, nat_tests, differ, same, x.0))

-- ---- lists

-- `lesser` tells which elements come before a key, and `own` which has it
module _ {X : Type 0} (before : X → X → Bool) (lesser own : X → Bool) (earlier : (x y : X) → before x y ≡ true → lesser y ≡ true → lesser x ≡ true) (above : (x y : X) → before x y ≡ true → own y ≡ true → lesser x ≡ true) (apart : (x : X) → lesser x ≡ true → own x ≡ false) where
  abbrev Rise : List X → Type 0
  Rise xs = AllPairs (λ x y. before x y ≡ true) xs

  pub parted : (xs : List X) → Rise xs → IsPartitionedBy lesser xs
  parted xs rise i j d le within passes =
      ⊎_elim (λ lt. earlier (get_or xs i d) (get_or xs j d) (rise i j d lt within) passes)
      (λ (ge : j ≤ i). let same : i ≡ j = omega arith in rw same passes) (cases_lt i j)

  -- what comes before a place where an element has the key, or from which on none comes before it
  pub lesser_before : (xs : List X) (place : ℕ) (d : X) → Rise xs → place < length xs → own (get_or xs place d) ≡ true → AllWithin (λ x. lesser x ≡ true) xs 0 place
  lesser_before xs place d rise within here k e le lt =
      above (get_or xs k e) (get_or xs place e) (rise k place e lt within) (ap own (get_or_default xs place e d within) ∙ here)

  pub not_lesser_behind : (xs : List X) (place : ℕ) (d : X) → Rise xs → place < length xs → lesser (get_or xs place d) ≡ false → AllWithin (λ x. lesser x ≡ false) xs place (length xs)
  not_lesser_behind xs place d rise within here k e le lt = by_test (lesser (get_or xs k e)) refl
    where
      by_test : (b : Bool) → lesser (get_or xs k e) ≡ b → lesser (get_or xs k e) ≡ false
      by_test true is =
          let first = parted xs rise place k e le lt is in
          let same = ap lesser (get_or_default xs place e d within) in absurd (cc)
      by_test false is = is

  pub lesser_in_front : (xs : List X) (place : ℕ) (d : X) → Rise xs → place < length xs → lesser (get_or xs place d) ≡ true → AllWithin (λ x. lesser x ≡ true) xs 0 (place + 1)
  lesser_in_front xs place d rise within here k e le lt =
      parted xs rise k place e (omega arith) within (ap lesser (get_or_default xs place e d within) ∙ here)

  -- how many come before the key
  pub lesser_count : (xs : List X) (place : ℕ) → place ≤ length xs → AllWithin (λ x. lesser x ≡ true) xs 0 place → AllWithin (λ x. lesser x ≡ false) xs place (length xs) → count_by lesser xs ≡ place
  lesser_count xs place within front rest =
      sym (length-filter lesser xs)
      ∙ ap length (filter_between lesser 0 place xs (omega arith) within (λ k d le lt. absurd (omega arith)) front rest)
      ∙ omega (arith, length-take (place - 0) xs)

  -- the element that has the key stands behind those that come before it
  pub own_at : (xs : List X) (place : ℕ) (d : X) → place < length xs → AllWithin (λ x. lesser x ≡ true) xs 0 place → own (get_or xs place d) ≡ true → find own xs ≡ Some (get_or xs place d)
  own_at xs place d within front here =
      finds_at own place xs d within (λ k e le lt. apart (get_or xs k e) (front k e le lt)) here

  -- no element has it where the first that does not come before it has it not
  pub own_none : (xs : List X) (place : ℕ) → Rise xs → AllWithin (λ x. lesser x ≡ true) xs 0 place → AllWithin (λ x. lesser x ≡ false) xs place (length xs) → (e : X) → (place < length xs → own (get_or xs place e) ≡ false) → AllWithin (λ x. own x ≡ false) xs 0 (length xs)
  own_none xs place rise front rest e first k d le lt =
      ⊎_elim (λ before. apart (get_or xs k d) (front k d le before)) (λ from. by_place from (cases_lt place k)) (cases_lt k place)
    where
      by_place : place ≤ k → (place < k) ⊎ (k ≤ place) → own (get_or xs k d) ≡ false
      by_place from (inl later) = by_test (own (get_or xs k d)) refl
        where
          by_test : (b : Bool) → own (get_or xs k d) ≡ b → own (get_or xs k d) ≡ false
          by_test true is =
              let one = above (get_or xs place d) (get_or xs k d) (rise place k d later lt) is in
              let other = rest place d (omega arith) (omega arith) in absurd (cc)
          by_test false is = is
      by_place from (inr same) =
          let at : k ≡ place = omega arith in
          rw at (ap own (get_or_default xs place d e (omega arith)) ∙ first (omega arith))

  -- nor does any behind one that neither comes before the key nor has it
  pub not_own_behind : (xs : List X) (place : ℕ) (d : X) → Rise xs → place < length xs → lesser (get_or xs place d) ≡ false → own (get_or xs place d) ≡ false → AllWithin (λ x. own x ≡ false) xs place (length xs)
  not_own_behind xs place d rise within late here k e le lt = by_place (cases_lt place k)
    where
      by_place : (place < k) ⊎ (k ≤ place) → own (get_or xs k e) ≡ false
      by_place (inl later) = by_test (own (get_or xs k e)) refl
        where
          by_test : (b : Bool) → own (get_or xs k e) ≡ b → own (get_or xs k e) ≡ false
          by_test true is =
              let one = above (get_or xs place e) (get_or xs k e) (rise place k e later lt) is in
              let same = ap lesser (get_or_default xs place e d within) in absurd (cc)
          by_test false is = is
      by_place (inr same) =
          let at : k ≡ place = omega arith in rw at (ap own (get_or_default xs place e d within) ∙ here)

-- ---- one element more

module _ {X : Type 0} (before : X → X → Bool) where
  -- it stands behind those that come before it
  pub in_order_is : (new : X) (place : ℕ) (xs : List X) → place ≤ length xs → AllWithin (λ x. before x new ≡ true) xs 0 place → AllWithin (λ x. before x new ≡ false) xs place (length xs) → insert xs place new ≡ in_order before new xs
  in_order_is new zero [] within front rest = refl
  in_order_is new (suc place) [] within front rest = absurd (omega arith)
  in_order_is new zero (x ∷ xs) within front rest = rw (rest 0 x (omega arith) (omega arith)) refl
  in_order_is new (suc place) (x ∷ xs) within front rest =
      rw (front 0 x (omega arith) (omega arith))
      (ap (λ ys. x ∷ ys) (in_order_is new place xs (omega arith) (λ k d le lt. front (suc k) d (omega arith) (omega arith)) (λ k d le lt. rest (suc k) d (omega arith) (omega arith))))

  -- a place of one element more
  pub record IsPlace (new : X) (xs : List X) : Type 0 where
    pub place : ℕ
    pub within : place ≤ length xs
    pub inserted : in_order before new xs ≡ insert xs place new

  pub in_order_place : (new : X) (xs : List X) → IsPlace new xs
  in_order_place new [] = record { place = 0; within = omega arith; inserted = refl }
  in_order_place new (x ∷ xs) = by_test (before x new) refl (in_order_place new xs)
    where
      by_test : (b : Bool) → before x new ≡ b → IsPlace new xs → IsPlace new (x ∷ xs)
      by_test true e later = record { place = suc later.place; within = omega (arith, later.within); inserted = rw e (ap (λ ys. x ∷ ys) later.inserted) }
      by_test false e later = record { place = 0; within = omega arith; inserted = rw e refl }

  -- what holds of it and of the others holds of all
  pub all_ordered : (P : X → Type 0) (new : X) (xs : List X) → P new → AllByRecursion P xs → AllByRecursion P (in_order before new xs)
  all_ordered P new [] one all = (one, tt)
  all_ordered P new (x ∷ xs) one all =
      elim (before x new) as (λ b. AllByRecursion P (cond b (x ∷ in_order before new xs) (new ∷ x ∷ xs))) [
        | true ↦ (all.0, all_ordered P new xs one all.1)
        | false ↦ (one, all)
      ]

  all_behind : (later : (x y z : X) → before x y ≡ true → before y z ≡ true → before x z ≡ true) (new x : X) (xs : List X) → before new x ≡ true → AllByRecursion (λ y. before x y ≡ true) xs → AllByRecursion (λ y. before new y ≡ true) xs
  all_behind later new x [] first all = tt
  all_behind later new x (y ∷ ys) first all = (later new x y first all.0, all_behind later new x ys first all.1)

  -- the list stays in order
  pub ordered_apart : (later : (x y z : X) → before x y ≡ true → before y z ≡ true → before x z ≡ true) (new : X) (xs : List X) → AllByRecursion (λ x. before x new ≡ false → before new x ≡ true) xs → Apart (λ x y. before x y ≡ true) xs → Apart (λ x y. before x y ≡ true) (in_order before new xs)
  ordered_apart later new [] all rise = (tt, tt)
  ordered_apart later new (x ∷ xs) all rise =
      elim (before x new) as (λ b. before x new ≡ b → Apart (λ x y. before x y ≡ true) (cond b (x ∷ in_order before new xs) (new ∷ x ∷ xs))) [
        | true ↦ λ is. (all_ordered (λ y. before x y ≡ true) new xs is rise.0, ordered_apart later new xs all.1 rise.1)
        | false ↦ λ is. ((all.0 is, all_behind later new x xs (all.0 is) rise.0), rise)
      ] refl

  pub ordered_rise : (later : (x y z : X) → before x y ≡ true → before y z ≡ true → before x z ≡ true) (new : X) (xs : List X) → AllByRecursion (λ x. before x new ≡ false → before new x ≡ true) xs → AllPairs (λ x y. before x y ≡ true) xs → AllPairs (λ x y. before x y ≡ true) (in_order before new xs)
  ordered_rise later new xs all rise =
      pairs_from_apart (λ x y. before x y ≡ true) (in_order before new xs) (ordered_apart later new xs all (apart_from_pairs (λ x y. before x y ≡ true) xs rise))
