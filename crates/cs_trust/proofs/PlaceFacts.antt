-- The first place of a list that passes a test.
use Rattle.std.proofs.Common.{◌≡◌, ℕ, ◌<◌, ◌+◌, Bool, true, false, not, cond, List, [], ◌∷◌, map, length, get_or, Some, None, refl, ap, ⊎_elim, arith}
use Rattle.std.proofs.lemmas.Bool.{cases_lt, lt-ltb, le-ltb}
use Rattle.std.proofs.lemmas.List.Sums.{position_or_len_is, fails_before_first}
use Rattle.std.specs.Prelude.{position}
use Rattle.std.proofs.Math.ListN.{length-map}
use Rattle.std.specs.List.{position_or_len}

-- a place that passes, where none before it does
pub position_is : {X : Type 0} (p : X → Bool) (xs : List X) (i : ℕ) (d : X) → i < length xs → ((k : ℕ) → k < i → p (get_or xs k d) ≡ false) → p (get_or xs i d) ≡ true → position p xs ≡ Some i
position_is p xs i d lt none here =
    let first = position_or_len_is p xs i d (omega arith) none (λ _. here) in
    rw (first, lt-ltb i (length xs) lt) refl

-- no place passes
pub position_none : {X : Type 0} (p : X → Bool) (xs : List X) (d : X) → ((k : ℕ) → k < length xs → p (get_or xs k d) ≡ false) → position p xs ≡ None
position_none p xs d none =
    let first = position_or_len_is p xs (length xs) d (omega arith) none (λ lt. absurd (omega arith)) in
    rw (first, le-ltb (length xs) (length xs) (omega arith)) refl

-- what it tells of each place that no place passes
pub position_fails : {X : Type 0} (p : X → Bool) (xs : List X) → position p xs ≡ None → (k : ℕ) (d : X) → k < length xs → p (get_or xs k d) ≡ false
position_fails p xs none k d lt =
    ⊎_elim
    (λ found.
    let some : position p xs ≡ Some (position_or_len p xs) = rw (lt-ltb (position_or_len p xs) (length xs) found) refl in
    absurd cc)
    (λ past. fails_before_first p xs k d (omega arith))
    (cases_lt (position_or_len p xs) (length xs))

-- the first place of mapped elements, by the elements
mapped_len : {X Y : Type 0} (f : X → Y) (p : Y → Bool) (xs : List X) → position_or_len (λ x. p (f x)) xs ≡ position_or_len p (map f xs)
mapped_len f p [] = refl
mapped_len f p (x ∷ xs) = ap (λ rest. cond (not (p (f x))) (1 + rest) 0) (mapped_len f p xs)

pub position-mapped : {X Y : Type 0} (f : X → Y) (p : Y → Bool) (xs : List X) → position (λ x. p (f x)) xs ≡ position p (map f xs)
position-mapped f p xs = rw (mapped_len f p xs, length-map xs f) refl
