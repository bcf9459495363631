-- How the text of a report grows from slice to slice.
use Rattle.std.proofs.Common.{◌≡◌, ℕ, ◌+◌, ◌<◌, ◌≤◌, List, [], ◌∷◌, ◌++◌, length, take, get_or, refl, sym, ap, ◌∙◌, arith, add-one}
use Rattle.std.proofs.Math.Seq.{take-suc}
use Rattle.std.specs.List.{flat_map, enumerate_from}
use Rattle.std.proofs.lemmas.Grind.{flat_map-append}
use Rattle.std.proofs.lemmas.List.{take_all, append-nil}
use Rattle.std.proofs.lemmas.List.FromFn.{length-enumerate_from, get_or-enumerate_from}

-- an element with its number, among all of them
numbered_at : {X : Type 0} (xs : List X) (i : ℕ) (x : X) → i < length xs → get_or xs i x ≡ x → get_or (enumerate_from 0 xs) i (i, x) ≡ (i, x)
numbered_at xs i x lt here =
    let number : 0 + i ≡ i = omega arith in
    get_or-enumerate_from 0 xs i (i, x) lt ∙ rw (number, here) refl

-- the lines of one slice more
pub lines_next : {X : Type 0} (lines : ℕ × X → List ℕ) (xs : List X) (i : ℕ) (x : X) (before now : List ℕ) → i < length xs → get_or xs i x ≡ x → before ≡ flat_map lines (take i (enumerate_from 0 xs)) → now ≡ before ++ lines (i, x) → now ≡ flat_map lines (take (i + 1) (enumerate_from 0 xs))
lines_next lines xs i x before now lt here so_far grew =
    let within : i < length (enumerate_from 0 xs) = omega (arith, length-enumerate_from 0 xs) in
    let whole : take (i + 1) (enumerate_from 0 xs) ≡ take i (enumerate_from 0 xs) ++ (i, x) ∷ [] =
    rw (numbered_at xs i x lt here) at (rw (← add-one) at (take-suc (enumerate_from 0 xs) i (i, x) within)) in
    let last : flat_map lines ((i, x) ∷ []) ≡ lines (i, x) = append-nil (lines (i, x)) in
    grew ∙ (ap (λ t. t ++ lines (i, x)) so_far
    ∙ (ap (λ t. flat_map lines (take i (enumerate_from 0 xs)) ++ t) (sym last)
    ∙ (sym (flat_map-append lines (take i (enumerate_from 0 xs)) ((i, x) ∷ [])) ∙ ap (flat_map lines) (sym whole))))

-- the lines of all slices
pub lines_all : {X : Type 0} (lines : ℕ × X → List ℕ) (xs : List X) (i : ℕ) (now : List ℕ) → length xs ≤ i → now ≡ flat_map lines (take i (enumerate_from 0 xs)) → now ≡ flat_map lines (enumerate_from 0 xs)
lines_all lines xs i now le so_far = so_far ∙ ap (flat_map lines) (take_all i (enumerate_from 0 xs) (omega (arith, length-enumerate_from 0 xs)))
