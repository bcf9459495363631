-- How the load commands of a file lie to one another.
use Rattle.std.proofs.Common.{◌≡◌, ℕ, zero, suc, ◌+◌, ◌-◌, ◌<◌, ◌≤◌, ◌⊎◌, inl, inr, List, refl, arith}
use Rattle.std.proofs.lemmas.Bool.{cases_lt}
use Rattle.macho_cmds.specs.Layout.{size, place_of}

-- where the next begins
place-next : (bytes : List ℕ) (i : ℕ) → place_of bytes (suc i) ≡ place_of bytes i + size bytes (place_of bytes i)
unfolding place_of
place-next bytes i = refl

-- a load command ends before a later one begins
place-behind : (bytes : List ℕ) (i d : ℕ) → place_of bytes i + size bytes (place_of bytes i) ≤ place_of bytes (suc (d + i))
place-behind bytes i zero =
    let same : suc (0 + i) ≡ suc i = omega arith in
    rw same (omega (arith, place-next bytes i))
place-behind bytes i (suc d) =
    let same : suc (suc d + i) ≡ suc (suc (d + i)) = omega arith in
    rw same (omega (arith, place-next bytes (suc (d + i)), place-behind bytes i d))

pub place-order : (bytes : List ℕ) (i j : ℕ) → i < j → place_of bytes i + size bytes (place_of bytes i) ≤ place_of bytes j
place-order bytes i j lt =
    let same : suc ((j - suc i) + i) ≡ j = omega arith in
    rw same at (place-behind bytes i (j - suc i))

-- and behind the header
pub place-start : (bytes : List ℕ) (i : ℕ) → 32 ≤ place_of bytes i
unfolding place_of
place-start bytes zero = omega arith
place-start bytes (suc i) = omega (arith, place-start bytes i)

-- bytes of a load command, and a part of another: apart where the commands differ
pub apart-from : (bytes : List ℕ) (i j at n low high : ℕ) → at + n ≤ size bytes (place_of bytes i) → high ≤ size bytes (place_of bytes j) → (i ≡ j → (at + n ≤ low) ⊎ (high ≤ at)) → (place_of bytes i + at + n ≤ place_of bytes j + low) ⊎ (place_of bytes j + high ≤ place_of bytes i + at)
apart-from bytes i j at n low high inside part here = elim (cases_lt i j) [
  | inl before ↦ inl (omega (arith, place-order bytes i j before))
  | inr from ↦ elim (cases_lt j i) [
    | inl behind ↦ inr (omega (arith, place-order bytes j i behind))
    | inr upto ↦
        let same : i ≡ j = omega arith in
        moved same (here same)
  ]
]
  where
    moved : i ≡ j → (at + n ≤ low) ⊎ (high ≤ at) → (place_of bytes i + at + n ≤ place_of bytes j + low) ⊎ (place_of bytes j + high ≤ place_of bytes i + at)
    moved same (inl le) = inl (rw same (omega arith))
    moved same (inr le) = inr (rw same (omega arith))
