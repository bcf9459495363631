-- What is told of bytes that go out piece after piece.
use Rattle.std.proofs.Common.{◌≡◌, ◌+◌, ◌≤◌, ◌-◌, ℕ, List, [], ◌++◌, length, take, drop, Option, Some, None, refl, ap, sym, ◌∙◌, append_assoc, append-nil, arith, length-drop}
use Rattle.std.proofs.Math.Seq.{take-add}
use Rattle.std.proofs.lemmas.List.{take_rest}
use Rattle.std.specs.Io.KnownBytes.{append_known}

-- no bytes change nothing
pub append_known-nil : (told : Option (List ℕ)) → append_known told [] ≡ told
append_known-nil None = refl
append_known-nil (Some so_far) = ap Some (append-nil so_far)

-- two pieces, one after the other
pub append_known-append : (told : Option (List ℕ)) (first second : List ℕ) → append_known (append_known told first) second ≡ append_known told (first ++ second)
append_known-append None first second = refl
append_known-append (Some so_far) first second = ap Some (append_assoc so_far first second)

-- the bytes from a place on
abbrev pub rest_from : ℕ → List ℕ → List ℕ
rest_from at bytes = take (length bytes - at) (drop at bytes)

-- the first bytes, and then the first of the rest
take-rest_from : (at n : ℕ) (bytes : List ℕ) → take at bytes ++ take n (rest_from at bytes) ≡ take (at + n) bytes
take-rest_from at n bytes = rw (take_rest bytes at) (sym (take-add at n bytes))

length-rest_from : (at : ℕ) (bytes : List ℕ) → length (rest_from at bytes) ≡ length bytes - at
length-rest_from at bytes = rw (take_rest bytes at) (length-drop at bytes)

-- a loop over a sink: the first bytes, so many, went out
pub record OutSoFar {K : Type 0} (written : K → Option (List ℕ)) (faults : K → ℕ) (old now : K) (bytes : List ℕ) (at : ℕ) : Type 0 where
  pub in_bytes : at ≤ length bytes
  pub first : written now ≡ append_known (written old) (take at bytes)
  pub sound : faults now ≡ faults old

-- and then the first of the rest
pub first_grows : (told now next : Option (List ℕ)) (bytes : List ℕ) (at n : ℕ) → now ≡ append_known told (take at bytes) → next ≡ append_known now (take n (rest_from at bytes)) → next ≡ append_known told (take (at + n) bytes)
first_grows told now next bytes at n first grew =
    grew
    ∙ ap (λ t. append_known t (take n (rest_from at bytes))) first
    ∙ append_known-append told (take at bytes) (take n (rest_from at bytes))
    ∙ ap (append_known told) (take-rest_from at n bytes)

-- a write in the loop that sent so many of the rest
pub next_out : {K : Type 0} (written : K → Option (List ℕ)) (faults : K → ℕ) (old now next : K) (bytes : List ℕ) (at n : ℕ) → OutSoFar written faults old now bytes at → n ≤ length (rest_from at bytes) → written next ≡ append_known (written now) (take n (rest_from at bytes)) → faults next ≡ faults now → OutSoFar written faults old next bytes (at + n)
next_out written faults old now next bytes at n so_far fits grew sound = record {
  in_bytes = let l = length-rest_from at bytes in let h = so_far.in_bytes in omega arith;
  first = first_grows (written old) (written now) (written next) bytes at n so_far.first grew;
  sound = sound ∙ so_far.sound;
}
