-- What the signed file has in common with the file: all bytes before the signature but those that are written.
use Rattle.std.proofs.Common.{◌≡◌, ℕ, zero, suc, ◌+◌, ◌-◌, ◌^◌, ◌<◌, ◌≤◌, ◌⊎◌, inl, inr, List, ◌++◌, length, take, drop, get_or, slice_index, refl, sym, ap, ◌∙◌, arith}
use Rattle.std.proofs.lemmas.List.{length-take-le, get_or_append_left, get_or-append_right, get_or-take, get_or-drop, drop_at}
use Rattle.byteorder.specs.Endian.{little_from}
use Rattle.byteorder.specs.Numbers.{little_from-bytes}
use Rattle.pg_bytes.specs.Fields.{le32_at, le64_at}
use Rattle.cs_sign.specs.declared.plan.Plan.{Plan}
use Rattle.cs_sign.specs.Body.{IsRoomy, body, put, word_bytes, long_bytes, linkedit_size, linkedit_vmsize}
use Rattle.cs_sign.proofs.BodyFacts.{length-put, length-word_bytes, length-long_bytes}
use Rattle.cs_sign.proofs.RoomFacts.{length-body}

-- ---- numbers by their bytes

little-same : (n i : ℕ) (xs ys : List ℕ) → ((j : ℕ) → i ≤ j → j < i + n → slice_index xs j ≡ slice_index ys j) → little_from i n xs ≡ little_from i n ys
little-same zero i xs ys same = refl
little-same (suc n) i xs ys same =
    rw (same i (omega arith) (omega arith), little-same n (suc i) xs ys (λ j le lt. same j (omega arith) (omega arith))) refl

-- both have the same bytes at some places
abbrev pub IsSameAt : List ℕ → List ℕ → ℕ → ℕ → Type 0
IsSameAt xs ys at n = (j : ℕ) → j < n → get_or xs (at + j) 0 ≡ get_or ys (at + j) 0

pub le32-same : (xs ys : List ℕ) (at : ℕ) → IsSameAt xs ys at 4 → le32_at xs at ≡ le32_at ys at
unfolding le32_at
le32-same xs ys at same =
    little-same 4 0 (drop at xs) (drop at ys) (λ j le lt. get_or-drop at xs j 0 ∙ same j (omega arith) ∙ sym (get_or-drop at ys j 0))

pub le64-same : (xs ys : List ℕ) (at : ℕ) → IsSameAt xs ys at 8 → le64_at xs at ≡ le64_at ys at
unfolding le64_at
le64-same xs ys at same =
    little-same 8 0 (drop at xs) (drop at ys) (λ j le lt. get_or-drop at xs j 0 ∙ same j (omega arith) ∙ sym (get_or-drop at ys j 0))

-- ---- one write

pub get_or-put : (xs field : List ℕ) (at k : ℕ) → at + length field ≤ length xs → (k < at) ⊎ (at + length field ≤ k) → get_or (put xs at field) k 0 ≡ get_or xs k 0
unfolding put
get_or-put xs field at k within (inl before) =
    let long = length-take-le at xs (omega arith) in
    get_or_append_left (take at xs) (field ++ drop (at + length field) xs) 0 k (omega (arith, long)) ∙ get_or-take at xs k 0 before
get_or-put xs field at k within (inr behind) =
    let long = length-take-le at xs (omega arith) in
    let place : (at + length field) + ((k - at) - length field) ≡ k = omega arith in
    get_or-append_right (take at xs) (field ++ drop (at + length field) xs) at k 0 long (omega arith)
    ∙ get_or-append_right field (drop (at + length field) xs) (length field) (k - at) 0 refl (omega arith)
    ∙ get_or-drop (at + length field) xs ((k - at) - length field) 0
    ∙ ap (λ (i : ℕ). get_or xs i 0) place

written : (xs field : List ℕ) (at : ℕ) → at ≤ length xs → drop at (put xs at field) ≡ field ++ drop (at + length field) xs
unfolding put
written xs field at within = drop_at (take at xs) (field ++ drop (at + length field) xs) at (length-take-le at xs within)

pub word-written : (xs : List ℕ) (at number : ℕ) → at ≤ length xs → number < 2 ^ 32 → le32_at (put xs at (word_bytes number)) at ≡ number
unfolding le32_at word_bytes
word-written xs at number within fits =
    ap (little_from 0 4) (written xs (word_bytes number) at within)
    ∙ little_from-bytes 4 0 number (drop (at + length (word_bytes number)) xs) ∙ omega arith

pub long-written : (xs : List ℕ) (at number : ℕ) → at ≤ length xs → number < 2 ^ 64 → le64_at (put xs at (long_bytes number)) at ≡ number
unfolding le64_at long_bytes
long-written xs at number within fits =
    ap (little_from 0 8) (written xs (long_bytes number) at within)
    ∙ little_from-bytes 8 0 number (drop (at + length (long_bytes number)) xs) ∙ omega arith

-- ---- the bytes that are signed

-- Some bytes lie before the signature, and not where a size is written.
pub record IsClear (plan : Plan) (at n : ℕ) : Type 0 where
  pub within : at + n ≤ plan.limit
  pub signature : (at + n ≤ plan.signature + 12) ⊎ (plan.signature + 16 ≤ at)
  pub filesize : (at + n ≤ plan.linkedit.at + 48) ⊎ (plan.linkedit.at + 56 ≤ at)
  pub vmsize : (at + n ≤ plan.linkedit.at + 32) ⊎ (plan.linkedit.at + 40 ≤ at)

-- one of several bytes that end before a part, or begin behind it
beside : (at n low high j : ℕ) → j < n → (at + n ≤ low) ⊎ (high ≤ at) → (at + j < low) ⊎ (high ≤ at + j)
beside at n low high j lt (inl before) = inl (omega arith)
beside at n low high j lt (inr behind) = inr (omega arith)

module _ (bytes : List ℕ) (plan : Plan) (size : ℕ) (room : IsRoomy bytes plan) where
  abbrev front : List ℕ
  front = take plan.limit bytes

  abbrev one : List ℕ
  one = put front (plan.signature + 12) (word_bytes size)

  abbrev two : List ℕ
  two = put one (plan.linkedit.at + 48) (long_bytes (linkedit_size plan size))

  length-front : length front ≡ plan.limit
  length-front = length-take-le plan.limit bytes room.within

  length-one : length one ≡ plan.limit
  length-one = length-put front (word_bytes size) (plan.signature + 12) (omega (arith, length-front, room.signature, length-word_bytes size)) ∙ length-front

  length-two : length two ≡ plan.limit
  length-two = length-put one (long_bytes (linkedit_size plan size)) (plan.linkedit.at + 48) (omega (arith, length-one, room.linkedit, length-long_bytes (linkedit_size plan size))) ∙ length-one

  pub body-is : body bytes plan size ≡ put two (plan.linkedit.at + 32) (long_bytes (linkedit_vmsize bytes plan size))
  unfolding body
  body-is = refl

  -- bytes that are clear are those of the file
  pub kept-clear : (rest : List ℕ) (at n : ℕ) → IsClear plan at n → IsSameAt (body bytes plan size ++ rest) bytes at n
  kept-clear rest at n clear = λ j lt.
      let k = at + j in
      let vmsize = long_bytes (linkedit_vmsize bytes plan size) in
      let filesize = long_bytes (linkedit_size plan size) in
      let long = length-body bytes plan size room in
      let a = get_or_append_left (body bytes plan size) rest 0 k (omega (arith, long, clear.within)) in
      let b = ap (λ (xs : List ℕ). get_or xs k 0) body-is in
      let c = get_or-put two vmsize (plan.linkedit.at + 32) k (omega (arith, length-two, room.linkedit, length-long_bytes (linkedit_vmsize bytes plan size)))
      (rw (length-long_bytes (linkedit_vmsize bytes plan size)) (beside at n (plan.linkedit.at + 32) ((plan.linkedit.at + 32) + 8) j lt (spread (plan.linkedit.at + 40) ((plan.linkedit.at + 32) + 8) (omega arith) clear.vmsize))) in
      let d = get_or-put one filesize (plan.linkedit.at + 48) k (omega (arith, length-one, room.linkedit, length-long_bytes (linkedit_size plan size)))
      (rw (length-long_bytes (linkedit_size plan size)) (beside at n (plan.linkedit.at + 48) ((plan.linkedit.at + 48) + 8) j lt (spread (plan.linkedit.at + 56) ((plan.linkedit.at + 48) + 8) (omega arith) clear.filesize))) in
      let e = get_or-put front (word_bytes size) (plan.signature + 12) k (omega (arith, length-front, room.signature, length-word_bytes size))
      (rw (length-word_bytes size) (beside at n (plan.signature + 12) ((plan.signature + 12) + 4) j lt (spread (plan.signature + 16) ((plan.signature + 12) + 4) (omega arith) clear.signature))) in
      a ∙ b ∙ c ∙ d ∙ e ∙ get_or-take plan.limit bytes k 0 (omega (arith, clear.within))
    where
      spread : {P : Type 0} (a b : ℕ) → a ≡ b → P ⊎ (a ≤ at) → P ⊎ (b ≤ at)
      spread a b same (inl p) = inl p
      spread a b same (inr le) = inr (omega arith)

  -- the size of the signature, in its load command
  pub size-written : (rest : List ℕ) → size < 2 ^ 32 → ((plan.signature + 12) + 4 ≤ plan.linkedit.at + 32) ⊎ (plan.linkedit.at + 56 ≤ plan.signature + 12) → le32_at (body bytes plan size ++ rest) (plan.signature + 12) ≡ size
  size-written rest fits apart =
      let at = plan.signature + 12 in
      let vmsize = long_bytes (linkedit_vmsize bytes plan size) in
      let filesize = long_bytes (linkedit_size plan size) in
      le32-same (body bytes plan size ++ rest) one at (λ j lt.
      get_or_append_left (body bytes plan size) rest 0 (at + j) (omega (arith, length-body bytes plan size room, room.signature))
      ∙ ap (λ (xs : List ℕ). get_or xs (at + j) 0) body-is
      ∙ get_or-put two vmsize (plan.linkedit.at + 32) (at + j) (omega (arith, length-two, room.linkedit, length-long_bytes (linkedit_vmsize bytes plan size)))
      (rw (length-long_bytes (linkedit_vmsize bytes plan size)) (outside (plan.linkedit.at + 32) ((plan.linkedit.at + 32) + 8) j lt (omega arith) (omega arith) apart))
      ∙ get_or-put one filesize (plan.linkedit.at + 48) (at + j) (omega (arith, length-one, room.linkedit, length-long_bytes (linkedit_size plan size)))
      (rw (length-long_bytes (linkedit_size plan size)) (outside (plan.linkedit.at + 48) ((plan.linkedit.at + 48) + 8) j lt (omega arith) (omega arith) apart)))
      ∙ word-written front at size (omega (arith, length-front, room.signature)) fits
    where
      outside : (low high j : ℕ) → j < 4 → plan.linkedit.at + 32 ≤ low → high ≤ plan.linkedit.at + 56 → ((plan.signature + 12) + 4 ≤ plan.linkedit.at + 32) ⊎ (plan.linkedit.at + 56 ≤ plan.signature + 12) → ((plan.signature + 12) + j < low) ⊎ (high ≤ (plan.signature + 12) + j)
      outside low high j lt from to (inl before) = inl (omega arith)
      outside low high j lt from to (inr behind) = inr (omega arith)

  -- how many bytes of the file `__LINKEDIT` has, in its load command
  pub filesize-written : (rest : List ℕ) → linkedit_size plan size < 2 ^ 64 → le64_at (body bytes plan size ++ rest) (plan.linkedit.at + 48) ≡ linkedit_size plan size
  filesize-written rest fits =
      let at = plan.linkedit.at + 48 in
      let vmsize = long_bytes (linkedit_vmsize bytes plan size) in
      le64-same (body bytes plan size ++ rest) two at (λ j lt.
      get_or_append_left (body bytes plan size) rest 0 (at + j) (omega (arith, length-body bytes plan size room, room.linkedit))
      ∙ ap (λ (xs : List ℕ). get_or xs (at + j) 0) body-is
      ∙ get_or-put two vmsize (plan.linkedit.at + 32) (at + j) (omega (arith, length-two, room.linkedit, length-long_bytes (linkedit_vmsize bytes plan size)))
      (inr (omega (arith, length-long_bytes (linkedit_vmsize bytes plan size)))))
      ∙ long-written one at (linkedit_size plan size) (omega (arith, length-one, room.linkedit)) fits
