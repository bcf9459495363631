-- How the number of blobs with special slots grows from type to type.
use Rattle.std.proofs.Common.{◌≡◌, ℕ, ◌+◌, ◌-◌, ◌<◌, ◌≤◌, Bool, true, false, List, get_or, Err, Some, None, refl, ap, ◌∙◌, arith}
use Rattle.std.specs.Prelude.{is_some}
use Rattle.std.proofs.lemmas.List.Sums.{count_by_more_no, count_by_more_yes}
use Rattle.cs_superblob.specs.declared.entries.Seat.{Seat}
use Rattle.cs_blob.specs.declared.refusal.BlobFail.{BlobFail}
use Rattle.cs_blob.specs.declared.refusal.BlobFail.TheVariants.{Refused, NoMemory}
use Rattle.cs_blob.specs.declared.candidates.Candidate.{Candidate}
use Rattle.cs_blob.specs.Parts.{entry_of}
use Rattle.cs_blob.specs.Rules.{slot_types}
use Rattle.pg_bytes.specs.Counts.{Rose, RoseBy}
use Rattle.pg_bytes.proofs.CountFacts.{RoseBy-none, RoseBy-one, RoseBy-join}
use Rattle.cs_blob.specs.Digests.{special_blobs, digests_to_best, Digests, IsEarlyFail}
use Rattle.cs_blob.proofs.RuleFacts.{slot_at, length-slot_types}

-- the type below the next one
pub next_slot : (t : ℕ) → t + 1 - 1 ≡ t
next_slot t = omega arith

-- a type without a blob asks for no digest
pub special_blobs-none : (entries : List Seat) (t : ℕ) → 0 < t → t < 12 → entry_of entries t ≡ None → special_blobs entries t ≡ special_blobs entries (t - 1)
unfolding special_blobs
special_blobs-none entries t positive last absent =
    let has : ℕ → Bool = λ slot. is_some (entry_of entries slot) in
    let no : has (get_or slot_types (t - 1) 0) ≡ false = ap has (slot_at t positive last) ∙ ap is_some absent in
    let step = count_by_more_no has slot_types (t - 1) 0 (omega (arith, length-slot_types)) no in
    let same : (t - 1) + 1 ≡ t = omega arith in
    rw same at step

-- a type with a blob asks for one
pub special_blobs-some : (entries : List Seat) (t : ℕ) (seat : Seat) → 0 < t → t < 12 → entry_of entries t ≡ Some seat → special_blobs entries t ≡ special_blobs entries (t - 1) + 1
unfolding special_blobs
special_blobs-some entries t seat positive last present =
    let has : ℕ → Bool = λ slot. is_some (entry_of entries slot) in
    let yes : has (get_or slot_types (t - 1) 0) ≡ true = ap has (slot_at t positive last) ∙ ap is_some present in
    let step = count_by_more_yes has slot_types (t - 1) 0 (omega (arith, length-slot_types)) yes in
    let same : (t - 1) + 1 ≡ t = omega arith in
    rw same at step

-- a type without a blob is passed without a digest
pub Digests-none : (entries : List Seat) (t before : ℕ) → 0 < t → t < 12 → entry_of entries t ≡ None → Digests (special_blobs entries (t - 1)) (special_blobs entries t) before before
Digests-none entries t before positive last absent begun known =
    rw (special_blobs-none entries t positive last absent) known

-- a type with a blob takes one
pub Digests-one : (entries : List Seat) (t before now : ℕ) (seat : Seat) → 0 < t → t < 12 → entry_of entries t ≡ Some seat → Rose before now → now ≤ before + 1 → Digests (special_blobs entries (t - 1)) (special_blobs entries t) before now
Digests-one entries t before now seat positive last present rose once begun known =
    rw (special_blobs-some entries t seat positive last present)
    (RoseBy-join (special_blobs entries (t - 1)) 1 begun before now known (RoseBy-one before now rose once))

-- no more digests
pub Digests-same : (some before : ℕ) → Digests some some before before
Digests-same some before begun known = known

-- before the first type there is no blob
pub special_blobs-zero : (entries : List Seat) → special_blobs entries 0 ≡ 0
unfolding special_blobs
special_blobs-zero entries = refl

-- a call that fails before all digests makes none
pub no_digests : (entries : List Seat) (fail : BlobFail) (count : ℕ) → IsEarlyFail fail → RoseBy (digests_to_best {T = Candidate} entries (Err fail)) count count
no_digests entries (Refused refusal) count early = rw (early entries) (RoseBy-none count)
no_digests entries NoMemory count early = RoseBy-none count
