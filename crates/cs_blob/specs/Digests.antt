-- How many digests the signature's grammar asks for: that of each blob that has a special slot is held against that
-- slot, in the order of types, and an accepted signature has a cdhash.
use Rattle.std.specs.Prelude.{◌≡◌, ℕ, ◌+◌, ◌-◌, List, take, is_some, Result, Ok, Err}
use Rattle.std.specs.List.{count_by}
use Rattle.pg_bytes.specs.Counts.{RoseBy}
use Rattle.cs_superblob.specs.declared.entries.Seat.{Seat}
use Rattle.cs_blob.specs.declared.refusal.BlobRefusal.{BlobRefusal}
use Rattle.cs_blob.specs.declared.refusal.BlobRefusal.TheVariants.{Super, Dir, NoDirectory, SameRank, CmsPresent, SpecialMismatch, SpecialMissing, LimitPastEnd, HashPageLarge, SliceOffset}
use Rattle.cs_blob.specs.declared.refusal.BlobFail.{BlobFail}
use Rattle.cs_blob.specs.declared.refusal.BlobFail.TheVariants.{Refused, NoMemory}
use Rattle.cs_blob.specs.Parts.{entry_of}
use Rattle.cs_blob.specs.Rules.{slot_types}

-- how many types have a blob, of those that have a special slot, from 1 to this one
unfoldable pub special_blobs : List Seat → ℕ → ℕ
special_blobs entries last = count_by (λ slot. is_some (entry_of entries slot)) (take last slot_types)

-- how many types have a blob, of all that have a special slot
abbrev pub all_specials : List Seat → ℕ
all_specials entries = special_blobs entries 11

-- The digests before a refusal: of the blobs up to the one that does not match its slot, or before the one that has
-- no slot; of all of them, where they match; of none, where an earlier rule is broken.
abbrev pub digests_until : List Seat → BlobRefusal → ℕ
digests_until entries (Super refusal) = 0
digests_until entries (Dir refusal) = 0
digests_until entries NoDirectory = 0
digests_until entries (SameRank a b) = 0
digests_until entries (CmsPresent len) = 0
digests_until entries (SpecialMismatch slot) = special_blobs entries slot
digests_until entries (SpecialMissing slot) = special_blobs entries (slot - 1)
digests_until entries LimitPastEnd = all_specials entries
digests_until entries (HashPageLarge n) = all_specials entries
digests_until entries (SliceOffset at) = all_specials entries

-- the digests of the types up to this one, where their rules are tried
abbrev pub digests_to : {T : Type 0} → List Seat → ℕ → Result T BlobRefusal → ℕ
digests_to entries slot (Ok kept) = special_blobs entries slot
digests_to entries slot (Err refusal) = digests_until entries refusal

-- a refusal that comes behind all digests
abbrev pub IsLast : BlobRefusal → Type 0
IsLast refusal = (entries : List Seat) → digests_until entries refusal ≡ all_specials entries

-- a refusal that comes before all digests
abbrev pub IsEarly : BlobRefusal → Type 0
IsEarly refusal = (entries : List Seat) → digests_until entries refusal ≡ 0

-- an error that comes before all digests
abbrev pub IsEarlyFail : BlobFail → Type 0
IsEarlyFail (Refused refusal) = IsEarly refusal
IsEarlyFail NoMemory = Unit {0}

-- the digests where the rules on special slots are tried
abbrev pub digests_among : {T : Type 0} → List Seat → Result T BlobRefusal → ℕ
digests_among entries (Ok kept) = all_specials entries
digests_among entries (Err refusal) = digests_until entries refusal

-- the digests where the best code directory is found; where memory runs out there are none
abbrev pub digests_to_best : {T : Type 0} → List Seat → Result T BlobFail → ℕ
digests_to_best entries (Ok best) = all_specials entries
digests_to_best entries (Err (Refused refusal)) = digests_until entries refusal
digests_to_best entries (Err NoMemory) = 0

-- the digests of a call that answers this: one more for the cdhash where the signature is accepted
abbrev pub digests_of : {T : Type 0} → List Seat → Result T BlobFail → ℕ
digests_of entries (Ok held) = all_specials entries + 1
digests_of entries (Err (Refused refusal)) = digests_until entries refusal
digests_of entries (Err NoMemory) = 0

-- Of several digests in a row `some` were made before a call, and `all` when it returned, whatever the count was when
-- the row began.
abbrev pub Digests : ℕ → ℕ → ℕ → ℕ → Type 0
Digests some all before now = (begun : ℕ) → RoseBy some begun before → RoseBy all begun now
