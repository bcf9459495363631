-- The rules that a signature keeps, and the first of them that its bytes break. Each speaks of the whole text,
-- and gives its refusal where it is broken. The hash function is that of the digester.
-- The rules on types, ranks, special slots and the CMS signature are this repository's own profile.
-- Source: XNU's `cs_blobs.h` and `ubc_subr.c`; Apple TN3126.
use Rattle.std.specs.Prelude.{◌≡◌, ℕ, ◌%◌, List, [], ◌∷◌, ◌++◌, map, find, Option, Some, None, is_some, Result, MatchResult, nat_lt, nat_eq, ◌==◌, if◌then◌else◌}
use Rattle.std.specs.Option.{option_or, option_map}
use Rattle.std.specs.List.{range_with_len}
use Rattle.std.specs.Cmp.Lexicographic.{pointwise}
use Rattle.pg_bytes.specs.declared.fields.Range.{Range}
use Rattle.cs_superblob.specs.declared.entries.Seat.{Seat}
use Rattle.cs_superblob.specs.Rules as index
use Rattle.cs_directory.specs.Rules as directory
use Rattle.cs_directory.specs.Directory.{special_at}
use Rattle.cs_directory.specs.HashPages.{bits_of, bytes_of}
use Rattle.cs_blob.specs.declared.candidates.Candidate.{Candidate}
use Rattle.cs_blob.specs.declared.refusal.BlobRefusal.{BlobRefusal}
use Rattle.cs_blob.specs.declared.refusal.BlobRefusal.TheVariants.{Super, Dir, NoDirectory, SameRank, CmsPresent, SpecialMismatch, SpecialMissing, LimitPastEnd, HashPageLarge, SliceOffset}
use Rattle.cs_blob.specs.declared.refusal.BlobFail.{BlobFail}
use Rattle.cs_blob.specs.declared.refusal.BlobFail.TheVariants.{Refused, NoMemory}
use Rattle.pg_bytes.specs.Ranges.{bytes_in}
use Rattle.cs_blob.specs.Parts.{is_bare, entries, directories, entry_of}
use Rattle.cs_blob.specs.Candidates.{among, ranked, best}
use Rattle.pg_digest.specs.Kinds.{Hash}

-- what the first of two rules gives, or the second where the first is kept
abbrev pub first_of : Option BlobRefusal → Option BlobRefusal → Option BlobRefusal
first_of one other = option_or one other

-- what the first of these rules that is broken gives
abbrev pub earliest : List (Option BlobRefusal) → Option BlobRefusal
earliest [] = None
earliest (rule ∷ rules) = first_of rule (earliest rules)

-- bytes that begin with no code directory are a SuperBlob
unfoldable pub index_rule : List ℕ → Option BlobRefusal
index_rule bytes = if is_bare bytes then None else option_map Super (index.broken bytes)

-- a SuperBlob has a blob of type 0
unfoldable pub type_rule : List ℕ → Option BlobRefusal
type_rule bytes = if is_bare bytes then None else (if is_some (entry_of (entries bytes) 0) then None else Some NoDirectory)

-- the rules on which blobs there are
abbrev pub parts_rule : List ℕ → Option BlobRefusal
parts_rule bytes = first_of (index_rule bytes) (type_rule bytes)

-- the blob of an entry is a code directory
unfoldable pub directory_rule : List ℕ → Seat → Option BlobRefusal
directory_rule bytes seat = option_map Dir (directory.broken (bytes_in bytes seat.range))

-- each of these blobs is, in their order
abbrev pub each_directory : List ℕ → List Seat → Option BlobRefusal
each_directory bytes seats = earliest (map (directory_rule bytes) seats)

-- No code directory has the rank of an earlier one. The second list has those that are still to be looked at,
-- and the first those before them.
abbrev pub same_ranks : List Candidate → List Candidate → Option BlobRefusal
same_ranks earlier [] = None
same_ranks earlier (here ∷ more) =
    first_of (option_map (λ same. SameRank same.seat.slot here.seat.slot) (find (λ candidate. ranked candidate == ranked here) earlier))
    (same_ranks (earlier ++ here ∷ []) more)

-- a CMS signature is empty, which is a blob of 8 bytes
abbrev pub filled_cms : Option Seat → Option BlobRefusal
filled_cms None = None
filled_cms (Some seat) = if seat.range.len == 8 then None else Some (CmsPresent seat.range.len)

unfoldable pub cms_rule : List Seat → Option BlobRefusal
cms_rule entries = filled_cms (entry_of entries 0x10000)

-- A blob that has a special slot, counted from 1, matches it in a code directory. Where there is no such blob,
-- the slot may hold anything.
abbrev pub special_of : Hash → List ℕ → Candidate → ℕ → Option Seat → Option BlobRefusal
special_of hash bytes candidate slot None = None
special_of hash bytes candidate slot (Some seat) =
    if nat_lt candidate.directory.special_slots slot then Some (SpecialMissing slot)
    else (if pointwise nat_eq (hash candidate.directory.kind (bytes_in bytes seat.range)) (special_at (bytes_in bytes candidate.seat.range) slot) then None
    else Some (SpecialMismatch slot))

unfoldable pub special_rule : Hash → List ℕ → List Seat → Candidate → ℕ → Option BlobRefusal
special_rule hash bytes entries candidate slot = special_of hash bytes candidate slot (entry_of entries slot)

-- the types of blobs that have a special slot: 1 to 11
unfoldable pub slot_types : List ℕ
slot_types = range_with_len 1 11

-- each blob of these types does, in the order of their types
abbrev pub each_special : Hash → List ℕ → List Seat → Candidate → Option BlobRefusal
each_special hash bytes entries candidate = earliest (map (special_rule hash bytes entries candidate) slot_types)

-- what a code directory signs is within the slice
abbrev pub limit_rule : Candidate → Range → Option BlobRefusal
limit_rule candidate slice = if nat_lt slice.len candidate.directory.limit then Some LimitPastEnd else None

-- the hash pages of a code directory are no larger than the machine's pages
abbrev pub page_rule : Candidate → ℕ → Option BlobRefusal
page_rule candidate page =
    if nat_lt page (bytes_of candidate.directory.page) then Some (HashPageLarge (bits_of candidate.directory.page)) else None

-- the slice begins where a page of the machine begins
abbrev pub offset_rule : Range → ℕ → Option BlobRefusal
offset_rule slice page = if slice.at % page == 0 then None else Some (SliceOffset slice.at)

-- the rules on the machine's pages, which are tried only where their size is given
abbrev pub machine_rules : Candidate → Range → Option ℕ → Option BlobRefusal
machine_rules candidate slice None = None
machine_rules candidate slice (Some page) = first_of (page_rule candidate page) (offset_rule slice page)

-- the rules on how a code directory fits the slice and the machine's pages
unfoldable pub fit_rules : Candidate → Range → Option ℕ → Option BlobRefusal
fit_rules candidate slice page = first_of (limit_rule candidate slice) (machine_rules candidate slice page)

-- The refusal of the first rule that the bytes break, or none where they are a signature of the slice on a machine with
-- pages of this size, or on any where none is given. What stands beside the code directories is held against the best of
-- them.
unfoldable pub broken : Hash → List ℕ → Range → Option ℕ → Option BlobRefusal
broken hash bytes slice page = earliest (
    parts_rule bytes
    ∷ each_directory bytes (directories bytes)
    ∷ same_ranks [] (among bytes (directories bytes))
    ∷ cms_rule (entries bytes)
    ∷ each_special hash bytes (entries bytes) (best bytes)
    ∷ fit_rules (best bytes) slice page
    ∷ [])

-- a result that tries a rule: it is `Ok` where the rule is kept, and else its refusal
abbrev pub Tries : {T : Type 0} → Option BlobRefusal → Result T BlobRefusal → Type 0
Tries rule result = MatchResult result (λ _. rule ≡ None) (λ refusal. rule ≡ Some refusal)

-- an error that refuses gives this refusal; out of memory is tied to nothing
abbrev pub Refuses : Option BlobRefusal → BlobFail → Type 0
Refuses wanted (Refused refusal) = wanted ≡ Some refusal
Refuses wanted NoMemory = Unit {0}
