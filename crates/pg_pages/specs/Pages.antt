-- A page cache with marks and a digester, and the check of a page against the digests of its parts.
use Rattle.std.specs.Prelude.{ℕ, ◌≡◌, ◌≢◌, ◌+◌, ◌*◌, ◌/◌, ◌<◌, List, length, take, drop, false, Option, Some, None, IsSomeAnd}
use Rattle.std.specs.Option.{option_map}
use Rattle.pg_digest.specs.Kinds.{Hash, size_of}
use Rattle.pg_cache.specs.Cache.{CacheNow, at_hand}
use Rattle.pg_pages.specs.declared.check.Check.{Check}
use Rattle.pg_pages.specs.declared.check.Check.TheVariants.{Sealed, NotSealed}
use Rattle.pg_pages.specs.Marks.{Seal, Marks, blank, marks_of}

pub record PagesNow : Type 0 where
  pub cache : CacheNow
  -- the marks of each page of the file, by page number
  pub marks : List Marks
  -- how often the digester was called
  pub calls : ℕ

-- ---- parts and their digests

-- the piece at a place, where bytes are cut into pieces of one size
abbrev pub piece : ℕ → ℕ → List ℕ → List ℕ
piece size place bytes = take size (drop (place * size) bytes)

-- how many parts a page has
abbrev pub parts : Seal → List ℕ → ℕ
parts seal bytes = length bytes / seal.part

-- the digest of a part of a page, and the one that it is held against
abbrev pub found_at : Hash → Seal → List ℕ → ℕ → List ℕ
found_at hash seal bytes place = hash seal.kind (piece seal.part place bytes)

abbrev pub wanted_at : Seal → ℕ → List ℕ
wanted_at seal place = piece (size_of seal.kind) place seal.digests

-- each part of the page hashes to its digest
abbrev pub IsSealed : Hash → Seal → List ℕ → Type 0
IsSealed hash seal bytes = (place : ℕ) → place < parts seal bytes → found_at hash seal bytes place ≡ wanted_at seal place

-- the part at this place is the least that does not, and this is its digest
pub record IsFirstOther (hash : Hash) (seal : Seal) (bytes : List ℕ) (place : ℕ) (digest : List ℕ) : Type 0 where
  pub inside : place < parts seal bytes
  pub before : (p : ℕ) → p < place → found_at hash seal bytes p ≡ wanted_at seal p
  pub found : digest ≡ found_at hash seal bytes place
  pub other : digest ≢ wanted_at seal place

-- the answer of a check of these bytes
abbrev pub Answers : Hash → Seal → List ℕ → Check → Type 0
Answers hash seal bytes Sealed = IsSealed hash seal bytes
Answers hash seal bytes (NotSealed place found) = IsFirstOther hash seal bytes place found

-- how many parts were hashed for it at most
abbrev pub hashed : ℕ → Check → ℕ
hashed parts Sealed = parts
hashed parts (NotSealed place _) = place + 1

-- the present bytes of a page that is resident or in the spare buffer
abbrev pub bytes_at_hand : CacheNow → ℕ → Option (List ℕ)
bytes_at_hand cache page = option_map (λ held. held.bytes) (at_hand cache page)

-- what a check found, by the bytes that were at hand
pub record Checked (hash : Hash) (seal : Seal) (bytes : Option (List ℕ)) (check : Check) : Type 0 where
  pub present : List ℕ
  pub at_hand : bytes ≡ Some present
  pub answer : Answers hash seal present check

-- ---- what is true of the marks after every call

-- A page is at hand, each of its parts hashes to its digest, and no writer maps it.
pub record IsValid (hash : Hash) (cache : CacheNow) (page : ℕ) (marks : Marks) (seal : Seal) : Type 0 where
  pub sealed : IsSomeAnd (at_hand cache page) (λ held. IsSealed hash seal held.bytes)
  pub untainted : marks.tainted ≡ false
  pub unmapped : marks.writable ≡ false

-- Nothing is kept of a page that is not at hand, and what a page was found sealed by seals it.
pub record IsFit (hash : Hash) (cache : CacheNow) (page : ℕ) (marks : Marks) : Type 0 where
  pub blank : at_hand cache page ≡ None → marks ≡ blank
  pub valid : (seal : Seal) → marks.validated ≡ Some seal → IsValid hash cache page marks seal

pub record IsMarked (hash : Hash) (cache : CacheNow) (marks : List Marks) : Type 0 where
  pub count : length marks ≡ cache.pager.pages
  pub fit : (page : ℕ) → IsFit hash cache page (marks_of marks page)

-- the page is validated for this: it is marked as sealed by it
abbrev pub IsValidated : PagesNow → ℕ → Seal → Type 0
IsValidated pages page seal = (marks_of pages.marks page).validated ≡ Some seal
