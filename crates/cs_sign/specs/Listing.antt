-- What the trust cache of several files lists: the cdhashes of their slices.
use Rattle.std.specs.Prelude.{◌≡◌, ◌↔◌, ℕ, ◌≤◌, List, [], ◌∷◌, length, take, Some, None, Ok, IsSome}
use Rattle.std.specs.List.{Contains}
use Rattle.pg_digest.specs.Kinds.{Hash}
use Rattle.pg_digest.specs.declared.kinds.HashKind.TheVariants.{Sha256}
use Rattle.macho_cmds.specs.Images.{image_of}
use Rattle.cs_trust.specs.Layout.{entries}
use Rattle.cs_trust.specs.Listed.{place_of}
use Rattle.cs_trust.specs.Rules as trust
use Rattle.cs_verify.specs.Report.{report}
use Rattle.cs_sign.specs.Plans.{plan_of}
use Rattle.cs_sign.specs.Requests.{Request}
use Rattle.cs_sign.specs.Reading.{Found, hashes_in}
use Rattle.cs_sign.specs.Ending.{cache_of, cache_run}
use Rattle.cs_sign.specs.Verified.{directory_of}

-- One of the files that were found has an accepted slice with this cdhash.
pub record IsSlice (hash : Hash) (found : List Found) (cdhash : List ℕ) : Type 0 where
  pub bytes : List ℕ
  pub file : Contains found (Some bytes)
  pub slice : Contains (hashes_in (report hash bytes)) cdhash

-- A reader of trust caches takes the bytes, and finds in them the cdhashes of the slices of these files, and no others.
pub record ListsSlices (hash : Hash) (found : List Found) (made : List ℕ) : Type 0 where
  pub unbroken : trust.broken made ≡ None
  pub lists : (cdhash : List ℕ) → IsSome (place_of (entries made) cdhash) ↔ IsSlice hash found cdhash

-- the cdhash of a signed file
abbrev pub signed_cdhash : Hash → List ℕ → Request → List ℕ
signed_cdhash hash bytes request = take 20 (hash Sha256 (directory_of hash bytes request (plan_of (image_of bytes))))

-- A trust cache is made of the file, and one that is made of it and of other files lists its cdhash.
pub record IsListed (hash : Hash) (signed cdhash : List ℕ) : Type 0 where
  pub alone : cache_run hash (Some signed ∷ []) ≡ Ok (cache_of (cdhash ∷ []))
  pub among : (found : List Found) (made : List ℕ) → length found ≤ 64 → Contains found (Some signed) → cache_run hash found ≡ Ok made → IsSome (place_of (entries made) cdhash)
