-- A trust cache that is built of cdhashes. Each number has its least byte first.
-- Source: `trust_cache_module1` in XNU's `trustcache.h` for version 1. The layout of version 2 is this repository's own.
use Rattle.std.specs.Prelude.{◌≡◌, ◌↔◌, ℕ, not, ◌||◌, ◌==◌, List, [], ◌∷◌, ◌++◌, length, map, fold, replicate, Some, None, IsSome, nat_lt, if◌then◌else◌}
use Rattle.std.specs.List.{flat_map, Contains}
use Rattle.std.specs.List.Sorted.{IsStrictlySortedBy}
use Rattle.std.specs.BTreeSet.{insert_key}
use Rattle.pg_bytes.specs.Rules.{Rule, first}
use Rattle.cs_trust.specs.declared.entries.Entry.{Entry}
use Rattle.cs_trust.specs.Order.{order, cdhashes_of}
use Rattle.cs_trust.specs.Layout.{entries}
use Rattle.cs_trust.specs.Listed.{place_of}
use Rattle.cs_trust.specs.Rules as trust
use Rattle.cs_sign.specs.Body.{word_bytes}
use Rattle.cs_sign.specs.declared.refusal.CacheFail.{CacheFail}
use Rattle.cs_sign.specs.declared.refusal.CacheFail.TheVariants.{Version, TooMany, NoMemory}

-- the cdhashes in the order of their bytes, each once
unfoldable pub listed : List (List ℕ) → List (List ℕ)
listed hashes = fold (λ known hash. insert_key order known hash) [] hashes

-- what stands behind the cdhash in an entry: the number of the hash type SHA-256, and zeros
abbrev pub behind_hash : ℕ → List ℕ
behind_hash version = if version == 2 then 2 ∷ replicate 3 0 else 2 ∷ replicate 1 0

-- an entry of a version
abbrev pub entry_bytes : ℕ → List ℕ → List ℕ
entry_bytes version hash = hash ++ behind_hash version

-- a trust cache: its version, a number of 16 bytes, how many entries it has, and the entries
unfoldable pub trust_cache : ℕ → List ℕ → List (List ℕ) → List ℕ
trust_cache version uuid hashes =
    word_bytes version ++ (uuid ++ (word_bytes (length hashes) ++ flat_map (entry_bytes version) hashes))

-- the rules on what is given
abbrev pub cache_rules : List (List ℕ) → ℕ → List (Rule CacheFail)
cache_rules hashes version =
    (not (version == 1 || version == 2), Version version)
    ∷ (nat_lt 65536 (length (listed hashes)), TooMany (length (listed hashes)))
    ∷ []

-- No rule is broken, and this is the trust cache.
pub record IsCache (hashes : List (List ℕ)) (uuid : List ℕ) (version : ℕ) (made : List ℕ) : Type 0 where
  pub unbroken : first (cache_rules hashes version) ≡ None
  pub value : made ≡ trust_cache version uuid (listed hashes)

-- the entry of a cdhash: the hash type SHA-256, and zeros for the rest that the version has
abbrev pub entry_of : ℕ → List ℕ → Entry
entry_of version hash = record {
  cdhash = hash;
  hash_type = 2;
  flags = 0;
  more = if version == 2 then Some (record { category = 0; reserved = 0 }) else None;
}

-- What a reader of trust caches finds in the bytes: each of the cdhashes that were given, and no other.
pub record IsTaken (hashes : List (List ℕ)) (version : ℕ) (made : List ℕ) : Type 0 where
  -- no rule on trust caches is broken
  pub unbroken : trust.broken made ≡ None
  -- there is one entry for each that is listed
  pub entered : entries made ≡ map (entry_of version) (listed hashes)
  -- each cdhash is below those behind it, so none stands twice
  pub ascend : IsStrictlySortedBy order (cdhashes_of (entries made))
  -- a search finds a cdhash exactly where it was given
  pub found : (hash : List ℕ) → IsSome (place_of (entries made) hash) ↔ Contains hashes hash

-- why there is no trust cache: the first broken rule, or want of memory, which is tied to nothing
abbrev pub IsCause : List (List ℕ) → ℕ → CacheFail → Type 0
IsCause hashes version NoMemory = Unit {0}
IsCause hashes version fail = first (cache_rules hashes version) ≡ Some fail
