-- The plain step of the trust list: what it answers to an event, and what it is then.
use Rattle.std.specs.Prelude.{ℕ, List, [], ◌∷◌, ◌++◌, length, Option, Some, None, Result, Ok, Err, slice_index_or, nat_lt, if◌then◌else◌}
use Rattle.cs_trust.specs.Listed.{Table, listed}
use Rattle.cs_policy.specs.declared.refusal.Refusal.{Refusal}
use Rattle.cs_policy.specs.declared.trust.TrustEvent.{TrustEvent}
use Rattle.cs_policy.specs.declared.trust.TrustEvent.TheVariants.{LoadModule, Lookup}
use Rattle.cs_policy.specs.declared.trust.TrustReply.{TrustReply}
use Rattle.cs_policy.specs.declared.trust.TrustReply.TheVariants.{Refused, Full, Loaded, Listed, Unlisted}

-- The static modules, each declared cache as the module or the refusal of its bytes, and the modules that were
-- loaded, in the order of loading.
pub record TrustList : Type 0 where
  pub fixed : List Table
  pub caches : List (Result Table Refusal)
  pub loaded : List Table

-- all modules in the order of their numbers
abbrev pub modules : TrustList → List Table
modules list = list.fixed ++ list.loaded

-- the cache of a number; one that is not declared is read as empty here, and no call loads one
abbrev pub cache_at : List (Result Table Refusal) → ℕ → Result Table Refusal
cache_at caches cache = slice_index_or caches cache (Ok [])

-- A cache is loaded: it gets the next number, unless it was refused or 64 modules are loaded.
abbrev pub load : TrustList → Result Table Refusal → TrustReply × TrustList
load list (Err refusal) = (Refused refusal, list)
load list (Ok entries) =
    if nat_lt (length list.loaded) 64
    then (Loaded (length (modules list)), record list { loaded = list.loaded ++ entries ∷ [] })
    else (Full 64, list)

-- what is answered where a cdhash is listed or not
abbrev pub answer : Option (ℕ × ℕ) → TrustReply
answer None = Unlisted
answer (Some found) = Listed found.0 found.1

-- the reply to an event, and the list after it
abbrev pub trust_step : TrustList → TrustEvent → TrustReply × TrustList
trust_step list (LoadModule cache) = load list (cache_at list.caches cache)
trust_step list (Lookup cdhash) = (answer (listed (modules list) cdhash), list)
