-- How the trust list is kept: a loaded module by the number of its cache.
use Rattle.std.specs.Prelude.{◌≡◌, ℕ, List, [], map, Option, MatchOption, Result, Ok, Err}
use Rattle.cs_policy.specs.declared.refusal.Refusal.{Refusal}
use Rattle.cs_trust.specs.Listed.{Table}
use Rattle.pg_trusted.specs.TrustStep.{TrustList, cache_at}

-- the entries of a cache, of which a refused one has none
abbrev pub entries_of : Result Table Refusal → Table
entries_of (Ok entries) = entries
entries_of (Err refusal) = []

-- a module that may be there, as the entries that it has
abbrev pub IsTableOf : Table → Option Table → Type 0
IsTableOf entries found = MatchOption found (entries ≡ []) (λ table. table ≡ entries)

-- the trust list in which nothing is loaded yet
abbrev pub opened : List Table → List (Result Table Refusal) → TrustList
opened fixed caches = record { fixed = fixed; caches = caches; loaded = [] }

-- the modules of these caches
abbrev pub tables_of : List (Result Table Refusal) → List ℕ → List Table
tables_of caches loaded = map (λ cache. entries_of (cache_at caches cache)) loaded

-- the trust list of these static modules, these caches and these numbers of the caches that were loaded
abbrev pub list_of : List Table → List (Result Table Refusal) → List ℕ → TrustList
list_of fixed caches loaded = record { fixed = fixed; caches = caches; loaded = tables_of caches loaded }
