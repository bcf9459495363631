-- Where a cdhash is listed. These look at all entries, in whatever order they stand.
use Rattle.std.specs.Prelude.{ℕ, ◌+◌, Bool, not, List, [], ◌∷◌, length, take, Option, Some, None, position, ◌==◌}
use Rattle.std.specs.Option.{option_map_or}
use Rattle.std.specs.List.{count_by}
use Rattle.cs_trust.specs.declared.entries.Entry.{Entry}
use Rattle.cs_trust.specs.Order.{is_same}

-- a module: its entries
abbrev pub Table : Type 0
Table = List Entry

-- the entry that lists a cdhash and says nothing else
abbrev pub listing : List ℕ → Entry
listing cdhash = record { cdhash = cdhash; hash_type = 0; flags = 0; more = None }

-- the least place of a module, counted from 0, whose entry has the cdhash
unfoldable pub place_of : Table → List ℕ → Option ℕ
place_of entries cdhash = position (λ entry. is_same entry.cdhash cdhash) entries

-- the least module, where the first of these has the number `next`, and in it the least place that has the cdhash
abbrev pub listed_from : ℕ → List Table → List ℕ → Option (ℕ × ℕ)
listed_from next [] cdhash = None
listed_from next (entries ∷ modules) cdhash =
    option_map_or (λ place. Some (next, place)) (place_of entries cdhash) (listed_from (next + 1) modules cdhash)

-- the least module, counted from 0, and in it the least place that has the cdhash
abbrev pub listed : List Table → List ℕ → Option (ℕ × ℕ)
listed modules cdhash = listed_from 0 modules cdhash

-- whether a module has an entry
abbrev pub is_filled : Table → Bool
is_filled entries = not (length entries == 0)

-- how many of several modules have an entry
abbrev pub filled : List Table → ℕ
filled modules = count_by is_filled modules

-- the modules that a search goes through until it has this answer: all up to that of the answer
abbrev pub searched : List Table → Option (ℕ × ℕ) → List Table
searched modules None = modules
searched modules (Some found) = take (found.0 + 1) modules
