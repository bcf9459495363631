-- Callers that need entries on the parts of their own numbers alone.
use Rattle.std.specs.Prelude.{ℕ, ◌==◌, if◌then◌else◌, List, map}
use Rattle.std.specs.List.{range_with_len}
use Rattle.pg_book.specs.declared.needs.Needs.{Needs}

-- so many entries on the part of the caller's number, and nothing of the others
abbrev pub own_needs : ℕ → ℕ → ℕ → Needs
own_needs draws caller part = record { entries = if part == caller then draws else 0; regions = 0; records = 0; copies = 0; blobs = 0; numbers = 0 }

-- the caller's needs, of as many parts as there are callers
abbrev pub own_row : ℕ → ℕ → ℕ → List Needs
own_row callers draws caller = map (own_needs draws caller) (range_with_len 0 callers)

-- the needs of all callers
abbrev pub own_table : ℕ → ℕ → List (List Needs)
own_table callers draws = map (own_row callers draws) (range_with_len 0 callers)
