-- How much of the room of a part all workers may use, and how much entries use.
use Rattle.std.specs.Prelude.{ℕ, List, [], ◌∷◌, slice_index_or}
use Rattle.pg_book.specs.declared.needs.Needs.{Needs}
use Rattle.pg_book.specs.Needs.{nothing_needed}
use Rattle.pg_history.specs.Machine.{Line}
use Rattle.pg_calls.specs.Room.{plus, event_uses}

-- what all workers may use of a part
abbrev pub part_needs : List (List Needs) → ℕ → Needs
part_needs [] part = nothing_needed
part_needs (row ∷ rows) part = plus (slice_index_or row part nothing_needed) (part_needs rows part)

-- what entries use of the room of their part
abbrev pub uses_in : List Line → Needs
uses_in [] = nothing_needed
uses_in (e ∷ es) = plus (event_uses e.entry.event) (uses_in es)
