-- What callers may use of parts: a list for each caller, with an element for each part.
use Rattle.std.specs.Prelude.{ℕ, ◌+◌, List, [], ◌∷◌, map, length, slice_index_or}
use Rattle.std.specs.Global.{Vec}
use Rattle.pg_book.specs.declared.needs.Needs.{Needs}

-- the rows of the table as it is handed over
abbrev pub rows_of : List (Vec Needs) → List (List Needs)
rows_of needs = map (λ (row : Vec Needs). row.items) needs

abbrev pub rows : Vec (Vec Needs) → List (List Needs)
rows needs = rows_of needs.items

abbrev pub nothing_needed : Needs
nothing_needed = record { entries = 0; regions = 0; records = 0; copies = 0; blobs = 0; numbers = 0 }

-- how many entries the caller may draw on the part
abbrev pub entries_at : List (List Needs) → ℕ → ℕ → ℕ
entries_at needs caller part = (slice_index_or (slice_index_or needs caller []) part nothing_needed).entries

-- how many parts there are
abbrev pub parts_of : List (List Needs) → ℕ
parts_of [] = 0
parts_of (row ∷ rows) = length row

-- how many names there are: the parts, and behind them the callers
abbrev pub names_of : List (List Needs) → ℕ
names_of needs = parts_of needs + length needs

abbrev pub row_entries : List Needs → ℕ
row_entries [] = 0
row_entries (n ∷ row) = n.entries + row_entries row

-- the entries that all callers need, on all parts
abbrev pub all_entries : List (List Needs) → ℕ
all_entries [] = 0
all_entries (row ∷ rows) = row_entries row + all_entries rows

-- the entries that all callers need on the part
abbrev pub part_entries : List (List Needs) → ℕ → ℕ
part_entries [] part = 0
part_entries (row ∷ rows) part = (slice_index_or row part nothing_needed).entries + part_entries rows part
