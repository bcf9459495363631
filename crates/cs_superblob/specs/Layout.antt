-- The layout of a SuperBlob: a header, a table of entries, and the blobs that the entries place. Each number
-- has four bytes, the greatest byte first, and each place counts from the SuperBlob's first byte.
-- Source: `CS_SuperBlob` and `CS_BlobIndex` in XNU's `cs_blobs.h`; Apple TN3126.
use Rattle.std.specs.Prelude.{ℕ, ◌+◌, ◌*◌, List, map}
use Rattle.std.specs.List.{range_with_len}
use Rattle.pg_bytes.specs.Fields.{be32_at}
use Rattle.cs_superblob.specs.declared.entries.Seat.{Seat}

-- the number by which an embedded signature is told from other blobs
abbrev pub magic : List ℕ → ℕ
magic bytes = be32_at bytes 0

-- how many bytes the SuperBlob has, with all its blobs
abbrev pub length_field : List ℕ → ℕ
length_field bytes = be32_at bytes 4

-- how many entries there are
abbrev pub count : List ℕ → ℕ
count bytes = be32_at bytes 8

-- where the table ends: behind 12 bytes of header and eight bytes for each entry
abbrev pub table_end : List ℕ → ℕ
table_end bytes = 12 + 8 * count bytes

-- the type of the blob that entry `i`, counted from 0, places
abbrev pub slot_type : List ℕ → ℕ → ℕ
slot_type bytes i = be32_at bytes (12 + 8 * i)

-- where that blob begins
abbrev pub offset : List ℕ → ℕ → ℕ
offset bytes i = be32_at bytes (16 + 8 * i)

-- how many bytes that blob has by its own second number
abbrev pub blob_length : List ℕ → ℕ → ℕ
blob_length bytes i = be32_at bytes (offset bytes i + 4)

-- what entry `i` says
abbrev pub seat_at : List ℕ → ℕ → Seat
seat_at bytes i = record { slot = slot_type bytes i; range = record { at = offset bytes i; len = blob_length bytes i } }

-- the numbers of the entries: from 0 on, as many as there are
abbrev pub indexes : List ℕ → List ℕ
indexes bytes = range_with_len 0 (count bytes)

-- the entries, in their order
abbrev pub seats : List ℕ → List Seat
seats bytes = map (seat_at bytes) (indexes bytes)
