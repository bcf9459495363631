-- The layout of a trust cache: a header of 24 bytes, and entries of 22 bytes in version 1 and of 24 in version 2. Each
-- number has its least byte first.
-- Source: `trust_cache_module1` in XNU's `trustcache.h` for version 1. The layout of version 2 is this repository's own.
use Rattle.std.specs.Prelude.{ℕ, ◌+◌, ◌*◌, List, take, drop, map, slice_index, Option, Some, None, ◌==◌, if◌then◌else◌}
use Rattle.std.specs.List.{range_with_len}
use Rattle.pg_bytes.specs.Fields.{le32_at}
use Rattle.cs_trust.specs.declared.entries.Entry.{Entry}
use Rattle.cs_trust.specs.declared.entries.More.{More}

-- the version of the layout
abbrev pub version : List ℕ → ℕ
version bytes = le32_at bytes 0

-- how many entries there are; a number of 16 bytes that names the file stands before
abbrev pub count : List ℕ → ℕ
count bytes = le32_at bytes 20

-- where the entry at a place, counted from 0, begins in a version, and where so many entries end
abbrev pub entry_place : ℕ → ℕ → ℕ
entry_place version place = if version == 2 then 24 + 24 * place else 24 + 22 * place

-- what stands behind the first 22 bytes of an entry: a category and a reserved byte in version 2, and nothing in
-- version 1
abbrev pub more_at : ℕ → List ℕ → ℕ → Option More
more_at version bytes at =
    if version == 2 then Some (record { category = slice_index bytes at; reserved = slice_index bytes (at + 1) }) else None

-- the entry that begins at a byte: its cdhash of 20 bytes, the number of its hash type, and its flags
abbrev pub entry_from : List ℕ → ℕ → Entry
entry_from bytes at = record {
  cdhash = take 20 (drop at bytes);
  hash_type = slice_index bytes (at + 20);
  flags = slice_index bytes (at + 21);
  more = more_at (version bytes) bytes (at + 22);
}

-- the entry at a place, counted from 0
unfoldable pub entry_at : List ℕ → ℕ → Entry
entry_at bytes place = entry_from bytes (entry_place (version bytes) place)

-- all entries, in the order of the file
unfoldable pub entries : List ℕ → List Entry
entries bytes = map (entry_at bytes) (range_with_len 0 (count bytes))
