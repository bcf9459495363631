-- What pages hold where some of them are resident.
use Rattle.std.specs.Prelude.{ℕ, suc, List, [], ◌∷◌, Option, Some, None, slice_set, slice_index_or}
use Rattle.pg_io.specs.PageBytes.{written_over}
use Rattle.pg_cache.specs.Held.{Held, find_held}

-- the bytes of a page, or else these
abbrev pub bytes_or : Option Held → List ℕ → List ℕ
bytes_or None bytes = bytes
bytes_or (Some held) bytes = held.bytes

-- the pages from a number on, with the bytes of those that are resident
abbrev pub overlaid : List Held → ℕ → List (List ℕ) → List (List ℕ)
overlaid held page [] = []
overlaid held page (bytes ∷ others) = bytes_or (find_held held page) bytes ∷ overlaid held (suc page) others

-- the pages with bytes written over a part of one of them
abbrev pub with_piece : ℕ → ℕ → List ℕ → List (List ℕ) → List (List ℕ)
with_piece page at piece pages = slice_set pages page (written_over (slice_index_or pages page []) at piece)
