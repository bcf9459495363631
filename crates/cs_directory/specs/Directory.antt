-- What an accepted code directory says, and where its parts lie.
-- Source: `CS_CodeDirectory` in XNU's `cs_blobs.h`; Apple TN3126, which says what a cdhash is.
use Rattle.std.specs.Prelude.{◌≡◌, ℕ, ◌+◌, ◌-◌, ◌*◌, ◌<◌, ◌≤◌, List, length, take, drop, None, ◌==◌}
use Rattle.std.specs.List.{before_first}
use Rattle.pg_bytes.specs.Ranges.{bytes_in}
use Rattle.pg_digest.specs.Kinds.{Hash, size_of}
use Rattle.cs_directory.specs.Layout.{length_field, version, flags_field, hash_offset, ident_offset, special_slots, code_slots, hash_size, kind, page, limit, blob_bytes}
use Rattle.cs_directory.specs.Fields.{Fields}
use Rattle.cs_directory.specs.Rules.{broken}

-- code slot `i`: the bytes of one hash at that many hashes behind the hash offset
unfoldable pub slot_at : List ℕ → ℕ → List ℕ
slot_at bytes i =
    bytes_in bytes (record { at = hash_offset bytes + i * hash_size bytes; len = hash_size bytes })

-- special slot `t`, counted from 1: the bytes of one hash at that many hashes before the hash offset
unfoldable pub special_at : List ℕ → ℕ → List ℕ
special_at bytes t =
    bytes_in bytes (record { at = hash_offset bytes - t * hash_size bytes; len = hash_size bytes })

-- the identifier, without the zero byte that ends it
unfoldable pub ident_at : List ℕ → List ℕ
ident_at bytes = before_first (λ b. b == 0) (drop (ident_offset bytes) (blob_bytes bytes))

-- the flags that have effect: those that the directory of a Mach-O file can carry
abbrev pub flag_mask : ℕ
flag_mask = 0x00033f02

-- the cdhash, by which trust caches list a directory: the first 20 bytes of the digest of the whole directory
-- by its own hash type
unfoldable pub cdhash : Hash → List ℕ → List ℕ
cdhash hash bytes = take 20 (hash (kind bytes) (blob_bytes bytes))

-- the numbers that the layout places in the bytes
abbrev pub directory_in : List ℕ → Fields
directory_in bytes = record {
  length = length_field bytes;
  version = version bytes;
  flags = flags_field bytes;
  hash_offset = hash_offset bytes;
  ident_offset = ident_offset bytes;
  special_slots = special_slots bytes;
  code_slots = code_slots bytes;
  limit = limit bytes;
  kind = kind bytes;
  page = page bytes;
}

-- The bytes begin with a code directory, and the numbers are its. Bytes behind its length do not matter.
pub record IsDirectory (bytes : List ℕ) (d : Fields) : Type 0 where
  pub unbroken : broken bytes ≡ None
  pub fields : d ≡ directory_in bytes

-- The directory lies within the bytes, and its slots and its identifier begin and end within the directory.
pub record IsInside (bytes : List ℕ) (d : Fields) : Type 0 where
  pub within : d.length ≤ length bytes
  pub header : 44 ≤ d.length
  pub size : hash_size bytes ≡ size_of d.kind
  pub specials : d.special_slots * size_of d.kind ≤ d.hash_offset
  pub codes : d.hash_offset + d.code_slots * size_of d.kind ≤ d.length
  pub ident : d.ident_offset < d.length
