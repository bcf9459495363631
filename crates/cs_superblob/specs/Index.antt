-- What an accepted SuperBlob says, and where its blobs lie.
-- Source: `CS_SuperBlob` in XNU's `cs_blobs.h`; Apple TN3126.
use Rattle.std.specs.Prelude.{◌≡◌, ℕ, ◌+◌, ◌≤◌, List, length, None}
use Rattle.cs_superblob.specs.declared.entries.Seat.{Seat}
use Rattle.cs_superblob.specs.Layout.{table_end, length_field, seats}
use Rattle.cs_superblob.specs.Rules.{broken}

-- The bytes begin with a SuperBlob, and these are its entries. Bytes behind its length do not matter.
pub record IsIndex (bytes : List ℕ) (found : List Seat) : Type 0 where
  pub unbroken : broken bytes ≡ None
  pub seats : found ≡ seats bytes

-- The blob lies behind the table and within the SuperBlob and the bytes, and has a header of its own.
pub record IsInside (bytes : List ℕ) (seat : Seat) : Type 0 where
  pub behind : table_end bytes ≤ seat.range.at
  pub header : 8 ≤ seat.range.len
  pub within : seat.range.at + seat.range.len ≤ length_field bytes
  pub given : seat.range.at + seat.range.len ≤ length bytes
