-- What an accepted signature holds.
use Rattle.std.specs.Prelude.{ℕ, List}
use Rattle.pg_bytes.specs.declared.fields.Range.{Range}
use Rattle.cs_directory.specs.Fields.{Fields}

-- The bytes of a signature, its best code directory with the bytes of that one, the slice that is signed, and
-- the cdhash of the directory.
pub record Signature : Type 0 where
  pub bytes : List ℕ
  pub best : Fields
  pub best_bytes : List ℕ
  pub slice : Range
  pub cdhash : List ℕ
