-- Parts of a text.
use Rattle.std.specs.Prelude.{ℕ, List, take, drop}
use Rattle.pg_bytes.specs.declared.fields.Range.{Range}

-- the bytes of a range
unfoldable pub bytes_in : List ℕ → Range → List ℕ
bytes_in bytes range = take range.len (drop range.at bytes)
