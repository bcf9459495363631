-- What is known of the bytes that went out.
use Rattle.std.specs.Prelude.{ℕ, ◌≡◌, ◌≤◌, List, length, take, Option, Result, Ok, Err}
use Rattle.std.specs.Io.KnownBytes.{append_known}
use Rattle.pg_io.specs.declared.sink.Failed.{Failed}

-- how many bytes of a piece a write sent: none where it failed
abbrev pub sent : Result ℕ Failed → ℕ
sent (Ok count) = count
sent (Err _) = 0

-- what was told grew by the first of these bytes, and by no other
pub record SentPart (old new : Option (List ℕ)) (bytes : List ℕ) : Type 0 where
  pub count : ℕ
  pub in_bytes : count ≤ length bytes
  pub first : new ≡ append_known old (take count bytes)
