-- How a digest of any size stands in the 48 bytes of a value.
use Rattle.std.specs.Prelude.{◌≡◌, ℕ, ◌-◌, ◌≤◌, List, ◌++◌, length, drop, replicate}

-- the digest, and zeros up to 48 bytes
abbrev pub padded : List ℕ → List ℕ
padded digest = digest ++ replicate (48 - length digest) 0

-- of these 48 bytes only the first `used` may differ from 0
pub record IsPadded (used : ℕ) (bytes : List ℕ) : Type 0 where
  pub fits : used ≤ 48
  pub whole : length bytes ≡ 48
  pub zeros : drop used bytes ≡ replicate (48 - used) 0
