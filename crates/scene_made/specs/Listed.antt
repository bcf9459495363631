-- What a cdhash is for a line that admits it.
use Rattle.std.specs.Prelude.{◌≡◌, ℕ, List, length}
use Rattle.hex.specs.Hex.{IsBytes}

-- it has 20 bytes
pub record IsListed (cdhash : List ℕ) : Type 0 where
  pub bytes : IsBytes cdhash
  pub count : length cdhash ≡ 20
