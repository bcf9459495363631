-- Why a book was not opened.
use Rattle.std.specs.Prelude.{◌≡◌, ◌≢◌, ℕ, ◌<◌}
use Rattle.pg_book.specs.declared.book.OpenFail.{OpenFail}
use Rattle.pg_book.specs.declared.book.OpenFail.TheVariants.{NoMemory, Found}

-- What was handed in comes back. Where a number was found, the one that was wanted is that of a name, and the other one differs
-- from it.
abbrev pub IsRefused : {T : Type 0} → T → ℕ → OpenFail T → Type 0
IsRefused given names (NoMemory back) = back ≡ given
IsRefused given names (Found back wanted found) = (back ≡ given) × (wanted < names) × (found ≢ wanted)
