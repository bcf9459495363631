-- What the tests of columns answer.
use Rattle.std.specs.Prelude.{◌≡◌, ◌<◌, ◌≤◌, ◌^◌, ℕ, Bool, true, false, Result, Ok, Err}
use Rattle.scene_text.specs.declared.checks.Refused.{Refused}
use Rattle.scene_text.specs.declared.checks.Refused.TheVariants.{NoMemory, Kind}

-- the number is below the count, unless memory ran out, and else the name is unknown
abbrev pub IsDeclared : ℕ → ℕ → Result ℕ Refused → Type 0
IsDeclared count number (Ok n) = (n ≡ number) × (number < count)
IsDeclared count number (Err NoMemory) = Unit {0}
IsDeclared count number (Err (Kind kind)) = (kind ≡ 7) × (count ≤ number)

-- the number has 32 bits, and else it is out of range
abbrev pub IsNarrow : ℕ → Result ℕ Refused → Type 0
IsNarrow number (Ok n) = (n ≡ number) × (number < 2 ^ 32)
IsNarrow number (Err NoMemory) = ⊥
IsNarrow number (Err (Kind kind)) = (kind ≡ 8) × (2 ^ 32 ≤ number)

-- what a test of ranges answers
abbrev pub in_range_if : Bool → Result (Unit {0}) Refused
in_range_if true = Ok tt
in_range_if false = Err (Kind 8)
