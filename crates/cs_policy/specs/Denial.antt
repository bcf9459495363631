-- Denials by number.
use Rattle.std.specs.Prelude.{ℕ}
use Rattle.cs_policy.specs.declared.denial.Denial.{Denial}
use Rattle.cs_policy.specs.declared.denial.Denial.TheVariants.{PrivateCopy, Unsigned, BeyondLimit, WritableShared, Mismatch, SealedWrite}

-- the number of a denial, in the order of the variants
abbrev pub number_of : Denial → ℕ
number_of (PrivateCopy page) = 1
number_of (Unsigned page) = 2
number_of (BeyondLimit page) = 3
number_of (WritableShared page region) = 4
number_of (Mismatch page slot found wanted) = 5
number_of (SealedWrite page) = 6
