-- The refusals of a trust cache in numbers.
use Rattle.std.specs.Prelude.{ℕ}
use Rattle.cs_policy.specs.declared.refusal.Refusal.{Refusal}
use Rattle.cs_trust.specs.declared.refusal.TrustRefusal.{TrustRefusal}
use Rattle.cs_trust.specs.declared.refusal.TrustRefusal.TheVariants.{Short, Version, LengthBad, NotSorted, TooMany}

-- the number by which a printed refusal is told
abbrev pub number_of : TrustRefusal → ℕ
number_of Short = 1
number_of (Version v) = 2
number_of LengthBad = 3
number_of (NotSorted place) = 4
number_of TooMany = 5

-- what else a refusal tells, or 0
abbrev pub argument_of : TrustRefusal → ℕ
argument_of Short = 0
argument_of (Version v) = v
argument_of LengthBad = 0
argument_of (NotSorted place) = place
argument_of TooMany = 0

-- a refusal as all formats have it: its family is that of trust caches, and it has one argument at most
abbrev pub refusal_of : TrustRefusal → Refusal
refusal_of refusal = record { family = 6; number = number_of refusal; a = argument_of refusal; b = 0 }
