-- The refusals of a fat file in numbers.
use Rattle.std.specs.Prelude.{ℕ}
use Rattle.cs_policy.specs.declared.refusal.Refusal.{Refusal}
use Rattle.macho_slices.specs.declared.refusal.FatRefusal.{FatRefusal}
use Rattle.macho_slices.specs.declared.refusal.FatRefusal.TheVariants.{Short, BadMagic, TooMany, OutOfFile, Overlap}

-- the number by which a refusal is printed
abbrev pub number_of : FatRefusal → ℕ
number_of Short = 1
number_of BadMagic = 2
number_of (TooMany count) = 3
number_of (OutOfFile arch) = 4
number_of (Overlap a b) = 5

-- what else a refusal tells, or 0
abbrev pub arguments_of : FatRefusal → ℕ × ℕ
arguments_of Short = (0, 0)
arguments_of BadMagic = (0, 0)
arguments_of (TooMany count) = (count, 0)
arguments_of (OutOfFile arch) = (arch, 0)
arguments_of (Overlap a b) = (a, b)

-- a refusal as all formats have it: its family is that of fat files
abbrev pub refusal_of : FatRefusal → Refusal
refusal_of refusal = record {
  family = 1;
  number = number_of refusal;
  a = (arguments_of refusal).0;
  b = (arguments_of refusal).1;
}
