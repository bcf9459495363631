-- The refusals of a code directory in numbers.
use Rattle.std.specs.Prelude.{ℕ}
use Rattle.cs_policy.specs.declared.refusal.Refusal.{Refusal}
use Rattle.cs_directory.specs.declared.refusal.DirRefusal.{DirRefusal}
use Rattle.cs_directory.specs.declared.refusal.DirRefusal.TheVariants.{Short, BadMagic, LengthBad, Version, PageSize, HashType, HashSize, SlotsOut, Scatter, IdentBad, TeamBad}

-- the number by which a refusal is printed
abbrev pub number_of : DirRefusal → ℕ
number_of Short = 1
number_of BadMagic = 2
number_of LengthBad = 3
number_of (Version v) = 4
number_of (PageSize n) = 5
number_of (HashType n) = 6
number_of (HashSize n) = 7
number_of SlotsOut = 8
number_of Scatter = 9
number_of IdentBad = 10
number_of TeamBad = 11

-- what else a refusal tells, or 0
abbrev pub argument_of : DirRefusal → ℕ
argument_of Short = 0
argument_of BadMagic = 0
argument_of LengthBad = 0
argument_of (Version v) = v
argument_of (PageSize n) = n
argument_of (HashType n) = n
argument_of (HashSize n) = n
argument_of SlotsOut = 0
argument_of Scatter = 0
argument_of IdentBad = 0
argument_of TeamBad = 0

-- a refusal as all formats have it: its family is that of code directories, and it has one argument at most
abbrev pub refusal_of : DirRefusal → Refusal
refusal_of refusal = record { family = 4; number = number_of refusal; a = argument_of refusal; b = 0 }
