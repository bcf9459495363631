-- The refusals of a SuperBlob in numbers.
use Rattle.std.specs.Prelude.{ℕ}
use Rattle.cs_policy.specs.declared.refusal.Refusal.{Refusal}
use Rattle.cs_superblob.specs.declared.refusal.SuperRefusal.{SuperRefusal}
use Rattle.cs_superblob.specs.declared.refusal.SuperRefusal.TheVariants.{Short, BadMagic, LengthBad, CountBad, EntryOut, Twice}

-- the number by which a refusal is printed
abbrev pub number_of : SuperRefusal → ℕ
number_of Short = 1
number_of (BadMagic magic) = 2
number_of LengthBad = 3
number_of CountBad = 4
number_of (EntryOut index) = 5
number_of (Twice slot) = 6

-- what else a refusal tells, or 0
abbrev pub argument_of : SuperRefusal → ℕ
argument_of Short = 0
argument_of (BadMagic magic) = magic
argument_of LengthBad = 0
argument_of CountBad = 0
argument_of (EntryOut index) = index
argument_of (Twice slot) = slot

-- a refusal as all formats have it: its family is that of SuperBlobs, and it has one argument at most
abbrev pub refusal_of : SuperRefusal → Refusal
refusal_of refusal = record { family = 3; number = number_of refusal; a = argument_of refusal; b = 0 }
