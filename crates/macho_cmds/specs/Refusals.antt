-- The refusals of an image in numbers.
use Rattle.std.specs.Prelude.{ℕ}
use Rattle.cs_policy.specs.declared.refusal.Refusal.{Refusal}
use Rattle.macho_cmds.specs.declared.refusal.MachRefusal.{MachRefusal}
use Rattle.macho_cmds.specs.declared.refusal.MachRefusal.TheVariants.{Short, BadMagic, CommandBad, SegmentBad, NoSignature, TwoSignatures, SignatureOutOfSlice, SliceMisaligned}

-- the number by which a refusal is printed
abbrev pub number_of : MachRefusal → ℕ
number_of Short = 1
number_of BadMagic = 2
number_of (CommandBad index) = 3
number_of (SegmentBad index) = 4
number_of NoSignature = 5
number_of TwoSignatures = 6
number_of SignatureOutOfSlice = 7
number_of SliceMisaligned = 8

-- the index of the load command that the refusal tells of, or 0 where it has none
abbrev pub argument_of : MachRefusal → ℕ
argument_of (CommandBad index) = index
argument_of (SegmentBad index) = index
argument_of Short = 0
argument_of BadMagic = 0
argument_of NoSignature = 0
argument_of TwoSignatures = 0
argument_of SignatureOutOfSlice = 0
argument_of SliceMisaligned = 0

-- a refusal as all formats have it: its family is that of Mach-O images, and it has one argument at most
abbrev pub refusal_of : MachRefusal → Refusal
refusal_of refusal = record { family = 2; number = number_of refusal; a = argument_of refusal; b = 0 }
