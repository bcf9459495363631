-- The refusals of the signer in numbers and as text.
use Rattle.std.specs.Prelude.{ℕ, List, ◌++◌, codes}
use Rattle.std.specs.Fmt.{decimal}
use Rattle.cs_policy.specs.Refusal as policy
use Rattle.macho_cmds.specs.Refusals as macho
use Rattle.cs_sign.specs.declared.refusal.SignRefusal.{SignRefusal}
use Rattle.cs_sign.specs.declared.refusal.SignRefusal.TheVariants.{Mach, SegmentPast, LinkeditBad, SignatureNotLast, IdentBad, EntitlementsLong, TooLarge}

-- the number by which a refusal is printed; that of a Mach-O image is printed by its own
abbrev pub number_of : SignRefusal → ℕ
number_of (Mach refusal) = 0
number_of (SegmentPast index) = 1
number_of LinkeditBad = 2
number_of SignatureNotLast = 3
number_of IdentBad = 4
number_of (EntitlementsLong len) = 5
number_of TooLarge = 6

-- what else a refusal tells, or 0
abbrev pub argument_of : SignRefusal → ℕ
argument_of (Mach refusal) = 0
argument_of (SegmentPast index) = index
argument_of LinkeditBad = 0
argument_of SignatureNotLast = 0
argument_of IdentBad = 0
argument_of (EntitlementsLong len) = len
argument_of TooLarge = 0

-- a refusal of the signer's own: its family, its number, its argument and a zero, with points between them
abbrev own_text : SignRefusal → List ℕ
own_text refusal =
    codes "sign." ++ (decimal (number_of refusal) ++ (codes "." ++ (decimal (argument_of refusal) ++ codes ".0")))

-- a refusal as text
abbrev pub refusal_text : SignRefusal → List ℕ
refusal_text (Mach refusal) = policy.refusal_text (macho.refusal_of refusal)
refusal_text refusal = own_text refusal
