-- How a file that breaks the rules on fat files is passed on.
use Rattle.std.specs.Prelude.{◌≡◌, Option, Some}
use Rattle.macho_slices.specs.declared.refusal.FatRefusal.{FatRefusal}
use Rattle.macho_slices.specs.declared.refusal.FatFail.{FatFail}
use Rattle.macho_slices.specs.declared.refusal.FatFail.TheVariants as slices
use Rattle.cs_verify.specs.declared.report.VerifyFail.{VerifyFail}
use Rattle.cs_verify.specs.declared.report.VerifyFail.TheVariants.{Refused, NoMemory}

-- a refusal is that of the first rule that the file breaks, and want of memory stays so
abbrev pub from_slices : FatFail → VerifyFail
from_slices (slices.Refused refusal) = Refused refusal
from_slices slices.NoMemory = NoMemory

-- an error that refuses gives this refusal; out of memory is tied to nothing
abbrev pub Refuses : Option FatRefusal → VerifyFail → Type 0
Refuses wanted (Refused refusal) = wanted ≡ Some refusal
Refuses wanted NoMemory = Unit {0}
