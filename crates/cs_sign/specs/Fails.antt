-- How the refusals of an image are passed on, and what a failure tells.
use Rattle.std.specs.Prelude.{◌≡◌, Option, Some}
use Rattle.macho_cmds.specs.declared.refusal.MachFail.{MachFail}
use Rattle.macho_cmds.specs.declared.refusal.MachFail.TheVariants as image
use Rattle.cs_sign.specs.declared.refusal.SignRefusal.{SignRefusal}
use Rattle.cs_sign.specs.declared.refusal.SignRefusal.TheVariants.{Mach}
use Rattle.cs_sign.specs.declared.refusal.SignFail.{SignFail}
use Rattle.cs_sign.specs.declared.refusal.SignFail.TheVariants.{Refused, NoMemory}

-- a refusal is that of the first rule that the image breaks, and want of memory stays so
abbrev pub from_image : MachFail → SignFail
from_image (image.Refused refusal) = Refused (Mach refusal)
from_image image.NoMemory = NoMemory

-- an error that refuses gives this refusal; out of memory is tied to nothing
abbrev pub Refuses : Option SignRefusal → SignFail → Type 0
Refuses wanted (Refused refusal) = wanted ≡ Some refusal
Refuses wanted NoMemory = Unit {0}
