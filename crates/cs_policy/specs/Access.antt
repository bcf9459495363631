-- What a protection permits.
use Rattle.std.specs.Prelude.{Bool, true, false}
use Rattle.cs_policy.specs.declared.access.Access.{Access}
use Rattle.cs_policy.specs.declared.access.Access.TheVariants.{Read, Write, Execute}
use Rattle.cs_policy.specs.declared.access.Prot.{Prot}
use Rattle.cs_policy.specs.declared.access.Prot.TheVariants.{R, RW, RX, RWX}

-- each protection permits reading; its letters W and X say whether it permits writing and execution
abbrev pub permits : Prot → Access → Bool
permits prot Read = true
permits R Write = false
permits RX Write = false
permits RW Write = true
permits RWX Write = true
permits R Execute = false
permits RW Execute = false
permits RX Execute = true
permits RWX Execute = true
