use Rattle.cs_policy.proofs.FlagFacts.{any_bits}
use Rattle.cs_policy.proofs.laws.any_bits_are_flags.Goals as goal

pub returns : goal.returns
returns c = any_bits
