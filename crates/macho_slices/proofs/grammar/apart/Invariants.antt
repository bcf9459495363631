use Rattle.std.proofs.Common.{length}
use Rattle.macho_slices.specs.Rules.{overlap_rule}
use Rattle.pg_bytes.proofs.RuleFacts.{KeptBelow}
use Rattle.macho_slices.proofs.grammar.apart.Given as goal

abbrev pub invariant-loop-b : goal.invariant-loop-b
invariant-loop-b l = KeptBelow (overlap_rule l.found) l.b (length l.found)
