use Rattle.macho_cmds.proofs.WalkFacts.{IsWalked}
use Rattle.macho_cmds.proofs.grammar.walked.Given as goal

abbrev pub invariant-loop-index : goal.invariant-loop-index
invariant-loop-index l = IsWalked l.bytes l.index l.at l.found.segments.items l.found.signature
