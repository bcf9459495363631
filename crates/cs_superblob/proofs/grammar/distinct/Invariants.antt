use Rattle.cs_superblob.specs.Layout.{count}
use Rattle.cs_superblob.specs.Rules.{repeat_rule}
use Rattle.pg_bytes.proofs.RuleFacts.{KeptBelow}
use Rattle.cs_superblob.proofs.grammar.distinct.Given as goal

abbrev pub invariant-loop-i : goal.invariant-loop-i
invariant-loop-i l = KeptBelow (repeat_rule l.bytes) l.i (count l.bytes)
