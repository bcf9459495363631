use Rattle.std.proofs.Common.{length}
use Rattle.pg_bytes.proofs.RuleFacts.{KeptBelow}
use Rattle.cs_sign.specs.Rules.{past_rule}
use Rattle.cs_sign.proofs.rules.none_past.Given as goal

abbrev pub invariant-loop-index : goal.invariant-loop-index
invariant-loop-index l = KeptBelow (past_rule l.segments l.place l.limit) l.index (length l.segments)
