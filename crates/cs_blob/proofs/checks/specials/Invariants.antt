use Rattle.std.proofs.Common.{◌-◌}
use Rattle.pg_bytes.specs.Counts.{RoseBy}
use Rattle.cs_blob.specs.Rules.{special_rule, slot_types}
use Rattle.cs_blob.specs.Digests.{special_blobs}
use Rattle.cs_blob.proofs.RuleFacts.{KeptBefore}
use Rattle.cs_blob.proofs.checks.specials.Given as goal

abbrev pub invariant-loop-slot : goal.invariant-loop-slot
invariant-loop-slot g l = record {
  kept : KeptBefore (special_rule g.D.Digester.hash l.bytes l.entries l.best) slot_types (l.slot - 1);
  digests : RoseBy (special_blobs l.entries (l.slot - 1)) (g.D.Digester.calls l.fn.d) (g.D.Digester.calls l.d);
}
