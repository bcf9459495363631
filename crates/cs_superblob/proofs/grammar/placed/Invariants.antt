use Rattle.std.proofs.Common.{◌≡◌, map}
use Rattle.std.specs.List.{range_with_len}
use Rattle.cs_superblob.specs.Layout.{count, seat_at}
use Rattle.cs_superblob.specs.Rules.{place_rule}
use Rattle.pg_bytes.proofs.RuleFacts.{KeptBelow}
use Rattle.cs_superblob.proofs.grammar.placed.Given as goal

abbrev pub invariant-loop-i : goal.invariant-loop-i
invariant-loop-i l = record {
  found : l.found.items ≡ map (seat_at l.bytes) (range_with_len 0 l.i);
  kept : KeptBelow (place_rule l.bytes) l.i (count l.bytes);
}
