use Rattle.std.proofs.Common.{◌≡◌, map}
use Rattle.std.specs.List.{range_with_len}
use Rattle.macho_slices.specs.Layout.{count, slice_at}
use Rattle.macho_slices.specs.Rules.{place_rule}
use Rattle.pg_bytes.proofs.RuleFacts.{KeptBelow}
use Rattle.macho_slices.proofs.grammar.placed.Given as goal

abbrev pub invariant-loop-i : goal.invariant-loop-i
invariant-loop-i l = record {
  found : l.found.items ≡ map (slice_at l.width l.bytes) (range_with_len 0 l.i);
  kept : KeptBelow (place_rule l.width l.bytes) l.i (count l.bytes);
}
