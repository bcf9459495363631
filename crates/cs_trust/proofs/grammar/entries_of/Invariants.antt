use Rattle.std.proofs.Common.{◌≡◌, map}
use Rattle.std.specs.List.{range_with_len}
use Rattle.cs_trust.specs.Layout.{entry_at}
use Rattle.cs_trust.proofs.grammar.entries_of.Given as goal

abbrev pub invariant-loop-place : goal.invariant-loop-place
invariant-loop-place l = l.found.items ≡ map (entry_at l.bytes) (range_with_len 0 l.place)
