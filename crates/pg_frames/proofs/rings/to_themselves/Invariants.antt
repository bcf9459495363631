use Rattle.std.proofs.Common.{◌≡◌, ℕ, ◌<◌, length}
use Rattle.pg_frames.specs.Links.{at_node}
use Rattle.pg_frames.proofs.rings.to_themselves.Given as goal

abbrev pub invariant-loop-node : goal.invariant-loop-node
invariant-loop-node l = (length l.row ≡ l.nodes) × ((i : ℕ) → i < l.node → at_node l.row i ≡ i)
