use Rattle.std.proofs.Common.{◌≡◌, ℕ, ◌<◌, false}
use Rattle.cs_trust.specs.Order.{cdhashes_of}
use Rattle.cs_trust.specs.Rules.{falls}
use Rattle.cs_trust.proofs.grammar.first_fall.Given as goal

abbrev pub invariant-loop-place : goal.invariant-loop-place
invariant-loop-place l = (k : ℕ) → k < l.place → falls (cdhashes_of l.entries) k ≡ false
