use Rattle.std.proofs.Common.{◌-◌, length}
use Rattle.cs_trust.specs.Order.{cdhashes_of}
use Rattle.cs_trust.proofs.HalfFacts.{Halved, Costs}
use Rattle.cs_trust.proofs.search.halve.Given as goal

abbrev pub invariant-loop-low : goal.invariant-loop-low
invariant-loop-low g l =
    Halved (cdhashes_of l.entries) l.sought.cdhash.now l.low l.high l.found
    × Costs l.initial.steps l.steps (l.high - l.low) (length l.entries)

abbrev pub decreases-loop-low : goal.decreases-loop-low
decreases-loop-low g l = l.high - l.low
