use Rattle.std.proofs.Common.{◌≡◌, ◌+◌, ◌*◌, ◌≤◌, take, drop}
use Rattle.cs_trust.specs.Listed.{listed, listed_from, filled}
use Rattle.cs_trust.proofs.static_trust.StaticTrust.find.Given as goal

abbrev pub invariant-loop-number : goal.invariant-loop-number
invariant-loop-number g l =
    (listed_from l.number (drop l.number l.module-items) l.cdhash ≡ listed l.module-items l.cdhash)
    × (l.initial.steps ≤ l.steps)
    × (l.steps ≤ l.initial.steps + 17 * l.number)
    × (l.initial.steps + filled (take l.number l.module-items) ≤ l.steps)
