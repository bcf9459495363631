-- Counts that never fall: of calls, of faults, of reads.
use Rattle.std.specs.Prelude.{ℕ, ◌+◌, ◌-◌, ◌^◌, ◌≤◌, min}

-- A count rose over a call. It never falls, and it stands still once it is 2 ^ 64 - 1.
pub record Rose (before now : ℕ) : Type 0 where
  pub later : before ≤ now
  pub counted : min (before + 1) (2 ^ 64 - 1) ≤ now

-- A count rose over so many calls: once for each, up to 2 ^ 64 - 1, where it stands still.
pub record RoseBy (calls before now : ℕ) : Type 0 where
  pub later : before ≤ now
  pub at_least : min (before + calls) (2 ^ 64 - 1) ≤ now
  pub at_most : now ≤ before + calls
