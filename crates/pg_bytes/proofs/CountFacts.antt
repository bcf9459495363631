-- How the calls of several counts add up.
use Rattle.std.proofs.Common.{ℕ, ◌+◌, ◌-◌, ◌^◌, ◌≤◌, min, arith}
use Rattle.pg_bytes.specs.Counts.{Rose, RoseBy}

-- no call
pub RoseBy-none : (count : ℕ) → RoseBy 0 count count
RoseBy-none count = record { later = omega arith; at_least = grind arith; at_most = omega arith }

-- one call, which counts once at most
pub RoseBy-one : (before now : ℕ) → Rose before now → now ≤ before + 1 → RoseBy 1 before now
RoseBy-one before now rose once = record { later = rose.later; at_least = rose.counted; at_most = once }

-- some calls, and others behind them
pub RoseBy-join : (some more before middle now : ℕ) → RoseBy some before middle → RoseBy more middle now → RoseBy (some + more) before now
RoseBy-join some more before middle now first second = record {
  later = omega arith;
  at_least = grind arith;
  at_most = omega arith;
}
