use Rattle.std.proofs.Common.{◌≡◌, ℕ, ◌+◌, ◌-◌, take, vec_len, vec_capacity}
use Rattle.std.specs.Prelude.{All}
use Rattle.pg_regions.specs.Copies.{IsWhole}
use Rattle.pg_regions.proofs.copies.free_behind.Given as goal

abbrev pub invariant-loop-held : goal.invariant-loop-held
invariant-loop-held l = record {
  held : take l.kept l.held.items ≡ take l.kept l.initial.held.items;
  whole : (page : ℕ) → All (IsWhole page) l.initial.held.items → All (IsWhole page) l.initial.free.items
      → All (IsWhole page) l.held.items × All (IsWhole page) l.free.items;
  count : vec_len l.held + vec_len l.free ≡ vec_len l.initial.held + vec_len l.initial.free;
  held_capacity : vec_capacity l.held ≡ vec_capacity l.initial.held;
  free_capacity : vec_capacity l.free ≡ vec_capacity l.initial.free;
}

abbrev pub decreases-loop-held : goal.decreases-loop-held
decreases-loop-held l = vec_len l.held - l.kept
