-- A list of which a part was written.
use Rattle.std.specs.Prelude.{ℕ, ◌+◌, List, ◌++◌, take, drop}
use Rattle.std.specs.List.{refill}

-- The len values from one place on are others. These are as many: `refill` says no more than that.
abbrev pub with_part : {X : Type 0} → List X → ℕ → ℕ → List X → List X
with_part values from len part = take from values ++ (refill len (take len (drop from values)) part ++ drop (from + len) values)
