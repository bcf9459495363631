use Rattle.std.proofs.Common.{◌≡◌, ◌++◌, map, take, drop}
use Rattle.pg_regions.specs.Steps.{without_execute}
use Rattle.pg_regions.proofs.records.strip.Given as goal

abbrev pub invariant-loop-place : goal.invariant-loop-place
invariant-loop-place l =
    l.records ≡ map (without_execute l.page) (take l.place l.initial.records) ++ drop l.place l.initial.records
