use Rattle.std.specs.Prelude.{◌==◌, filter}
use Rattle.std.specs.List.{range_with_len}
use Rattle.std.specs.Int.{bit_at}
use Rattle.pg_calls.specs.Exits.{Drops}
use Rattle.pg_calls.proofs.ending.drop_regions.Given as goal

-- the files before this number have dropped the regions
abbrev pub invariant-loop-number : goal.invariant-loop-number
invariant-loop-number g l =
    Drops l.who l.pid (filter (λ n. bit_at l.files n == 1) (range_with_len 0 l.number)) (g.T.Parts.shows l.fn.parts) (g.T.Parts.shows l.parts)
    × g.T.Parts.serves l.parts l.who.worker
