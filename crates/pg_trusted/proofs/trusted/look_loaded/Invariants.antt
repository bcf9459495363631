use Rattle.std.proofs.Common.{◌≡◌, drop}
use Rattle.cs_trust.specs.Listed.{listed, listed_from}
use Rattle.pg_trusted.specs.Kept.{tables_of}
use Rattle.pg_trusted.proofs.trusted.look_loaded.Given as goal

abbrev pub invariant-loop-number : goal.invariant-loop-number
invariant-loop-number l =
    listed_from l.number (tables_of l.caches (drop l.number l.loaded)) l.cdhash ≡ listed (tables_of l.caches l.loaded) l.cdhash
