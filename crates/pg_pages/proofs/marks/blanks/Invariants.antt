use Rattle.std.proofs.Common.{◌≡◌, replicate}
use Rattle.pg_pages.specs.Marks.{blank}
use Rattle.pg_pages.proofs.marks.blanks.Given as goal

abbrev pub invariant-loop : goal.invariant-loop
invariant-loop l = l.blanks.items ≡ replicate l.counter blank
