use Rattle.pages_bench.specs.Benched.{IsBenched}
use Rattle.pages_bench.proofs.run.fill.Given as goal

abbrev pub invariant-loop-page : goal.invariant-loop-page
invariant-loop-page l = IsBenched l.pages
