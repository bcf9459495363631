use Rattle.pg_object.specs.Strips.{Strips}
use Rattle.pg_object.proofs.write.strip_pages.Given as goal

abbrev pub invariant-loop-page : goal.invariant-loop-page
invariant-loop-page l = Strips l.initial.regions l.first l.page l.regions
