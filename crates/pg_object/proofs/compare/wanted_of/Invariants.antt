use Rattle.pg_object.proofs.WantedFacts.{Gathered}
use Rattle.pg_object.proofs.compare.wanted_of.Given as goal

abbrev pub invariant-loop-k : goal.invariant-loop-k
invariant-loop-k l = Gathered l.blob l.first l.k l.used l.digests
