use Rattle.pg_object.proofs.ReadFacts.{ReadSoFar}
use Rattle.pg_object.proofs.signatures.read_range.Given as goal

abbrev pub invariant-loop-page : goal.invariant-loop-page
invariant-loop-page g l = ReadSoFar g.D.Digester.hash l.initial.pages l.at l.count l.page l.bytes l.pages
