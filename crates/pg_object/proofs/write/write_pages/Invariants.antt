use Rattle.cs_policy.specs.Data.{data_bytes}
use Rattle.pg_object.specs.Writes.{WroteSoFar}
use Rattle.pg_object.proofs.write.write_pages.Given as goal

abbrev pub invariant-loop-page : goal.invariant-loop-page
invariant-loop-page g l = WroteSoFar g.D.Digester.hash l.initial.pages l.at (data_bytes l.piece) l.page l.pages
