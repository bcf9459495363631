use Rattle.cs_blob.proofs.CandidateFacts.{RanksBefore}
use Rattle.cs_blob.proofs.candidates.distinct_ranks.Given as goal

abbrev pub invariant-loop-i : goal.invariant-loop-i
invariant-loop-i l = RanksBefore l.found l.i
