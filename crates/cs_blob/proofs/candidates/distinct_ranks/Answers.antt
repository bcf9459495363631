use Rattle.std.proofs.Common.{◌∙◌, ap, sym}
use Rattle.pg_digest.specs.Kinds.{rank_of}
use Rattle.cs_blob.proofs.CandidateFacts.{RanksBefore-next, ranks_broken}
use Rattle.cs_blob.proofs.candidates.distinct_ranks.Goals as goal

pub returns-in-Some-clause-tries : goal.returns-in-Some-clause-tries
returns-in-Some-clause-tries c =
    let rank = c.rank.ensures ∙ ap rank_of c.kind.ensures in
    rw (c.from.ensures, c.from-in-Some.ensures)
    (ranks_broken _ c.loop-i.i _ _ _ c.loop-i.invariant c.loop-i-test.true c.index-found-i.is rank (sym c.in-Some.ensures))

pub loop-i-preserved : goal.loop-i-preserved
loop-i-preserved c =
    let rank = c.rank.ensures ∙ ap rank_of c.kind.ensures in
    RanksBefore-next _ c.loop-i.i _ _ c.loop-i.invariant c.loop-i-test.true c.index-found-i.is rank (sym c.in_default.ensures)
