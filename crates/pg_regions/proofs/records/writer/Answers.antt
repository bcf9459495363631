use Rattle.std.proofs.Common.{arith}
use Rattle.pg_regions.proofs.WriterFacts.{writer_within}
use Rattle.pg_regions.proofs.records.writer.Goals as goal

pub returns : goal.returns
returns c =
    let same = writer_within c.args.regions.now c.args.records.now c.args.page c.before-start.result c.max-end.result c.before-start.ensures.within (omega (arith, c.max-end.ensures, c.through.ensures.within, c.before-start.ensures.within)) c.before-start.ensures.lesser (λ k d le lt. c.through.ensures.greater k d (omega (arith, c.max-end.ensures)) lt) in
    rw (← same) c.least_writer.ensures
