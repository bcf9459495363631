use Rattle.std.proofs.Common.{sym, arith}
use Rattle.std.proofs.lemmas.List.{map_more, take_all}
use Rattle.std.proofs.lemmas.List.Sums.{sum_by_more}
use Rattle.pg_bytes.proofs.CountFacts.{RoseBy-join}
use Rattle.pg_bytes.specs.declared.fields.Range.{Range}
use Rattle.cs_verify.specs.Report.{slice_report}
use Rattle.cs_verify.specs.Digests.{slice_digests}
use Rattle.cs_verify.proofs.verifier.slice_reports.Goals as goal

pub loop-slice-preserved : goal.loop-slice-preserved
loop-slice-preserved g c =
    let none : Range = record { at = 0; len = 0 } in (
      rw (c.in_ok-push.ensures.items, c.loop-slice.invariant.0, c.in_ok-slice_report.ensures.report)
          (sym (map_more (slice_report g.D.Digester.hash c.args.bytes.now) c.args.found.now c.loop-slice.slice-index none (omega arith))),
      rw (sum_by_more (slice_digests g.D.Digester.hash c.args.bytes.now) c.args.found.now c.loop-slice.slice-index none (omega arith))
          (RoseBy-join _ _ _ _ _ c.loop-slice.invariant.1 c.in_ok-slice_report.ensures.digests),
    )

pub returns-clause-digests : goal.returns-clause-digests
returns-clause-digests g c =
    let all = take_all c.loop-slice.slice-index c.args.found.now (omega arith) in
    rw all at c.loop-slice.invariant.1
