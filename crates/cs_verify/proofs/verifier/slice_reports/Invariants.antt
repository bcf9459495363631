use Rattle.std.proofs.Common.{◌≡◌, take, map, sum_by}
use Rattle.pg_bytes.specs.Counts.{RoseBy}
use Rattle.cs_verify.specs.Report.{slice_report}
use Rattle.cs_verify.specs.Digests.{slice_digests}
use Rattle.cs_verify.proofs.verifier.slice_reports.Given as goal

abbrev pub invariant-loop-slice : goal.invariant-loop-slice
invariant-loop-slice g l =
    (l.reports.items ≡ map (slice_report g.D.Digester.hash l.bytes) (take l.slice-index l.found))
    × RoseBy (sum_by (slice_digests g.D.Digester.hash l.bytes) (take l.slice-index l.found)) (g.D.Digester.calls l.fn.d) (g.D.Digester.calls l.d)
