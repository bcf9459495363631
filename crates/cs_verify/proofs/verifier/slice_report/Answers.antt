use Rattle.std.proofs.Common.{◌∙◌, ap}
use Rattle.std.proofs.lemmas.Result.{IfOk-weaker}
use Rattle.macho_cmds.specs.Refusals.{refusal_of}
use Rattle.pg_bytes.proofs.CountFacts.{RoseBy-none}
use Rattle.cs_verify.specs.declared.report.SliceReport.TheVariants.{Refused}
use Rattle.cs_verify.proofs.ReportFacts.{said_of_image, said_of_other, digests_of_image, digests_of_other}
use Rattle.cs_verify.proofs.verifier.slice_report.Goals as goal

pub returns-in-Ok-clause-report : goal.returns-in-Ok-clause-report
returns-in-Ok-clause-report g c =
    IfOk-weaker c.image_report.result _ _
    (λ said is. is ∙ said_of_image g.D.Digester.hash c.args.bytes.now c.args.slice.now c.in-Ok.image c.bytes_in.result.now c.in-Ok.ensures.accepted c.bytes_in.ensures.bytes)
    c.image_report.ensures.report

pub returns-in-Ok-clause-digests : goal.returns-in-Ok-clause-digests
returns-in-Ok-clause-digests g c =
    rw (← digests_of_image g.D.Digester.hash c.args.bytes.now c.args.slice.now c.in-Ok.image c.bytes_in.result.now c.in-Ok.ensures.accepted c.bytes_in.ensures.bytes)
    c.image_report.ensures.digests

pub returns-in-Err-Refused-clause-report : goal.returns-in-Err-Refused-clause-report
returns-in-Err-Refused-clause-report g c =
    ap Refused (c.into.ensures ∙ ap refusal_of c.in-Err-Refused.refusal-is)
    ∙ said_of_other g.D.Digester.hash c.args.bytes.now c.args.slice.now c.in-Err-Refused.refusal (rw c.in-Err-Refused.field-0-is at c.in-Err-Refused.ensures.refused)

pub returns-in-Err-Refused-clause-digests : goal.returns-in-Err-Refused-clause-digests
returns-in-Err-Refused-clause-digests g c =
    rw (digests_of_other g.D.Digester.hash c.args.bytes.now c.args.slice.now c.in-Err-Refused.refusal (rw c.in-Err-Refused.field-0-is at c.in-Err-Refused.ensures.refused))
    (RoseBy-none _)
