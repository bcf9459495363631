use Rattle.std.proofs.Common.{◌∙◌, ap}
use Rattle.std.proofs.lemmas.Result.{IfOk-weaker}
use Rattle.pg_digest.specs.Digests.{sha_hash}
use Rattle.csverify.specs.Ending as endings
use Rattle.csverify.proofs.EndingFacts.{verified_report, verified_refusal}
use Rattle.csverify.proofs.ending.verified.Goals as goal

pub returns-in-Ok : goal.returns-in-Ok
returns-in-Ok g c =
    IfOk-weaker c.reported.result _ _
    (λ p is. is ∙ (ap endings.reported c.deref.ensures.value ∙ verified_report sha_hash c.args.bytes.now c.in-Ok.reports.items c.in-Ok.ensures.report))
    c.reported.ensures

pub returns-in-Err-Refused : goal.returns-in-Err-Refused
returns-in-Err-Refused g c =
    IfOk-weaker c.refused.result _ _
    (λ p is. is ∙ (ap endings.refused c.into.ensures ∙ verified_refusal sha_hash c.args.bytes.now c.in-Err-Refused.refusal (rw c.in-Err-Refused.field-0-is at c.in-Err-Refused.ensures.refused)))
    c.refused.ensures
