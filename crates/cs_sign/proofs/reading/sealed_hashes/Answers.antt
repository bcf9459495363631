use Rattle.std.proofs.Common.{ap, ◌∙◌, length, arith}
use Rattle.std.proofs.lemmas.Result.{IfOk-weaker}
use Rattle.pg_digest.specs.Digests.{sha_hash}
use Rattle.cs_sign.specs.Reading.{hashes_in}
use Rattle.cs_sign.proofs.ReadingFacts.{sealed-is, refused-is, few-hashes}
use Rattle.cs_sign.proofs.reading.sealed_hashes.Goals as goal

pub returns-in-Ok-clause-told : goal.returns-in-Ok-clause-told
returns-in-Ok-clause-told c =
    sealed-is sha_hash c.args.item c.args.bytes.now _ _ c.matched_hashes.result c.in-Ok.ensures.verified.report c.deref.ensures.value c.matched_hashes.ensures.told

pub returns-in-Ok-clause-few : goal.returns-in-Ok-clause-few
returns-in-Ok-clause-few c =
    let few = few-hashes sha_hash c.args.bytes.now _ c.in-Ok.ensures.verified.report in
    IfOk-weaker c.matched_hashes.result _ _ (λ found is. omega (arith, few, ap length (is ∙ ap hashes_in c.deref.ensures.value))) c.matched_hashes.ensures.found

pub returns-in-Err-Refused-clause-told : goal.returns-in-Err-Refused-clause-told
returns-in-Err-Refused-clause-told c =
    refused-is sha_hash c.args.item c.args.bytes.now _ (rw c.in-Err-Refused.field-0-is at c.in-Err-Refused.ensures.verified.refused)
