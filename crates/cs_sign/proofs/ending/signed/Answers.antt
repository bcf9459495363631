use Rattle.pg_digest.specs.Digests.{sha_hash}
use Rattle.cs_sign.specs.WordsView.{words_in}
use Rattle.cs_sign.proofs.EndingFacts.{signed-made, signed-refused}
use Rattle.cs_sign.proofs.ending.signed.Goals as goal

pub returns-in-Ok-clause-told : goal.returns-in-Ok-clause-told
returns-in-Ok-clause-told c =
    signed-made sha_hash c.args.bytes.now (words_in c.args.words.now) _ _ _ c.as_bytes.ensures.value c.in-Ok.ensures.signed

pub returns-in-Err-Refused-clause-told : goal.returns-in-Err-Refused-clause-told
returns-in-Err-Refused-clause-told c =
    signed-refused sha_hash c.args.bytes.now (words_in c.args.words.now) _ _ _ c.as_bytes.ensures.value (rw c.in-Err-Refused.field-0-is at c.in-Err-Refused.ensures.refused)
