use Rattle.std.proofs.Common.{List, ℕ, Some, ap, sym, ◌∙◌, inl}
use Rattle.std.proofs.lemmas.Result.{IfOk-weaker}
use Rattle.pg_digest.specs.Digests.{sha_hash}
use Rattle.csverify.specs.Ending.{of_file}
use Rattle.csverify.proofs.EndingFacts.{file_read, read_caused}
use Rattle.csverify.proofs.ending.after_path.Goals as goal

pub returns-in-Err-Failed-clause-told : goal.returns-in-Err-Failed-clause-told
returns-in-Err-Failed-clause-told g c = λ told tells.
    let gave = rw c.in-Err-Failed.field-0-is at (c.in-Err-Failed.ensures.told told tells) in
    c.unread.ensures ∙ ap (of_file sha_hash) (sym gave.0)

pub returns-in-Err-Failed-clause-read : goal.returns-in-Err-Failed-clause-read
returns-in-Err-Failed-clause-read g c = λ told tells.
    let gave = rw c.in-Err-Failed.field-0-is at (c.in-Err-Failed.ensures.told told tells) in
    gave.1

pub returns-in-Err-NoMemory-clause-read_short : goal.returns-in-Err-NoMemory-clause-read_short
returns-in-Err-NoMemory-clause-read_short g c = λ told tells.
    inl (rw c.in-Err-NoMemory.field-0-is at (c.in-Err-NoMemory.ensures.told told tells))

pub returns-in-Ok-clause-told : goal.returns-in-Ok-clause-told
returns-in-Ok-clause-told g c = λ told tells.
    let gave = c.in-Ok.ensures.told told tells in
    IfOk-weaker c.after_file.result _ _
    (λ p is. file_read sha_hash _ c.in-Ok.bytes.items p gave.0
    (is ∙ ap (λ (bytes : List ℕ). of_file sha_hash (Some bytes)) c.deref.ensures.value))
    c.after_file.ensures

pub returns-in-Ok-clause-cause : goal.returns-in-Ok-clause-cause
returns-in-Ok-clause-cause g c =
    IfOk-weaker c.after_file.result _ _ (λ p is. read_caused sha_hash _ _ _ p is) c.after_file.ensures
