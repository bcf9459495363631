use Rattle.std.proofs.Common.{refl, arith}
use Rattle.cs_sign.proofs.ReadingFacts.{read-first, some-read, some-failed, reads-none, reads-one}
use Rattle.cs_sign.proofs.reading.read_item.Goals as goal

pub returns-in-Err-NoMemory-clause-reads : goal.returns-in-Err-NoMemory-clause-reads
returns-in-Err-NoMemory-clause-reads g c = λ told tells.
    reads-none told 1 _ (rw c.in-Err-NoMemory.field-0-is at (c.in-Err-NoMemory.ensures.told told tells))

pub returns-in-Err-Failed-clause-told : goal.returns-in-Err-Failed-clause-told
returns-in-Err-Failed-clause-told g c = λ told tells.
    let gave = rw c.in-Err-Failed.field-0-is at (c.in-Err-Failed.ensures.told told tells) in
    rw gave.0 refl

pub returns-in-Err-Failed-clause-reads : goal.returns-in-Err-Failed-clause-reads
returns-in-Err-Failed-clause-reads g c = λ told tells.
    let gave = rw c.in-Err-Failed.field-0-is at (c.in-Err-Failed.ensures.told told tells) in
    reads-one told 1 _ (omega arith) gave.1

pub returns-in-Ok-clause-told : goal.returns-in-Ok-clause-told
returns-in-Ok-clause-told g c = λ told tells.
    read-first c.args.item _ c.in-Ok.bytes.items c.limited.result (c.in-Ok.ensures.told told tells).0 c.limited.ensures.told

pub returns-in-Ok-clause-reads : goal.returns-in-Ok-clause-reads
returns-in-Ok-clause-reads g c = λ told tells.
    reads-one told 1 _ (omega arith) (c.in-Ok.ensures.told told tells).1

pub returns-in-Err-Failed-clause-some : goal.returns-in-Err-Failed-clause-some
returns-in-Err-Failed-clause-some g c = some-failed c.args.item

pub returns-in-Ok-clause-some : goal.returns-in-Ok-clause-some
returns-in-Ok-clause-some g c = some-read c.args.item c.in-Ok.bytes.items c.limited.result c.limited.ensures.told
