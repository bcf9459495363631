use Rattle.pg_digest.specs.Digests.{sha_hash}
use Rattle.csverify.proofs.WordFacts.{by_words, ends_by_words, reads_by_words, short_by_words}
use Rattle.csverify.proofs.top.after_words.Goals as goal

pub returns-clause-told : goal.returns-clause-told
returns-clause-told g c = λ told tells.
    ends_by_words sha_hash told c.path_of.result _ c.ended.result
    (by_words c.path_of.result _ c.ended.result c.path_of.ensures.path c.path_of.ensures.accepted c.path_of.ensures.fault c.ended.ensures.short)
    (c.ended.ensures.told told tells)

pub returns-clause-read : goal.returns-clause-read
returns-clause-read g c = λ told tells.
    reads_by_words told _ c.path_of.result _ c.ended.result
    (by_words c.path_of.result _ c.ended.result c.path_of.ensures.path c.path_of.ensures.accepted c.path_of.ensures.fault c.ended.ensures.short)
    (c.ended.ensures.read told tells)

pub returns-clause-read_short : goal.returns-clause-read_short
returns-clause-read_short g c = λ told tells.
    short_by_words told _ c.path_of.result _ c.ended.result
    (by_words c.path_of.result _ c.ended.result c.path_of.ensures.path c.path_of.ensures.accepted c.path_of.ensures.fault c.ended.ensures.short)
    (c.ended.ensures.read_short told tells)
