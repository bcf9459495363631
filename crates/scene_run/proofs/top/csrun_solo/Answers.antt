use Rattle.pg_digest.specs.Digests.{sha_hash}
use Rattle.scene_run.specs.Ending.{Prints}
use Rattle.scene_run.specs.Runs.{RunsSolo}
use Rattle.scene_run.proofs.AnswerFacts.{ends-to, runs-to, finishes-some, is-ended, early-answer}
use Rattle.scene_run.proofs.SoloEndFacts.{solo-output, solo-legal, solo-some, path-reads}
use Rattle.scene_run.proofs.top.csrun_solo.Goals as goal

pub write_end-requires : goal.write_end-requires
write_end-requires g c = record { early = early-answer _ _ c.solo_journal-answer.result c.solo_journal-answer.ensures.cause }

pub returns-clause-output : goal.returns-clause-output
returns-clause-output g c = λ told tells.
    solo-output sha_hash told _ _ c.write_end.result _ _ c.path_behind.ensures.path
    (ends-to (Prints sha_hash (RunsSolo sha_hash)) _ _ _ c.solo_journal-answer.result _ _ c.write_end.result (c.solo_journal-answer.ensures.told told tells) c.solo_journal-answer.ensures.cause c.write_end.ensures.ends)

pub returns-clause-legal : goal.returns-clause-legal
returns-clause-legal g c = λ told tells done.
    solo-legal sha_hash told _ _ _ _ c.path_behind.ensures.path
    (runs-to (Prints sha_hash (RunsSolo sha_hash)) _ _ _ c.solo_journal-answer.result _ _ c.write_end.result (c.solo_journal-answer.ensures.told told tells) c.solo_journal-answer.ensures.cause c.write_end.ensures.ends done)

pub returns-clause-over_some : goal.returns-clause-over_some
returns-clause-over_some g c =
    solo-some sha_hash c.write_end.result _ _
    (finishes-some (Prints sha_hash (RunsSolo sha_hash)) _ _ c.solo_journal-answer.result _ _ c.write_end.result c.solo_journal-answer.ensures.some c.solo_journal-answer.ensures.cause c.write_end.ensures.ends)

pub returns-clause-no_usage : goal.returns-clause-no_usage
returns-clause-no_usage g c = (is-ended _ _ _ _ c.solo_journal-answer.result c.write_end.result c.solo_journal-answer.ensures.cause c.write_end.ensures.ends).no_usage

pub returns-clause-no_verdict : goal.returns-clause-no_verdict
returns-clause-no_verdict g c = (is-ended _ _ _ _ c.solo_journal-answer.result c.write_end.result c.solo_journal-answer.ensures.cause c.write_end.ensures.ends).no_verdict

pub returns-clause-faults : goal.returns-clause-faults
returns-clause-faults g c = (is-ended _ _ _ _ c.solo_journal-answer.result c.write_end.result c.solo_journal-answer.ensures.cause c.write_end.ensures.ends).faults

pub returns-clause-no_memory : goal.returns-clause-no_memory
returns-clause-no_memory g c = (is-ended _ _ _ _ c.solo_journal-answer.result c.write_end.result c.solo_journal-answer.ensures.cause c.write_end.ensures.ends).no_memory

pub returns-clause-reads : goal.returns-clause-reads
returns-clause-reads g c = λ told tells.
    path-reads told _ _ _ c.path_behind.ensures.path (c.solo_journal-answer.ensures.reads told tells)
