use Rattle.pg_digest.specs.Digests.{sha_hash}
use Rattle.scene_run.proofs.AnswerFacts.{ends-to, runs-to, finishes-some, is-ended, early-answer}
use Rattle.scene_run.proofs.SoloEndFacts.{path-reads}
use Rattle.scene_made.proofs.OpenFacts.{passes}
use Rattle.scene_threads.specs.Sound.{PrintsSound}
use Rattle.scene_threads.proofs.MadeFacts.{made-ended, made-early, made-same}
use Rattle.scene_threads.proofs.WordFacts.{path-named, solo-named, path-not-solo, named-some, solo-not-path, none-not-path, none-not-solo, path-output, path-legal, path-usage, usage-no-verdict, usage-no-memory, usage-faults, usage-by-words, none-reads, path-unmade, solo-unmade, number-some, number-same}
use Rattle.scene_threads.proofs.top.csrun_main.Goals as goal

-- ---- the path of a scene

pub write_end-requires : goal.write_end-requires
write_end-requires g c =
    record { early = early-answer _ _ c.shared_journal-answer.result c.shared_journal-answer.ensures.cause }

pub returns-in-Scene-clause-output : goal.returns-in-Scene-clause-output
returns-in-Scene-clause-output g c =
    λ path told tells. path-output (PrintsSound sha_hash) told _ _ (path-named _ _ c.in-Scene.ensures) _ _ c.write_end.result (ends-to (PrintsSound sha_hash) _ _ _ c.shared_journal-answer.result _ _ c.write_end.result (c.shared_journal-answer.ensures.told told tells) c.shared_journal-answer.ensures.cause c.write_end.ensures.ends)

pub returns-in-Scene-clause-solo : goal.returns-in-Scene-clause-solo
returns-in-Scene-clause-solo g c =
    λ solo. absurd (path-not-solo _ _ c.in-Scene.ensures solo)

pub returns-in-Scene-clause-made : goal.returns-in-Scene-clause-made
returns-in-Scene-clause-made g c =
    λ n is. absurd (path-unmade _ _ n c.in-Scene.ensures is)

pub returns-in-Scene-clause-legal : goal.returns-in-Scene-clause-legal
returns-in-Scene-clause-legal g c =
    λ path told tells done. path-legal (PrintsSound sha_hash) told _ _ (path-named _ _ c.in-Scene.ensures) _ _ (runs-to (PrintsSound sha_hash) _ _ _ c.shared_journal-answer.result _ _ c.write_end.result (c.shared_journal-answer.ensures.told told tells) c.shared_journal-answer.ensures.cause c.write_end.ensures.ends done)

pub returns-in-Scene-clause-solo_legal : goal.returns-in-Scene-clause-solo_legal
returns-in-Scene-clause-solo_legal g c =
    λ solo. absurd (path-not-solo _ _ c.in-Scene.ensures solo)

pub returns-in-Scene-clause-over_some : goal.returns-in-Scene-clause-over_some
returns-in-Scene-clause-over_some g c =
    λ path. finishes-some (PrintsSound sha_hash) _ _ c.shared_journal-answer.result _ _ c.write_end.result c.shared_journal-answer.ensures.some c.shared_journal-answer.ensures.cause c.write_end.ensures.ends

pub returns-in-Scene-clause-solo_some : goal.returns-in-Scene-clause-solo_some
returns-in-Scene-clause-solo_some g c =
    λ solo. absurd (path-not-solo _ _ c.in-Scene.ensures solo)

pub returns-in-Scene-clause-usage : goal.returns-in-Scene-clause-usage
returns-in-Scene-clause-usage g c =
    path-usage _ _ _ c.write_end.result _ _ (path-named _ _ c.in-Scene.ensures) (is-ended _ _ _ _ c.shared_journal-answer.result c.write_end.result c.shared_journal-answer.ensures.cause c.write_end.ensures.ends).no_usage

pub returns-in-Scene-clause-faults : goal.returns-in-Scene-clause-faults
returns-in-Scene-clause-faults g c =
    (is-ended _ _ _ _ c.shared_journal-answer.result c.write_end.result c.shared_journal-answer.ensures.cause c.write_end.ensures.ends).faults

pub returns-in-Scene-clause-no_verdict : goal.returns-in-Scene-clause-no_verdict
returns-in-Scene-clause-no_verdict g c =
    (is-ended _ _ _ _ c.shared_journal-answer.result c.write_end.result c.shared_journal-answer.ensures.cause c.write_end.ensures.ends).no_verdict

pub returns-in-Scene-clause-reads : goal.returns-in-Scene-clause-reads
returns-in-Scene-clause-reads g c =
    λ told tells. path-reads told _ _ _ (path-named _ _ c.in-Scene.ensures) (c.shared_journal-answer.ensures.reads told tells)

pub returns-in-Scene-clause-quiet : goal.returns-in-Scene-clause-quiet
returns-in-Scene-clause-quiet g c =
    λ none. absurd (named-some _ _ (path-named _ _ c.in-Scene.ensures) none)

pub returns-in-Scene-clause-no_memory : goal.returns-in-Scene-clause-no_memory
returns-in-Scene-clause-no_memory g c =
    (is-ended _ _ _ _ c.shared_journal-answer.result c.write_end.result c.shared_journal-answer.ensures.cause c.write_end.ensures.ends).no_memory

-- ---- `solo` and a path

pub csrun_solo-requires : goal.csrun_solo-requires
csrun_solo-requires g c =
    record { words = c.in-Solo.ensures }

pub returns-in-Solo-clause-output : goal.returns-in-Solo-clause-output
returns-in-Solo-clause-output g c =
    λ path. absurd (solo-not-path _ c.in-Solo.ensures path)

pub returns-in-Solo-clause-solo : goal.returns-in-Solo-clause-solo
returns-in-Solo-clause-solo g c =
    λ solo. c.csrun_solo.ensures.output

pub returns-in-Solo-clause-made : goal.returns-in-Solo-clause-made
returns-in-Solo-clause-made g c =
    λ n is. absurd (solo-unmade _ n c.in-Solo.ensures is)

pub returns-in-Solo-clause-legal : goal.returns-in-Solo-clause-legal
returns-in-Solo-clause-legal g c =
    λ path. absurd (solo-not-path _ c.in-Solo.ensures path)

pub returns-in-Solo-clause-solo_legal : goal.returns-in-Solo-clause-solo_legal
returns-in-Solo-clause-solo_legal g c =
    λ solo. c.csrun_solo.ensures.legal

pub returns-in-Solo-clause-over_some : goal.returns-in-Solo-clause-over_some
returns-in-Solo-clause-over_some g c =
    λ path. absurd (solo-not-path _ c.in-Solo.ensures path)

pub returns-in-Solo-clause-solo_some : goal.returns-in-Solo-clause-solo_some
returns-in-Solo-clause-solo_some g c =
    λ solo. c.csrun_solo.ensures.over_some

pub returns-in-Solo-clause-usage : goal.returns-in-Solo-clause-usage
returns-in-Solo-clause-usage g c =
    path-usage _ _ _ c.csrun_solo.result _ _ (solo-named _ c.in-Solo.ensures) c.csrun_solo.ensures.no_usage

pub returns-in-Solo-clause-quiet : goal.returns-in-Solo-clause-quiet
returns-in-Solo-clause-quiet g c =
    λ none. absurd (named-some _ _ (solo-named _ c.in-Solo.ensures) none)

-- ---- a made scene

pub write_end-requires-in-Made : goal.write_end-requires-in-Made
write_end-requires-in-Made g c =
    record { early = made-early c.made_summary.result c.made_summary.ensures.memory }

pub returns-in-Made-clause-made : goal.returns-in-Made-clause-made
returns-in-Made-clause-made g c =
    λ n is. (
      passes n,
      made-same sha_hash _ n c.write_end-in-Made.result _ _ (number-same _ _ _ c.in-Made.ensures.0 is)
          (made-ended sha_hash c.in-Made.n _ _ c.made_summary.result _ c.made_summary.ensures.text c.made_summary.ensures.memory c.write_end-in-Made.ensures.ends).made,
    )

pub returns-in-Made-clause-legal : goal.returns-in-Made-clause-legal
returns-in-Made-clause-legal g c =
    λ path. absurd (path-unmade _ _ c.in-Made.n path.1 c.in-Made.ensures.0)

pub returns-in-Made-clause-solo_legal : goal.returns-in-Made-clause-solo_legal
returns-in-Made-clause-solo_legal g c =
    λ solo. absurd (solo-unmade _ c.in-Made.n solo c.in-Made.ensures.0)

pub returns-in-Made-clause-over_some : goal.returns-in-Made-clause-over_some
returns-in-Made-clause-over_some g c =
    λ path. absurd (path-unmade _ _ c.in-Made.n path.1 c.in-Made.ensures.0)

pub returns-in-Made-clause-solo_some : goal.returns-in-Made-clause-solo_some
returns-in-Made-clause-solo_some g c =
    λ solo. absurd (solo-unmade _ c.in-Made.n solo c.in-Made.ensures.0)

-- ---- other words

pub returns-in-Nothing-clause-output : goal.returns-in-Nothing-clause-output
returns-in-Nothing-clause-output g c =
    λ path. absurd (none-not-path _ c.in-Nothing.ensures.0 path)

pub returns-in-Nothing-clause-solo : goal.returns-in-Nothing-clause-solo
returns-in-Nothing-clause-solo g c =
    λ solo. absurd (none-not-solo _ c.in-Nothing.ensures.0 solo)

pub returns-in-Nothing-clause-made : goal.returns-in-Nothing-clause-made
returns-in-Nothing-clause-made g c =
    λ n is. absurd (number-some _ n is c.in-Nothing.ensures.1)

pub returns-in-Nothing-clause-legal : goal.returns-in-Nothing-clause-legal
returns-in-Nothing-clause-legal g c =
    λ path. absurd (none-not-path _ c.in-Nothing.ensures.0 path)

pub returns-in-Nothing-clause-solo_legal : goal.returns-in-Nothing-clause-solo_legal
returns-in-Nothing-clause-solo_legal g c =
    λ solo. absurd (none-not-solo _ c.in-Nothing.ensures.0 solo)

pub returns-in-Nothing-clause-over_some : goal.returns-in-Nothing-clause-over_some
returns-in-Nothing-clause-over_some g c =
    λ path. absurd (none-not-path _ c.in-Nothing.ensures.0 path)

pub returns-in-Nothing-clause-solo_some : goal.returns-in-Nothing-clause-solo_some
returns-in-Nothing-clause-solo_some g c =
    λ solo. absurd (none-not-solo _ c.in-Nothing.ensures.0 solo)

pub returns-in-Nothing-clause-usage : goal.returns-in-Nothing-clause-usage
returns-in-Nothing-clause-usage g c =
    usage-by-words c.write_end-in-Nothing.result _ _ _ _ c.in-Nothing.ensures.0 c.in-Nothing.ensures.1 c.write_end-in-Nothing.ensures.ends

pub returns-in-Nothing-clause-faults : goal.returns-in-Nothing-clause-faults
returns-in-Nothing-clause-faults g c =
    usage-faults c.write_end-in-Nothing.result _ _ _ c.write_end-in-Nothing.ensures.ends

pub returns-in-Nothing-clause-no_verdict : goal.returns-in-Nothing-clause-no_verdict
returns-in-Nothing-clause-no_verdict g c =
    usage-no-verdict c.write_end-in-Nothing.result _ _ c.write_end-in-Nothing.ensures.ends

pub returns-in-Nothing-clause-reads : goal.returns-in-Nothing-clause-reads
returns-in-Nothing-clause-reads g c =
    λ told tells. none-reads told _ _ c.in-Nothing.ensures.0 tells

pub returns-in-Nothing-clause-no_memory : goal.returns-in-Nothing-clause-no_memory
returns-in-Nothing-clause-no_memory g c =
    usage-no-memory c.write_end-in-Nothing.result _ _ c.write_end-in-Nothing.ensures.ends
