use Rattle.std.proofs.Common.{ap, ◌∙◌}
use Rattle.pg_digest.specs.Digests.{sha_hash}
use Rattle.pg_history.specs.Legal.{calls_in}
use Rattle.pg_report.specs.Journal.{journal}
use Rattle.scene_run.specs.Ending.{Run, run_path, run_with, GoesTo}
use Rattle.scene_run.specs.Runs.{IsSound}
use Rattle.scene_run.proofs.EndingFacts.{fixes, goes-to, map-some}
use Rattle.scene_run.proofs.LinesFacts.{few-scripts}
use Rattle.scene_threads.specs.Sound.{PrintsSound}
use Rattle.scene_threads.proofs.top.shared_journal.Goals as goal

pub returns-clause-told : goal.returns-clause-told
returns-clause-told g c = λ told tells.
    let run : Run = run_with c.in-Ok.both.0 c.in-Ok.both.1 in
    let printed = c.in-Ok-journal_of.ensures ∙ ap (λ h. journal h (calls_in run.scripts)) c.deref.ensures.value in
    goes-to sha_hash (IsSound sha_hash) (run_path told c.args.path.now) run c.in-Ok-history.history.items c.in-Ok-journal_of.text.items
    (c.in-Ok.ensures.told told tells) c.in-Ok-history.ensures printed
    (fixes sha_hash run c.in-Ok-history.history.items c.in-Ok-journal_of.text.items (few-scripts c.in-Ok.both.0 c.in-Ok.ensures.within).workers c.in-Ok-history.ensures.legal printed)

pub returns-clause-some : goal.returns-clause-some
returns-clause-some g c =
    let run : Run = run_with c.in-Ok.both.0 c.in-Ok.both.1 in
    let printed = c.in-Ok-journal_of.ensures ∙ ap (λ h. journal h (calls_in run.scripts)) c.deref.ensures.value in
    map-some _ (λ goes. GoesTo (PrintsSound sha_hash) goes c.in-Ok-journal_of.text.items)
    (λ goes is.
    goes-to sha_hash (IsSound sha_hash) goes run c.in-Ok-history.history.items c.in-Ok-journal_of.text.items is c.in-Ok-history.ensures printed
    (fixes sha_hash run c.in-Ok-history.history.items c.in-Ok-journal_of.text.items (few-scripts c.in-Ok.both.0 c.in-Ok.ensures.within).workers c.in-Ok-history.ensures.legal printed))
    c.in-Ok.ensures.some
