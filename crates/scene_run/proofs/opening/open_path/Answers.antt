use Rattle.std.proofs.Common.{Ok, Err, ◌∙◌, subst}
use Rattle.pg_io.specs.Files.{next_read, after_read}
use Rattle.scene_run.specs.Ending.{EarlyIsCaused}
use Rattle.scene_run.proofs.EndingFacts.{scene-ends, items-ends, goes-from, scene-some, items-some, opened-some}
use Rattle.scene_run.proofs.CauseFacts.{scene-caused, items-caused, all-reads, one-read}
use Rattle.scene_run.proofs.opening.open_path.Goals as goal

pub returns-in-Err-clause-cause : goal.returns-in-Err-clause-cause
returns-in-Err-clause-cause g c = scene-caused _ _ c.in-Err.status c.in-Err.ensures.some c.in-Err.ensures.cause

pub returns-in-Err-clause-told : goal.returns-in-Err-clause-told
returns-in-Err-clause-told g c = λ told tells.
    scene-ends (after_read told) (next_read told c.args.path.now) c.in-Err.status (c.in-Err.ensures.told told tells)

pub returns-in-Err-open_items-clause-told : goal.returns-in-Err-open_items-clause-told
returns-in-Err-open_items-clause-told g c = λ told tells.
    items-ends (after_read told) (next_read told c.args.path.now) c.in-Ok.scene c.in-Err-open_items.status
    (c.in-Ok.ensures.told told tells) (c.in-Err-open_items.ensures.told (after_read told) (c.in-Ok.ensures.read told tells))

pub returns-in-Err-open_items-clause-cause : goal.returns-in-Err-open_items-clause-cause
returns-in-Err-open_items-clause-cause g c =
    subst (λ n. EarlyIsCaused n (g.F.Files.faults c.open_items.new.files) c.in-Err-open_items.status) c.in-Ok.ensures.cause
    (items-caused _ _ c.in-Err-open_items.status c.in-Ok.scene.head c.in-Err-open_items.ensures.some c.in-Err-open_items.ensures.cause)

pub returns-in-Err-clause-reads : goal.returns-in-Err-clause-reads
returns-in-Err-clause-reads g c = λ told tells. one-read told (next_read told c.args.path.now) _ (c.in-Err.ensures.reads told tells)

pub returns-in-Err-open_items-clause-reads : goal.returns-in-Err-open_items-clause-reads
returns-in-Err-open_items-clause-reads g c = λ told tells.
    all-reads told (next_read told c.args.path.now) c.in-Ok.scene (Err c.in-Err-open_items.status) _ (c.in-Ok.ensures.told told tells)
    (c.in-Err-open_items.ensures.reads (after_read told) (c.in-Ok.ensures.read told tells))

pub returns-clause-reads : goal.returns-clause-reads
returns-clause-reads g c = λ told tells.
    all-reads told (next_read told c.args.path.now) c.in-Ok.scene (Ok c.in-Ok-open_items.opened) _ (c.in-Ok.ensures.told told tells)
    (c.in-Ok-open_items.ensures.reads (after_read told) (c.in-Ok.ensures.read told tells))

pub returns-clause-told : goal.returns-clause-told
returns-clause-told g c = λ told tells.
    goes-from (after_read told) (next_read told c.args.path.now) c.in-Ok.scene c.in-Ok-open_items.opened (c.in-Ok.ensures.told told tells)
    (c.in-Ok-open_items.ensures.told (after_read told) (c.in-Ok.ensures.read told tells))

pub returns-in-Err-clause-some : goal.returns-in-Err-clause-some
returns-in-Err-clause-some g c = scene-some c.in-Err.status c.in-Err.ensures.some

pub returns-in-Err-open_items-clause-some : goal.returns-in-Err-open_items-clause-some
returns-in-Err-open_items-clause-some g c =
    items-some c.in-Ok.ensures.some.0 c.in-Ok.scene c.in-Err-open_items.status c.in-Ok.ensures.some.1 c.in-Err-open_items.ensures.some

pub returns-clause-some : goal.returns-clause-some
returns-clause-some g c =
    opened-some c.in-Ok.ensures.some.0 c.in-Ok.scene c.in-Ok-open_items.opened c.in-Ok.ensures.some.1 c.in-Ok-open_items.ensures.some

pub returns-clause-cause : goal.returns-clause-cause
returns-clause-cause g c = c.in-Ok-open_items.ensures.cause ∙ c.in-Ok.ensures.cause
