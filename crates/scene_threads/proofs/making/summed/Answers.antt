use Rattle.std.proofs.Common.{ap, refl, ◌∙◌}
use Rattle.pg_digest.specs.Digests.{sha_hash}
use Rattle.pg_history.specs.Legal.{calls_in}
use Rattle.pg_report.specs.Journal.{summary}
use Rattle.scene_open.specs.Items.{items_told}
use Rattle.scene_threads.proofs.MadeFacts.{prints-made, only-memory}
use Rattle.scene_threads.proofs.making.summed.Goals as goal

pub returns : goal.returns
returns g c =
    prints-made sha_hash c.args.n c.in_ok-scene.scene _ c.in-Ok.opened c.in_ok-history.history.items c.in_ok-text.text.items
    c.in_ok-scene.ensures.scene c.in_ok-scene.ensures.files (c.in-Ok.ensures.told _ refl) c.in_ok-history.ensures
    (c.in_ok-text.ensures ∙ ap (λ h. summary h (calls_in c.in_ok-scene.scene.scripts)) c.deref.ensures.value)

pub memory-requires : goal.memory-requires
memory-requires g c = only-memory (items_told c.in_ok-scene.files.told c.in_ok-scene.scene.head) c.in-Err.status (c.in-Err.ensures.told _ refl) c.in_ok-scene.ensures.opens
