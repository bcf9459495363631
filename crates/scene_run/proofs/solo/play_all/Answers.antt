use Rattle.std.proofs.Common.{◌≡◌, ◌+◌, List, [], ◌∷◌, length, drop, sym, ap, subst, ◌∙◌, arith}
use Rattle.std.specs.Prelude.{slice_index_or}
use Rattle.std.proofs.lemmas.List.{length-map}
use Rattle.pg_digest.specs.Digests.{sha_hash}
use Rattle.cs_policy.specs.declared.call.Call.{Call}
use Rattle.pg_calls.specs.Scripts.{HasRoomForAll}
use Rattle.pg_machine.specs.Solo.{shown}
use Rattle.scene_run.specs.Needs.{needs_of}
use Rattle.scene_run.proofs.SoloFacts.{room-now}
use Rattle.scene_run.proofs.TurnFacts.{Turned, turned-one, turned-all, same-default, next-script}
use Rattle.scene_run.proofs.solo.play_all.Goals as goal

pub play-requires-clause-room : goal.play-requires-clause-room
play-requires-clause-room c =
    let same : slice_index_or c.args.scripts.now c.loop-number.number [] ≡ c.items-script.result.now =
    same-default c.args.scripts.now c.loop-number.number [] c.index-scripts-number.result c.loop-number-test.true
    ∙ sym c.index-scripts-number.is ∙ sym c.items-script.ensures in
    subst (λ (s : List Call). HasRoomForAll (shown c.loop-number.parts) c.loop-number.number s) same
    (room-now sha_hash (shown c.args.parts.now) (shown c.loop-number.parts) c.args.scripts.now c.loop-number.number
    (c.requires.needs ∙ ap (λ n. needs_of n (length c.args.parts.now.start.processes) c.args.scripts.now) (sym (length-map c.args.parts.now.start.files _)))
    c.requires.unmade c.loop-number-test.true c.loop-number.invariant)

pub loop-number-preserved : goal.loop-number-preserved
loop-number-preserved c =
    turned-one sha_hash c.args.scripts.now (shown c.args.parts.now) c.loop-number.number (shown c.loop-number.parts) (shown c.play.new.parts) c.items-script.result.now
    c.loop-number.invariant
    (next-script c.args.scripts.now c.loop-number.number c.index-scripts-number.result c.loop-number-test.true (sym c.index-scripts-number.is)
    ∙ ap (λ s. s ∷ drop (c.loop-number.number + 1) c.args.scripts.now) (sym c.items-script.ensures))
    c.in_ok-play.ensures.plays

pub returns : goal.returns
returns c =
    let whole : c.loop-number.number ≡ length c.args.scripts.now = omega (arith, c.loop-number-test.false, c.loop-number.auto.number-end) in
    turned-all sha_hash c.args.scripts.now (shown c.args.parts.now) (shown c.loop-number.parts)
    (subst (λ n. Turned sha_hash c.args.scripts.now n (shown c.args.parts.now) (shown c.loop-number.parts)) whole c.loop-number.invariant)
