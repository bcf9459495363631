use Rattle.std.proofs.Common.{◌≡◌, ◌≤◌, List, length, Some, sym, ap, subst, ◌∙◌}
use Rattle.std.specs.Prelude.{All, IfSome}
use Rattle.pg_digest.specs.Digests.{sha_hash}
use Rattle.cs_policy.specs.declared.call.Call.{Call}
use Rattle.pg_history.specs.Machine.{Line}
use Rattle.pg_history.specs.Opening.{Opening, Numbers, numbers_of}
use Rattle.pg_history.specs.Legal.{IsStamped, Agrees}
use Rattle.pg_history.specs.ByParts.{AnsweredByParts}
use Rattle.pg_calls.specs.Calls.{IsDeclared}
use Rattle.pg_calls.specs.Parts.{PartsNow}
use Rattle.pg_parts.specs.Opened.{numbers_in, opening_in}
use Rattle.pg_machine.specs.Solo.{SoloNow, shown, IsAnswered}
use Rattle.scene_run.specs.Turns.{PlaysAll}
use Rattle.scene_run.specs.Runs.{RunsSolo}
use Rattle.scene_run.proofs.LinesFacts.{few-scripts, all-short, scene-declared}
use Rattle.scene_run.proofs.SoloFacts.{sound-history}
use Rattle.scene_run.proofs.solo.run_alone.Goals as goal

pub play_all-requires-clause-workers : goal.play_all-requires-clause-workers
play_all-requires-clause-workers c =
    subst (λ (ss : List (List Call)). length ss ≤ 8) (sym c.items.ensures) (few-scripts c.args.scene.now c.requires.within).workers

pub play_all-requires-clause-few : goal.play_all-requires-clause-few
play_all-requires-clause-few c =
    subst (λ (ss : List (List Call)). All (λ script. length script ≤ 4096) ss) (sym c.items.ensures)
    (all-short c.args.scene.now.scripts 4096 (few-scripts c.args.scene.now c.requires.within).calls)

pub play_all-requires-clause-declared : goal.play_all-requires-clause-declared
play_all-requires-clause-declared c =
    let o : Opening = c.requires.start.opening in
    let numbers : numbers_in c.in_ok-solo.solo.start ≡ numbers_of o =
    ap (λ (s : SoloNow). numbers_in s.start) c.in_ok-solo.ensures.opened ∙ c.requires.start.numbers in
    subst (λ (ss : List (List Call)). All (All (IsDeclared (numbers_in c.in_ok-solo.solo.start))) ss) (sym c.items.ensures)
    (subst (λ (n : Numbers). All (All (IsDeclared n)) c.args.scene.now.scripts) (sym numbers) (scene-declared c.args.scene.now o c.requires.start.fits))

pub returns : goal.returns
returns c =
    let o : Opening = c.requires.start.opening in
    let scripts : List (List Call) = c.args.scene.now.scripts in
    let numbers : numbers_in c.in_ok-solo.solo.start ≡ numbers_of o =
    ap (λ (s : SoloNow). numbers_in s.start) c.in_ok-solo.ensures.opened ∙ c.requires.start.numbers in
    let plays : PlaysAll sha_hash scripts (shown c.in_ok-solo.solo) (shown c.play_all.new.parts) =
    subst (λ (ss : List (List Call)). PlaysAll sha_hash ss (shown c.in_ok-solo.solo) (shown c.play_all.new.parts)) c.items.ensures c.in_ok-play_all.ensures in
    let later : numbers_in c.play_all.new.parts.start ≡ numbers_of o = ap (λ (p : PartsNow). p.numbers) plays.made ∙ numbers in
    let opens : opening_in c.play_all.new.parts.start ≡ Some o =
    ap (λ (p : PartsNow). p.opening) plays.made ∙ ap (λ (s : SoloNow). opening_in s.start) c.in_ok-solo.ensures.opened ∙ c.requires.start.opens in
    let answered : IsAnswered sha_hash (numbers_in c.play_all.new.parts.start) c.play_all.new.parts.made o =
    subst (λ x. IfSome x (IsAnswered sha_hash (numbers_in c.play_all.new.parts.start) c.play_all.new.parts.made)) opens c.close-history.ensures.answered in
    let made : c.play_all.new.parts.made ≡ c.close-history.result.0.items = sym c.close-history.ensures.history in
    subst (λ x. IfSome x (λ op. RunsSolo sha_hash op scripts c.close-history.result.0.items)) (sym c.requires.start.opens)
    (sound-history sha_hash o scripts (shown c.in_ok-solo.solo) (shown c.play_all.new.parts) c.close-history.result.0.items
    c.requires.start.fits.opening (few-scripts c.args.scene.now c.requires.within).calls numbers (ap (λ (s : SoloNow). s.made) c.in_ok-solo.ensures.opened) plays made
    (subst (λ (es : List Line). IsStamped es) made c.close-history.ensures.stamps)
    (subst (λ (es : List Line). Agrees (numbers_of o) es) made (subst (λ (n : Numbers). Agrees n c.play_all.new.parts.made) later c.close-history.ensures.agrees))
    (subst (λ (es : List Line). AnsweredByParts sha_hash o.machine es) made answered.answered))
