-- What was played script by script is the one legal history of the scripts one after another, and it is sound.
use Rattle.std.proofs.Common.{◌≡◌, ℕ, ◌<◌, ◌≤◌, List, [], ◌∷◌, ◌++◌, length, map, refl, sym, ap, subst, ◌∙◌, arith}
use Rattle.std.specs.Prelude.{slice_index_or}
use Rattle.std.proofs.lemmas.List.{length-map}
use Rattle.pg_digest.specs.Kinds.{Hash}
use Rattle.cs_policy.specs.declared.call.Call.{Call}
use Rattle.pg_history.specs.Machine.{Line}
use Rattle.pg_history.specs.Opening.{Opening, IsOpening, Numbers, numbers_of}
use Rattle.pg_history.specs.Machine.{Answered}
use Rattle.pg_history.specs.ByParts.{AnsweredByParts}
use Rattle.pg_history.specs.Legal.{IsStamped, Agrees, Legal, calls_in}
use Rattle.pg_history.specs.Sealing.{FewThroughout}
use Rattle.pg_history.proofs.PartFacts.{parts_answer}
use Rattle.pg_history.proofs.ScriptLinkFacts.{scripts_link}
use Rattle.pg_history.proofs.SoloFacts.{ordered_is_solo}
use Rattle.pg_history.proofs.FewFacts.{few_by_scripts}
use Rattle.pg_history.proofs.DenialFacts.{denials_are_verdicts}
use Rattle.pg_sealing.proofs.SealingFacts.{linked_keeps, linked_seals}
use Rattle.pg_calls.specs.Parts.{PartsNow}
use Rattle.pg_calls.specs.Scripts.{HasRoomForAll}
use Rattle.scene_run.specs.Needs.{row_of, played, needs_of}
use Rattle.scene_run.specs.Turns.{InTurn, PlaysAll}
use Rattle.scene_run.specs.Runs.{RunsSolo}
use Rattle.scene_run.proofs.NeedsFacts.{room-for-script}
use Rattle.scene_run.proofs.TurnFacts.{in-turn-scripted, in-turn-ordered, Turned}

-- ---- a script that is played

played-some : (scripts : List (List Call)) (k : ℕ) → k < length scripts → played scripts ≡ scripts
played-some [] k lt = absurd (omega (arith, lt))
played-some (script ∷ scripts) k lt = refl

pub needed-rows : (files processes : ℕ) (scripts : List (List Call)) (k : ℕ) → k < length scripts → needs_of files processes scripts ≡ map (row_of files processes) scripts
needed-rows files processes scripts k lt = ap (λ ss. map (row_of files processes) ss) (played-some scripts k lt)

pub room-now : (hash : Hash) (start now : PartsNow) (scripts : List (List Call)) (worker : ℕ)
    → start.needs ≡ needs_of (length start.numbers.files) start.numbers.processes scripts → start.made ≡ []
    → worker < length scripts → Turned hash scripts worker start now → HasRoomForAll now worker (slice_index_or scripts worker [])
room-now hash start now scripts worker needs none lt turned =
    room-for-script start now scripts worker turned.own (needs ∙ needed-rows (length start.numbers.files) start.numbers.processes scripts worker lt) none lt turned.made turned.earlier

pub served : (hash : Hash) (start now : PartsNow) (scripts : List (List Call)) (worker : ℕ)
    → start.needs ≡ needs_of (length start.numbers.files) start.numbers.processes scripts
    → worker < length scripts → Turned hash scripts worker start now → worker < length now.needs
served hash start now scripts worker needs lt turned =
    let many : length now.needs ≡ length scripts =
    ap (λ (p : PartsNow). length p.needs) turned.made ∙ ap length (needs ∙ needed-rows (length start.numbers.files) start.numbers.processes scripts worker lt)
    ∙ length-map scripts (row_of (length start.numbers.files) start.numbers.processes) in
    omega (arith, lt, many)

-- ---- the history

pub sound-history : (hash : Hash) (o : Opening) (scripts : List (List Call)) (start now : PartsNow) (history : List Line)
    → IsOpening o → calls_in scripts ≤ 4096 → start.numbers ≡ numbers_of o → start.made ≡ [] → PlaysAll hash scripts start now
    → now.made ≡ history → IsStamped history → Agrees (numbers_of o) history → AnsweredByParts hash o.machine history → RunsSolo hash o scripts history
sound-history hash o scripts start now history opens few numbers none plays made stamps agrees answered = record {
  is_solo = ordered_is_solo hash o scripts history legal (in-turn-ordered hash (numbers_of o) 0 scripts history in_turn);
  sound = record {
    legal = legal;
    kept = linked_keeps hash o opens history legal.linked few_regions;
    is_sealed = linked_seals hash o opens history legal.linked few_regions;
    denials = denials_are_verdicts hash o history replies;
  };
}
  where
    own-is : plays.own ≡ history
    own-is = ap (λ (m : List Line). m ++ plays.own) (sym none) ∙ sym (ap (λ (p : PartsNow). p.made) plays.made) ∙ made

    in_turn : InTurn hash (numbers_of o) 0 scripts history
    in_turn = subst (λ (es : List Line). InTurn hash (numbers_of o) 0 scripts es) own-is
        (subst (λ (n : Numbers). InTurn hash n 0 scripts plays.own) numbers plays.in_turn)

    replies : Answered hash o.machine history
    replies = parts_answer hash o.machine history answered

    legal : Legal hash o scripts history
    legal = scripts_link hash o scripts history stamps agrees replies (in-turn-scripted hash (numbers_of o) scripts history in_turn)

    few_regions : FewThroughout hash o history
    few_regions = few_by_scripts hash o scripts history opens legal few
