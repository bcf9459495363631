-- What workers played by their passes is a legal history, and it is sound.
use Rattle.std.proofs.Common.{◌≡◌, ◌⊎◌, ℕ, ◌<◌, ◌≤◌, inl, inr, false, List, [], ◌∷◌, length, refl, sym, subst, arith, Option, Some, None}
use Rattle.std.specs.Prelude.{◌==◌, IfSome}
use Rattle.std.specs.List.{AllByRecursion}
use Rattle.std.proofs.lemmas.Grind.{common_steps}
use Rattle.std.proofs.lemmas.Bool.{cases_lt}
use Rattle.std.proofs.lemmas.Bool.Decides.{nat_tests}
use Rattle.std.proofs.lemmas.List.{get_or_past}
use Rattle.pg_digest.specs.Kinds.{Hash}
use Rattle.cs_policy.specs.declared.call.Call.{Call}
use Rattle.cs_policy.specs.declared.entry.Entry.{Entry}
use Rattle.pg_book.specs.Models.{PassOf}
use Rattle.pg_book.specs.Opening.{EachFrom}
use Rattle.pg_book.proofs.Placing.{each_map}
use Rattle.pg_book.proofs.Closings.{each_both, each_get}
use Rattle.pg_history.specs.Machine.{Line, Answered}
use Rattle.pg_history.specs.Opening.{Opening, Numbers, numbers_of}
use Rattle.pg_history.specs.Legal.{Scripted, AreScripted, Agrees, Legal, entries_by, script_at, calls_in}
use Rattle.pg_history.specs.Sealing.{FewThroughout}
use Rattle.pg_history.proofs.PartFacts.{parts_answer}
use Rattle.pg_history.proofs.ScriptLinkFacts.{scripts_link}
use Rattle.pg_history.proofs.FewFacts.{few_by_scripts}
use Rattle.pg_history.proofs.DenialFacts.{denials_are_verdicts}
use Rattle.pg_sealing.proofs.SealingFacts.{linked_keeps, linked_seals}
use Rattle.pg_parts.specs.Opened.{OpenedNow, numbers_in, opening_in}
use Rattle.pg_machine.specs.Solo.{IsAnswered}
use Rattle.pg_shared.specs.Plan.{Plan}
use Rattle.pg_shared.specs.Drawn.{drawn_by}
use Rattle.pg_shared.specs.Passes.{IsPassOf}
use Rattle.pg_shared.specs.Closing.{ArePassesOfRun, IsClosed}
use Rattle.scene_run.specs.Runs.{IsSound}
use Rattle.scene_threads.specs.Workers.{HasPlayedAt}

-- ---- a worker that there is not

differ : (a b : ℕ) → a < b → (a == b) ≡ false
differ a b lt = grind (arith, common_steps, nat_tests, lt)

unmade : (n worker : ℕ) (history : List Line) → n ≤ worker → AllByRecursion (λ e. e.entry.who.worker < n) history → entries_by worker history ≡ []
unmade n worker [] le all = refl
unmade n worker (x ∷ xs) le all =
    let other : (x.entry.who.worker == worker) ≡ false = differ x.entry.who.worker worker (omega (arith, le, all.0)) in
    grind (arith, common_steps, nat_tests, other, unmade n worker xs le all.1)

-- ---- passes by which scripts were played

pub passes-played : (hash : Hash) (plan : Plan) (scripts : List (List Call)) (passes : List (PassOf Entry)) → length passes ≡ length plan.start.needs
    → EachFrom (HasPlayedAt hash plan scripts) 0 passes → ArePassesOfRun plan passes
passes-played hash plan scripts passes count played = record {
  count = count;
  each = each_map (HasPlayedAt hash plan scripts) (IsPassOf plan) 0 passes (λ w p one. one.is_pass) played;
}

module _ (hash : Hash) (plan : Plan) (scripts : List (List Call)) (passes : List (PassOf Entry)) (history : List Line) (now : OpenedNow)
    (behind : length scripts ≤ length passes) (count : length passes ≡ length plan.start.needs)
    (played : EachFrom (HasPlayedAt hash plan scripts) 0 passes) (closed : IsClosed hash plan passes history now) where
  scripted_one : (worker : ℕ) → worker < length passes → Scripted hash (numbers_in plan.start) worker 0 (script_at scripts worker) (entries_by worker history)
  scripted_one worker lt =
      let at = each_get (λ w p. HasPlayedAt hash plan scripts w p × (entries_by w history ≡ drawn_by p)) 0 worker passes (omega arith) (omega (arith, lt))
      (each_both (HasPlayedAt hash plan scripts) (λ w p. entries_by w history ≡ drawn_by p) 0 passes played closed.by_worker) in
      subst (λ (es : List Line). Scripted hash (numbers_in plan.start) worker 0 (script_at scripts worker) es) (sym at.1.1) at.1.0.scripted

  scripted_none : (worker : ℕ) → length passes ≤ worker → Scripted hash (numbers_in plan.start) worker 0 (script_at scripts worker) (entries_by worker history)
  scripted_none worker le =
      subst (λ (cs : List Call). Scripted hash (numbers_in plan.start) worker 0 cs (entries_by worker history))
      (sym (get_or_past scripts worker [] (omega (arith, behind, le))))
      (unmade (length plan.start.needs) worker history (omega (arith, count, le)) closed.workers)

  scripted : AreScripted hash (numbers_in plan.start) scripts history
  scripted worker = by_place (cases_lt worker (length passes))
    where
      by_place : (worker < length passes) ⊎ (length passes ≤ worker) → Scripted hash (numbers_in plan.start) worker 0 (script_at scripts worker) (entries_by worker history)
      by_place (inl lt) = scripted_one worker lt
      by_place (inr le) = scripted_none worker le

  sound_shared : (o : Opening) → IsAnswered hash (numbers_in plan.start) history o → calls_in scripts ≤ 4096 → IsSound hash o scripts history
  sound_shared o answered few = record {
    legal = legal;
    kept = linked_keeps hash o answered.opening history legal.linked few_regions;
    is_sealed = linked_seals hash o answered.opening history legal.linked few_regions;
    denials = denials_are_verdicts hash o history replies;
  }
    where
      replies : Answered hash o.machine history
      replies = parts_answer hash o.machine history answered.answered

      agrees : Agrees (numbers_of o) history
      agrees = subst (λ (n : Numbers). Agrees n history) (sym answered.same_numbers) closed.agrees

      legal : Legal hash o scripts history
      legal = scripts_link hash o scripts history closed.stamps agrees replies
          (subst (λ (n : Numbers). AreScripted hash n scripts history) (sym answered.same_numbers) scripted)

      few_regions : FewThroughout hash o history
      few_regions = few_by_scripts hash o scripts history answered.opening legal few

  pub sound-if-told : calls_in scripts ≤ 4096 → IfSome (opening_in plan.start) (λ o. IsSound hash o scripts history)
  sound-if-told few = told (opening_in plan.start) closed.answered
    where
      told : (x : Option Opening) → IfSome x (IsAnswered hash (numbers_in plan.start) history) → IfSome x (λ o. IsSound hash o scripts history)
      told (Some o) answered = sound_shared o answered few
      told None answered = tt
