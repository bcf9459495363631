-- Once it was started, a process that is not guarded stays so.
use Rattle.std.proofs.Common.{◌≡◌, ◌≢◌, ℕ, false, ◌+◌, ◌&&◌, not, [], ◌∷◌, map, length, Option, Some, None, refl, ◌∙◌}
use Rattle.std.specs.Prelude.{find, nat_lt}
use Rattle.cs_policy.specs.declared.process.ProcEvent.{ProcEvent}
use Rattle.cs_policy.specs.declared.process.ProcEvent.TheVariants.{Start, Insert, Resolve, Remove, Debug, Punish, ClearValid, Exit}
use Rattle.cs_policy.specs.declared.process.ProcReply.TheVariants as reply
use Rattle.cs_policy.specs.ProcFlags.{kill, killed, debugged, is_set, with_flag, guarded}
use Rattle.cs_policy.proofs.FlagFacts.{guarded-without_valid, guarded-with_killed, guarded-with_debugged}
use Rattle.pg_process.specs.declared.mapping.Mapping.{Mapping}
use Rattle.pg_process.specs.declared.state.State.{State}
use Rattle.pg_process.specs.declared.state.State.TheVariants.{Fresh, Alive, Killed, Gone}
use Rattle.pg_process.specs.Regions.{met, least, begins_at, with_mapping}
use Rattle.pg_process.specs.ProcessStep.{PlainProcess, next_id, row, started, inserted, removed, process_step}
use Rattle.pg_process.proofs.StepFacts.{either_step, events_keep}
use Rattle.pg_process.specs.Laws.{after_events, UnguardedStaysUnguarded}

-- the process was started, and is not guarded
pub record IsUnguarded (p : PlainProcess) : Type 0 where
  pub begun : p.state ≢ Fresh
  pub unguarded : guarded p.flags ≡ false

started_kept : (state : State) (p : PlainProcess) → state ≢ Fresh → IsUnguarded p → IsUnguarded (started state p).1
started_kept Fresh p begun kept = absurd (begun refl)
started_kept Alive p begun kept = kept
started_kept Killed p begun kept = kept
started_kept Gone p begun kept = kept

inserted_kept : (met : Option ℕ) (p : PlainProcess) (m : Mapping) → IsUnguarded p → IsUnguarded (inserted met p m).1
inserted_kept (Some id) p m kept = kept
inserted_kept None p m kept =
    either_step IsUnguarded (nat_lt (length p.regions) 256) (reply.Inserted m.id, record p { made = p.made + 1; regions = with_mapping m p.regions }) (reply.Full 256, p)
    (record { begun = kept.begun; unguarded = kept.unguarded }) kept

removed_kept : (found : Option Mapping) (at : ℕ) (p : PlainProcess) → IsUnguarded p → IsUnguarded (removed found at p).1
removed_kept None at p kept = kept
removed_kept (Some m) at p kept = record { begun = kept.begun; unguarded = kept.unguarded }

row_kept : (p : PlainProcess) (e : ProcEvent) → IsUnguarded p → IsUnguarded (row p e).1
row_kept p Start kept = started_kept p.state p kept.begun kept
row_kept p (Insert at file file_pages first pages prot shared) kept =
    let m : Mapping = record { at = at; id = next_id p; file = file; first = first; pages = pages; prot = prot; shared = shared } in
    let overlapped = least (map (λ (o : Mapping). o.id) (met p.page at pages p.regions)) in
    either_step IsUnguarded (nat_lt file_pages (first + pages)) (reply.OutOfFile file_pages, p) (inserted overlapped p m) kept (inserted_kept overlapped p m kept)
row_kept p (Resolve addr access) kept = kept
row_kept p (Remove at) kept = removed_kept (find (λ m. begins_at at m) p.regions) at p kept
row_kept p Debug kept = record { begun = kept.begun; unguarded = guarded-with_debugged p.flags }
row_kept p Punish kept =
    either_step IsUnguarded (is_set p.flags kill && not (is_set p.flags debugged)) (reply.Kill, record p { state = Killed; flags = with_flag p.flags killed }) (reply.Spare, p)
    (record { begun = λ same. cc; unguarded = guarded-with_killed p.flags ∙ kept.unguarded }) kept
row_kept p ClearValid kept = record { begun = kept.begun; unguarded = guarded-without_valid p.flags ∙ kept.unguarded }
row_kept p Exit kept = record { begun = λ same. cc; unguarded = kept.unguarded }

-- after one event
pub step_unguarded : (p : PlainProcess) (e : ProcEvent) → IsUnguarded p → IsUnguarded (process_step p e).1
step_unguarded p e kept = events_keep IsUnguarded row_kept (e ∷ []) p kept

pub stays_unguarded : UnguardedStaysUnguarded
stays_unguarded p events begun unguarded =
    let kept : IsUnguarded (after_events p events) = events_keep IsUnguarded row_kept events p (record { begun = begun; unguarded = unguarded }) in
    kept.unguarded
