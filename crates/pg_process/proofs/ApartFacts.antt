-- The regions of a process stay apart.
use Rattle.std.proofs.Common.{◌≡◌, ℕ, ◌+◌, ◌&&◌, Bool, true, false, cond, not, List, [], ◌∷◌, length, map, filter, Option, Some, None, refl, subst, ◌∙◌}
use Rattle.std.specs.Prelude.{nat_lt, find}
use Rattle.std.specs.List.{AllByRecursion}
use Rattle.cs_policy.specs.declared.process.ProcEvent.{ProcEvent}
use Rattle.cs_policy.specs.declared.process.ProcEvent.TheVariants.{Start, Insert, Resolve, Remove, Debug, Punish, ClearValid, Exit}
use Rattle.cs_policy.specs.declared.process.ProcReply.TheVariants as reply
use Rattle.cs_policy.specs.ProcFlags.{kill, killed, debugged, is_set, with_flag}
use Rattle.pg_process.specs.declared.mapping.Mapping.{Mapping}
use Rattle.pg_process.specs.declared.state.State.{State}
use Rattle.pg_process.specs.declared.state.State.TheVariants.{Fresh, Alive, Killed, Gone}
use Rattle.pg_process.specs.Regions.{end_of, is_met, met, least, begins_at, with_mapping}
use Rattle.pg_process.specs.ProcessStep.{PlainProcess, fresh, next_id, row, started, inserted, removed}
use Rattle.pg_process.proofs.StepFacts.{either_step, events_keep}
use Rattle.pg_process.proofs.OrderFacts.{all_with, all_filter, none_met}
use Rattle.pg_process.specs.Laws.{after_events, AreApart, RegionsStayApart}

-- two regions meet each other
and_swap : (a b : Bool) → (a && b) ≡ (b && a)
and_swap true true = refl
and_swap true false = refl
and_swap false true = refl
and_swap false false = refl

module _ (page : ℕ) where
  met_both : (m o : Mapping) → is_met page m.at m.pages o ≡ is_met page o.at o.pages m
  met_both m o = and_swap (nat_lt m.at (end_of page o)) (nat_lt o.at (end_of page m))

  -- a region that meets no other is put among them
  apart_with : (new : Mapping) (ms : List Mapping) → AreApart page ms → AllByRecursion (λ m. is_met page new.at new.pages m ≡ false) ms → AreApart page (with_mapping new ms)
  apart_with new [] kept apart = (tt, tt)
  apart_with new (m ∷ ms) kept apart =
      elim (nat_lt m.at new.at) as (λ b. AreApart page (cond b (m ∷ with_mapping new ms) (new ∷ m ∷ ms))) [
        | true ↦ (all_with (λ o. is_met page m.at m.pages o ≡ false) new ms (met_both m new ∙ apart.0) kept.0, apart_with new ms kept.1 apart.1)
        | false ↦ (apart, kept)
      ]

  -- some of them are apart too
  apart_filter : (test : Mapping → Bool) (ms : List Mapping) → AreApart page ms → AreApart page (filter test ms)
  apart_filter test [] kept = tt
  apart_filter test (m ∷ ms) kept =
      elim (test m) as (λ b. AreApart page (cond b (m ∷ filter test ms) (filter test ms))) [
        | true ↦ (all_filter (λ o. is_met page m.at m.pages o ≡ false) test ms kept.0, apart_filter test ms kept.1)
        | false ↦ apart_filter test ms kept.1
      ]

-- the process has pages of this size, and its regions are apart
record HasRegionsApart (page : ℕ) (p : PlainProcess) : Type 0 where
  same : p.page ≡ page
  apart : AreApart p.page p.regions

module _ (page : ℕ) where
  started_apart : (state : State) (p : PlainProcess) → HasRegionsApart page p → HasRegionsApart page (started state p).1
  started_apart Fresh p kept = record { same = kept.same; apart = kept.apart }
  started_apart Alive p kept = kept
  started_apart Killed p kept = kept
  started_apart Gone p kept = kept

  inserted_apart : (found : Option ℕ) (p : PlainProcess) (m : Mapping) → (found ≡ None → AllByRecursion (λ o. is_met p.page m.at m.pages o ≡ false) p.regions) → HasRegionsApart page p → HasRegionsApart page (inserted found p m).1
  inserted_apart (Some id) p m apart kept = kept
  inserted_apart None p m apart kept =
      either_step (HasRegionsApart page) (nat_lt (length p.regions) 256) (reply.Inserted m.id, record p { made = p.made + 1; regions = with_mapping m p.regions }) (reply.Full 256, p)
      (record { same = kept.same; apart = apart_with p.page m p.regions kept.apart (apart refl) }) kept

  removed_apart : (found : Option Mapping) (at : ℕ) (p : PlainProcess) → HasRegionsApart page p → HasRegionsApart page (removed found at p).1
  removed_apart None at p kept = kept
  removed_apart (Some m) at p kept =
      record { same = kept.same; apart = apart_filter p.page (λ o. not (begins_at at o)) p.regions kept.apart }

  row_apart : (p : PlainProcess) (e : ProcEvent) → HasRegionsApart page p → HasRegionsApart page (row p e).1
  row_apart p Start kept = started_apart p.state p kept
  row_apart p (Insert at file file_pages first pages prot shared) kept =
      let m : Mapping = record { at = at; id = next_id p; file = file; first = first; pages = pages; prot = prot; shared = shared } in
      let found = least (map (λ (o : Mapping). o.id) (met p.page at pages p.regions)) in
      either_step (HasRegionsApart page) (nat_lt file_pages (first + pages)) (reply.OutOfFile file_pages, p) (inserted found p m) kept
      (inserted_apart found p m (none_met p.page at pages p.regions) kept)
  row_apart p (Resolve addr access) kept = kept
  row_apart p (Remove at) kept = removed_apart (find (λ m. begins_at at m) p.regions) at p kept
  row_apart p Debug kept = record { same = kept.same; apart = kept.apart }
  row_apart p Punish kept =
      either_step (HasRegionsApart page) (is_set p.flags kill && not (is_set p.flags debugged)) (reply.Kill, record p { state = Killed; flags = with_flag p.flags killed }) (reply.Spare, p)
      (record { same = kept.same; apart = kept.apart }) kept
  row_apart p ClearValid kept = record { same = kept.same; apart = kept.apart }
  row_apart p Exit kept = record { same = kept.same; apart = tt }

pub stay_apart : RegionsStayApart
stay_apart pid page declared events =
    let last = after_events (fresh pid declared page) events in
    let kept : HasRegionsApart page last =
    events_keep (HasRegionsApart page) (row_apart page) events (fresh pid declared page) (record { same = refl; apart = tt }) in
    subst (λ (n : ℕ). AreApart n last.regions) kept.same kept.apart
