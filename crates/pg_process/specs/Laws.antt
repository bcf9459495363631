-- Laws of processes over any events.
use Rattle.std.specs.Prelude.{ℕ, ◌≡◌, ◌≢◌, ◌≤◌, ◌↔◌, ⊤, Bool, true, false, List, [], ◌∷◌, All, Any}
use Rattle.std.specs.List.{AllByRecursion}
use Rattle.std.specs.Int.{bit_at}
use Rattle.cs_policy.specs.declared.access.Prot.{Prot}
use Rattle.cs_policy.specs.declared.flags.ProcFlags.{ProcFlags}
use Rattle.cs_policy.specs.declared.process.ProcEvent.{ProcEvent}
use Rattle.cs_policy.specs.declared.process.ProcEvent.TheVariants.{Start, Insert, Resolve, Remove, Debug, Punish, ClearValid, Exit}
use Rattle.cs_policy.specs.declared.process.ProcReply.TheVariants as reply
use Rattle.cs_policy.specs.ProcFlags.{guarded}
use Rattle.pg_process.specs.declared.mapping.Mapping.{Mapping}
use Rattle.pg_process.specs.Regions.{is_met}
use Rattle.pg_process.specs.declared.state.State.TheVariants.{Fresh}
use Rattle.pg_process.specs.ProcessStep.{PlainProcess, fresh, process_step}

-- the process after some events
abbrev pub after_events : PlainProcess → List ProcEvent → PlainProcess
after_events p [] = p
after_events p (e ∷ es) = after_events (process_step p e).1 es

-- the events that may change the flags
abbrev pub changes_flags : ProcEvent → Bool
changes_flags Start = true
changes_flags Debug = true
changes_flags Punish = true
changes_flags ClearValid = true
changes_flags (Insert at file file_pages first pages prot shared) = false
changes_flags (Resolve addr access) = false
changes_flags (Remove at) = false
changes_flags Exit = false

-- no other event changes them
abbrev pub FlagsChangeAtFourEvents : Type 0
FlagsChangeAtFourEvents = (p : PlainProcess) (e : ProcEvent) → changes_flags e ≡ false → (process_step p e).1.flags ≡ p.flags

-- once it was started, a process that is not guarded is not guarded after any events
abbrev pub UnguardedStaysUnguarded : Type 0
UnguardedStaysUnguarded =
    (p : PlainProcess) (events : List ProcEvent) → p.state ≢ Fresh → guarded p.flags ≡ false
    → guarded (after_events p events).flags ≡ false

-- the least number of the regions that so many pages at an address meet
pub record IsLeastMet (page at pages : ℕ) (regions : List Mapping) (id : ℕ) : Type 0 where
  pub reached : Any (λ m. (m.id ≡ id) × (is_met page at pages m ≡ true)) regions
  pub least : All (λ m. is_met page at pages m ≡ true → id ≤ m.id) regions

-- Overlap names it
abbrev pub OverlapNamesTheLeast : Type 0
OverlapNamesTheLeast =
    (p : PlainProcess) (at file file_pages first pages : ℕ) (prot : Prot) (shared : Bool) (id : ℕ)
    → (process_step p (Insert at file file_pages first pages prot shared)).0 ≡ reply.Overlap id
    → IsLeastMet p.page at pages p.regions id

-- the bits that Exited names are those of the files of the regions that stood
abbrev pub ExitNamesEachFile : Type 0
ExitNamesEachFile =
    (p : PlainProcess) (files : ℕ) → (process_step p Exit).0 ≡ reply.Exited files
    → (k : ℕ) → (bit_at files k ≡ 1) ↔ Any (λ m. m.file ≡ k) p.regions

-- no two regions of a list share an address
abbrev pub AreApart : ℕ → List Mapping → Type 0
AreApart page [] = ⊤
AreApart page (m ∷ ms) = AllByRecursion (λ other. is_met page m.at m.pages other ≡ false) ms × AreApart page ms

-- the regions of a process are apart after any events
abbrev pub RegionsStayApart : Type 0
RegionsStayApart =
    (pid page : ℕ) (declared : ProcFlags) (events : List ProcEvent)
    → AreApart page (after_events (fresh pid declared page) events).regions
