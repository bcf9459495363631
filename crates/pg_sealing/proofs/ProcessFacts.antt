-- The numbers of a process's regions, and what its replies say of it.
use Rattle.std.proofs.Common.{◌≡◌, ◌≢◌, ℕ, ◌+◌, ◌*◌, ◌/◌, ◌≤◌, ◌<◌, Bool, true, false, not, List, [], ◌∷◌, length, map, find, Option, Some, None, refl, sym, ap, subst, ◌∙◌, arith}
use Rattle.std.specs.Prelude.{◌&&◌, nat_lt, if◌then◌else◌}
use Rattle.std.specs.List.{AllByRecursion}
use Rattle.std.proofs.lemmas.Grind.{common_steps}
use Rattle.cs_policy.specs.declared.access.Access.{Access}
use Rattle.cs_policy.specs.declared.access.Prot.{Prot}
use Rattle.cs_policy.specs.declared.flags.ProcFlags.{ProcFlags}
use Rattle.cs_policy.specs.declared.process.ProcEvent.{ProcEvent}
use Rattle.cs_policy.specs.declared.process.ProcEvent.TheVariants.{Start, Insert, Resolve, Remove, Debug, Punish, ClearValid, Exit}
use Rattle.cs_policy.specs.declared.process.ProcReply.{ProcReply}
use Rattle.cs_policy.specs.declared.process.ProcReply.TheVariants as reply
use Rattle.cs_policy.specs.Access.{permits}
use Rattle.cs_policy.specs.ProcFlags.{kill, killed, debugged, is_set, with_flag}
use Rattle.pg_process.specs.declared.mapping.Mapping.{Mapping}
use Rattle.pg_process.specs.declared.state.State.{State}
use Rattle.pg_process.specs.declared.state.State.TheVariants.{Fresh, Alive, Killed, Gone}
use Rattle.pg_process.specs.Regions.{met, least, has_address, begins_at, file_page, with_mapping}
use Rattle.pg_process.specs.ProcessStep.{PlainProcess, next_id, row, started, inserted, removed, resolved, answered, unless_alive, process_step}
use Rattle.pg_process.proofs.StepFacts.{either_step, events_keep}
use Rattle.pg_process.proofs.OrderFacts.{all_with, all_filter}

-- the number of a region names the process k
abbrev pub IsOf : ℕ → Mapping → Type 0
IsOf k m = m.id / 4096 ≡ k

-- The process has the number k, and where it has made no more regions than there are numbers, theirs name it.
pub record HasNumber (k : ℕ) (p : PlainProcess) : Type 0 where
  pub pid : p.pid ≡ k
  pub regions : p.made ≤ 4096 → AllByRecursion (IsOf k) p.regions

quotient : (k n : ℕ) → n < 4096 → (k * 4096 + n) / 4096 ≡ k
quotient k n less = grind (arith, common_steps, less)

module _ (k : ℕ) where
  started_numbers : (state : State) (p : PlainProcess) → HasNumber k p → HasNumber k (started state p).1
  started_numbers Fresh p h = record { pid = h.pid; regions = h.regions }
  started_numbers Alive p h = h
  started_numbers Killed p h = h
  started_numbers Gone p h = h

  new_region : (p : PlainProcess) (m : Mapping) → m.id ≡ next_id p → HasNumber k p → HasNumber k (record p { made = p.made + 1; regions = with_mapping m p.regions })
  new_region p m is h = record {
    pid = h.pid;
    regions = λ few. all_with (IsOf k) m p.regions
        (ap (λ n. n / 4096) (is ∙ ap (λ pid. pid * 4096 + p.made) h.pid) ∙ quotient k p.made (omega (arith, few)))
        (h.regions (omega (arith, few)));
  }

  inserted_numbers : (found : Option ℕ) (p : PlainProcess) (m : Mapping) → m.id ≡ next_id p → HasNumber k p → HasNumber k (inserted found p m).1
  inserted_numbers (Some id) p m is h = h
  inserted_numbers None p m is h =
      either_step (HasNumber k) (nat_lt (length p.regions) 256) (reply.Inserted m.id, record p { made = p.made + 1; regions = with_mapping m p.regions }) (reply.Full 256, p)
      (new_region p m is h) h

  removed_numbers : (found : Option Mapping) (at : ℕ) (p : PlainProcess) → HasNumber k p → HasNumber k (removed found at p).1
  removed_numbers None at p h = h
  removed_numbers (Some m) at p h = record { pid = h.pid; regions = λ few. all_filter (IsOf k) (λ m. not (begins_at at m)) p.regions (h.regions few) }

  row_numbers : (p : PlainProcess) (e : ProcEvent) → HasNumber k p → HasNumber k (row p e).1
  row_numbers p Start h = started_numbers p.state p h
  row_numbers p (Insert at file file_pages first pages prot shared) h =
      let m : Mapping = record { at = at; id = next_id p; file = file; first = first; pages = pages; prot = prot; shared = shared } in
      let overlapped = least (map (λ (o : Mapping). o.id) (met p.page at pages p.regions)) in
      either_step (HasNumber k) (nat_lt file_pages (first + pages)) (reply.OutOfFile file_pages, p) (inserted overlapped p m) h (inserted_numbers overlapped p m refl h)
  row_numbers p (Resolve addr access) h = h
  row_numbers p (Remove at) h = removed_numbers (find (λ m. begins_at at m) p.regions) at p h
  row_numbers p Debug h = record { pid = h.pid; regions = h.regions }
  row_numbers p Punish h =
      either_step (HasNumber k) (is_set p.flags kill && not (is_set p.flags debugged)) (reply.Kill, record p { state = Killed; flags = with_flag p.flags killed }) (reply.Spare, p)
      (record { pid = h.pid; regions = h.regions }) h
  row_numbers p ClearValid h = record { pid = h.pid; regions = h.regions }
  row_numbers p Exit h = record { pid = h.pid; regions = λ few. tt }

  pub step_numbers : (p : PlainProcess) (e : ProcEvent) → HasNumber k p → HasNumber k (process_step p e).1
  step_numbers p e h = events_keep (HasNumber k) row_numbers (e ∷ []) p h

-- ---- what a reply says

-- the process was started, and has the flags and a region of this number
pub record Resolves (p : PlainProcess) (id : ℕ) (flags : ProcFlags) : Type 0 where
  pub begun : p.state ≢ Fresh
  pub same : flags ≡ p.flags
  pub region : (k : ℕ) → AllByRecursion (IsOf k) p.regions → id / 4096 ≡ k

-- what holds of all regions holds of the one that is found
found_holds : (P : Mapping → Type 0) (test : Mapping → Bool) (ms : List Mapping) (m : Mapping) → find test ms ≡ Some m → AllByRecursion P ms → P m
found_holds P test [] m e all = absurd (grind (arith, common_steps, e))
found_holds P test (x ∷ xs) m e all = by_test (test x) refl (found_holds P test xs m)
  where
    by_test : (b : Bool) → test x ≡ b → (find test xs ≡ Some m → AllByRecursion P xs → P m) → P m
    by_test true f rest = subst P (grind (arith, common_steps, f, e)) all.0
    by_test false f rest = rest (grind (arith, common_steps, f, e)) all.1

region_reply : (p : PlainProcess) (addr : ℕ) (access : Access) (found : Option Mapping) → find (λ m. has_address p.page addr m) p.regions ≡ found
    → p.state ≢ Fresh → (id number page : ℕ) (flags : ProcFlags) → resolved found p.page addr access p.flags ≡ reply.Region id number page flags → Resolves p id flags
region_reply p addr access None e begun id number page flags is = absurd (grind (arith, common_steps, is))
region_reply p addr access (Some m) e begun id number page flags is = by_test (permits m.prot access) is
  where
    same_id : reply.Region m.id m.file (file_page p.page m addr) p.flags ≡ reply.Region id number page flags → m.id ≡ id
    same_id f = grind (arith, common_steps, f)

    by_test : (b : Bool) → (if b then reply.Region m.id m.file (file_page p.page m addr) p.flags else reply.Prot m.id) ≡ reply.Region id number page flags → Resolves p id flags
    by_test true f = record {
      begun = begun;
      same = grind (arith, common_steps, f);
      region = λ k all. ap (λ n. n / 4096) (sym (same_id f)) ∙ found_holds (IsOf k) (λ m. has_address p.page addr m) p.regions m e all;
    }
    by_test false f = absurd (grind (arith, common_steps, f))

by_state : (state : State) (p : PlainProcess) → p.state ≡ state → (addr : ℕ) (access : Access) (id number page : ℕ) (flags : ProcFlags)
    → (answered (unless_alive state) p (row p (Resolve addr access))).0 ≡ reply.Region id number page flags → Resolves p id flags
by_state Fresh p is addr access id number page flags e = absurd (grind (arith, common_steps, e))
by_state Alive p is addr access id number page flags e =
    region_reply p addr access (find (λ m. has_address p.page addr m) p.regions) refl (λ same. absurd (grind (arith, common_steps, same, is))) id number page flags e
by_state Killed p is addr access id number page flags e = absurd (grind (arith, common_steps, e))
by_state Gone p is addr access id number page flags e = absurd (grind (arith, common_steps, e))

-- a Resolve that found a region
pub resolve_reply : (p : PlainProcess) (addr : ℕ) (access : Access) (id number page : ℕ) (flags : ProcFlags)
    → (process_step p (Resolve addr access)).0 ≡ reply.Region id number page flags → Resolves p id flags
resolve_reply p addr access id number page flags e = by_state p.state p refl addr access id number page flags e

-- a region was inserted: it has the next number, which is then used
pub record Inserts (p : PlainProcess) (new : PlainProcess) (i : ℕ) : Type 0 where
  pub number : i ≡ p.pid * 4096 + p.made
  pub made : new.made ≡ p.made + 1

abbrev answer : Bool → PlainProcess → Mapping → ProcReply × PlainProcess
answer room p m = if room then (reply.Inserted m.id, record p { made = p.made + 1; regions = with_mapping m p.regions }) else (reply.Full 256, p)

by_room : (room : Bool) (p : PlainProcess) (m : Mapping) (i : ℕ) → m.id ≡ next_id p → (answer room p m).0 ≡ reply.Inserted i → Inserts p (answer room p m).1 i
by_room true p m i is e = record { number = sym (inside e) ∙ is; made = refl }
  where
    inside : reply.Inserted m.id ≡ reply.Inserted i → m.id ≡ i
    inside f = grind (arith, common_steps, f)
by_room false p m i is e = absurd (grind (arith, common_steps, e))

by_met : (found : Option ℕ) (p : PlainProcess) (m : Mapping) (i : ℕ) → m.id ≡ next_id p → (inserted found p m).0 ≡ reply.Inserted i → Inserts p (inserted found p m).1 i
by_met (Some other) p m i is e = absurd (grind (arith, common_steps, e))
by_met None p m i is e = by_room (nat_lt (length p.regions) 256) p m i is e

abbrev in_file : Bool → ℕ → Option ℕ → PlainProcess → Mapping → ProcReply × PlainProcess
in_file past file_pages found p m = if past then (reply.OutOfFile file_pages, p) else inserted found p m

by_past : (past : Bool) (file_pages : ℕ) (found : Option ℕ) (p : PlainProcess) (m : Mapping) (i : ℕ) → m.id ≡ next_id p → (in_file past file_pages found p m).0 ≡ reply.Inserted i
    → Inserts p (in_file past file_pages found p m).1 i
by_past true file_pages found p m i is e = absurd (grind (arith, common_steps, e))
by_past false file_pages found p m i is e = by_met found p m i is e

by_life : (state : State) (p : PlainProcess) (found : ProcReply × PlainProcess) (i : ℕ) → (found.0 ≡ reply.Inserted i → Inserts p found.1 i) → (answered (unless_alive state) p found).0 ≡ reply.Inserted i
    → Inserts p (answered (unless_alive state) p found).1 i
by_life Fresh p found i row e = absurd (grind (arith, common_steps, e))
by_life Alive p found i row e = row e
by_life Killed p found i row e = absurd (grind (arith, common_steps, e))
by_life Gone p found i row e = absurd (grind (arith, common_steps, e))

pub insert_reply : (p : PlainProcess) (at number file_pages first pages : ℕ) (prot : Prot) (shared : Bool) (i : ℕ)
    → (process_step p (Insert at number file_pages first pages prot shared)).0 ≡ reply.Inserted i → Inserts p (process_step p (Insert at number file_pages first pages prot shared)).1 i
insert_reply p at number file_pages first pages prot shared i e =
    let m : Mapping = record { at = at; id = next_id p; file = number; first = first; pages = pages; prot = prot; shared = shared } in
    let overlapped = least (map (λ (o : Mapping). o.id) (met p.page at pages p.regions)) in
    by_life p.state p (in_file (nat_lt file_pages (first + pages)) file_pages overlapped p m) i
    (by_past (nat_lt file_pages (first + pages)) file_pages overlapped p m i refl) e

-- the number names the process, where there are numbers left
pub inserted_owner : (p new : PlainProcess) (k i : ℕ) → Inserts p new i → p.pid ≡ k → new.made ≤ 4096 → i / 4096 ≡ k
inserted_owner p new k i inserts is few =
    ap (λ n. n / 4096) (inserts.number ∙ ap (λ pid. pid * 4096 + p.made) is) ∙ quotient k p.made (omega (arith, few, inserts.made))
