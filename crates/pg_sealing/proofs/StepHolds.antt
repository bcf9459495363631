-- What is known of the machine is known after one more event.
use Rattle.std.proofs.Common.{◌≡◌, ◌≤◌, ◌/◌, ℕ, Bool, true, false, List, ◌∷◌, ◌++◌, length, Some, refl, sym, ap, subst, ◌∙◌, arith, inl, inr}
use Rattle.std.specs.Prelude.{◌==◌, slice_get, slice_set}
use Rattle.std.proofs.lemmas.Grind.{common_steps}
use Rattle.pg_bytes.specs.PageSize.{IsPageSize}
use Rattle.pg_digest.specs.Kinds.{Hash}
use Rattle.cs_policy.specs.declared.access.Access.{Access}
use Rattle.cs_policy.specs.declared.access.Prot.{Prot}
use Rattle.cs_policy.specs.declared.flags.ProcFlags.{ProcFlags}
use Rattle.cs_policy.specs.declared.process.ProcEvent.{ProcEvent}
use Rattle.cs_policy.specs.declared.process.ProcEvent.TheVariants as process
use Rattle.cs_policy.specs.declared.process.ProcReply.{ProcReply}
use Rattle.cs_policy.specs.declared.process.ProcReply.TheVariants as process_reply
use Rattle.cs_policy.specs.declared.entry.Event.TheVariants as event
use Rattle.cs_policy.specs.declared.entry.Reply.TheVariants as reply
use Rattle.cs_policy.specs.declared.entry.Place.TheVariants as place
use Rattle.cs_policy.specs.ProcFlags.{guarded}
use Rattle.pg_process.specs.ProcessStep.{PlainProcess, process_step}
use Rattle.pg_process.proofs.GuardFacts.{IsUnguarded, step_unguarded}
use Rattle.pg_trusted.specs.TrustStep.{TrustList, trust_step}
use Rattle.pg_history.specs.Machine.{Line, FilePart, Machine, part_step, reply_to, after}
use Rattle.pg_history.specs.Opening.{Opening, numbers_of}
use Rattle.pg_history.specs.Content.{Told, told_at}
use Rattle.pg_history.specs.Links.{IsLinked, IsLinkedAt}
use Rattle.pg_history.proofs.ListFacts.{get-set_same, get-last, at_place}
use Rattle.pg_sealing.proofs.ProcessFacts.{HasNumber, step_numbers, Resolves, resolve_reply, insert_reply, inserted_owner}
use Rattle.pg_history.proofs.SteppedFacts.{FileSteps, ProcessSteps, TrustSteps, stepped}
use Rattle.pg_sealing.proofs.Holds.{FileHolds, WasResolved, Holds, FewRegions}
use Rattle.pg_sealing.proofs.ExtendFacts.{with_line, StayUnguarded, file_extends}
use Rattle.pg_sealing.proofs.FileStepFacts.{stepped_holds}

same_number : (i j : ℕ) → (i == j) ≡ true → i ≡ j
same_number i j e = grind (arith, common_steps, e)

some_inside : {X : Type 0} (x y : X) → Some x ≡ Some y → x ≡ y
some_inside x y e = grind (arith, common_steps, e)

file_number : (i j : ℕ) → place.File i ≡ place.File j → i ≡ j
file_number i j e = grind (arith, common_steps, e)

process_number : (i j : ℕ) → place.Process i ≡ place.Process j → i ≡ j
process_number i j e = grind (arith, common_steps, e)

event_inside : (a b : ProcEvent) → event.Proc a ≡ event.Proc b → a ≡ b
event_inside a b e = grind (arith, common_steps, e)

reply_inside : (a b : ProcReply) → reply.Proc a ≡ reply.Proc b → a ≡ b
reply_inside a b e = grind (arith, common_steps, e)

apart_numbers : (i j : ℕ) → (i == j) ≡ false → i ≡ j → ⊥
apart_numbers i j e f = absurd (grind (arith, common_steps, e, f))

module _ (hash : Hash) (o : Opening) (known : IsPageSize o.page_size) (history later : List Line) (m : Machine) (e : Line) (holds : Holds hash o history m) (stamp : e.stamp ≡ length history)
    (link : IsLinked hash (numbers_of o) (history ++ e ∷ later) e) where
  -- ---- at a file
  module _ (s : FileSteps hash m e) where
    abbrev new : FilePart
    new = (part_step hash e.stamp s.part s.happened).1

    abbrev changed : Machine
    changed = record m { files = slice_set m.files s.number new }

    linked_here : IsLinkedAt hash (numbers_of o) (history ++ e ∷ later) e (place.File s.number) (event.File s.happened)
    linked_here = subst (λ p. IsLinkedAt hash (numbers_of o) (history ++ e ∷ later) e p (event.File s.happened)) s.here
        (subst (λ v. IsLinkedAt hash (numbers_of o) (history ++ e ∷ later) e e.entry.place v) s.is link)

    other_told : (number : ℕ) → (number == s.number) ≡ false → (told : Told) → told_at o.page_size number e.entry.place e.entry.event e.entry.reply told ≡ told
    other_told number apart told = rw (s.here, s.is, s.answer, other) refl
      where
        other : (s.number == number) ≡ false
        other = grind (arith, common_steps, apart)

    no_process : (pid : ℕ) → e.entry.place ≡ place.Process pid → ⊥
    no_process pid at = absurd (grind (arith, common_steps, at, s.here))

    files_then : (number : ℕ) (part : FilePart) → slice_get changed.files number ≡ Some part → FileHolds hash o (with_line history e) changed number part
    files_then number part there = elim (at_place m.files s.number number new s.part part s.there there) [
      | inl here ↦ subst (λ k. FileHolds hash o (with_line history e) changed k part) (sym here.0) (subst (λ p. FileHolds hash o (with_line history e) changed s.number p) (sym here.1)
          (stepped_holds hash o known history later m e holds stamp s.number s.happened s.part s.here s.is s.there s.answer linked_here))
      | inr other ↦ file_extends hash o history m changed e number part (holds.files number part other.1)
          (λ at. apart_numbers number s.number other.0 (file_number number s.number (sym at ∙ s.here)))
          (other_told number other.0) (λ k p there old. old p there)
    ]

    file_step_holds : Holds hash o (with_line history e) changed
    file_step_holds = record {
      files = files_then;
      processes = holds.processes;
      resolved = λ k x pid addr access id number page flags there at event_is reply_is. elim (get-last history e x k there) [
        | inl earlier ↦ record {
          owner = (holds.resolved k x pid addr access id number page flags earlier at event_is reply_is).owner;
          unguarded = (holds.resolved k x pid addr access id number page flags earlier at event_is reply_is).unguarded;
        }
        | inr last ↦ absurd (no_process pid (subst (λ (y : Line). y.entry.place ≡ place.Process pid) (sym last.1) at))
      ];
      inserted = λ k x pid at number file_pages first pages prot shared id there where_at event_is reply_is. elim (get-last history e x k there) [
        | inl earlier ↦ holds.inserted k x pid at number file_pages first pages prot shared id earlier where_at event_is reply_is
        | inr last ↦ absurd (no_process pid (subst (λ (y : Line). y.entry.place ≡ place.Process pid) (sym last.1) where_at))
      ];
    }

  -- ---- at a process
  module _ (s : ProcessSteps hash m e) (few : FewRegions m) (few_then : (q : PlainProcess) → q ≡ (process_step s.process s.happened).1 → q.made ≤ 4096) where
    abbrev next : PlainProcess
    next = (process_step s.process s.happened).1

    abbrev moved : Machine
    moved = record m { processes = slice_set m.processes s.number next }

    numbered : HasNumber s.number s.process
    numbered = holds.processes s.number s.process s.there

    no_file : (number : ℕ) → e.entry.place ≡ place.File number → ⊥
    no_file number at = absurd (grind (arith, common_steps, at, s.here))

    untouched : (number : ℕ) (told : Told) → told_at o.page_size number e.entry.place e.entry.event e.entry.reply told ≡ told
    untouched number told = rw s.here refl

    -- a process that was not guarded is not guarded then
    stay : StayUnguarded m moved
    stay k p there old = elim (at_place m.processes s.number k next s.process p s.there there) [
      | inl here ↦ subst IsUnguarded (sym here.1) (step_unguarded s.process s.happened (old s.process (subst (λ j. slice_get m.processes j ≡ Some s.process) (sym here.0) s.there)))
      | inr other ↦ old p other.1
    ]

    processes_then : (number : ℕ) (p : PlainProcess) → slice_get moved.processes number ≡ Some p → HasNumber number p
    processes_then number p there = elim (at_place m.processes s.number number next s.process p s.there there) [
      | inl here ↦ subst (λ k. HasNumber k p) (sym here.0) (subst (HasNumber s.number) (sym here.1) (step_numbers s.number s.process s.happened numbered))
      | inr other ↦ holds.processes number p other.1
    ]

    -- what a Resolve found before is so still
    resolved_later : (pid id : ℕ) (flags : ProcFlags) → WasResolved m pid id flags → WasResolved moved pid id flags
    resolved_later pid id flags was = record { owner = was.owner; unguarded = λ free p there. stay pid p there (λ q old. was.unguarded free q old) }

    -- and what this one finds
    resolved_now : (x : Line) (pid addr : ℕ) (access : Access) (id number page : ℕ) (flags : ProcFlags) → e ≡ x → x.entry.place ≡ place.Process pid
        → x.entry.event ≡ event.Proc (process.Resolve addr access) → x.entry.reply ≡ reply.Proc (process_reply.Region id number page flags) → WasResolved moved pid id flags
    resolved_now x pid addr access id number page flags same at event_is reply_is =
        let pid_is : s.number ≡ pid = process_number s.number pid (sym s.here ∙ ap (λ (l : Line). l.entry.place) same ∙ at) in
        let happened_is : s.happened ≡ process.Resolve addr access = event_inside s.happened (process.Resolve addr access) (sym s.is ∙ ap (λ (l : Line). l.entry.event) same ∙ event_is) in
        let gave : (process_step s.process s.happened).0 ≡ process_reply.Region id number page flags =
        reply_inside (process_step s.process s.happened).0 (process_reply.Region id number page flags) (sym s.answer ∙ ap (λ (l : Line). l.entry.reply) same ∙ reply_is) in
        let found : Resolves s.process id flags =
        resolve_reply s.process addr access id number page flags (subst (λ v. (process_step s.process v).0 ≡ process_reply.Region id number page flags) happened_is gave) in
        record {
          owner = found.region s.number (numbered.regions (few s.number s.process s.there)) ∙ pid_is;
          unguarded = λ free p there.
              stay pid p there (λ q old.
              subst IsUnguarded (some_inside s.process q (sym s.there ∙ ap (λ k. slice_get m.processes k) pid_is ∙ old))
              (record { begun = found.begun; unguarded = ap guarded (sym found.same) ∙ free }));
        }

    inserted_now : (x : Line) (pid at number file_pages first pages : ℕ) (prot : Prot) (shared : Bool) (id : ℕ) → e ≡ x → x.entry.place ≡ place.Process pid
        → x.entry.event ≡ event.Proc (process.Insert at number file_pages first pages prot shared) → x.entry.reply ≡ reply.Proc (process_reply.Inserted id) → id / 4096 ≡ pid
    inserted_now x pid at number file_pages first pages prot shared id same where_at event_is reply_is =
        let pid_is : s.number ≡ pid = process_number s.number pid (sym s.here ∙ ap (λ (l : Line). l.entry.place) same ∙ where_at) in
        let happened_is : s.happened ≡ process.Insert at number file_pages first pages prot shared =
        event_inside s.happened (process.Insert at number file_pages first pages prot shared) (sym s.is ∙ ap (λ (l : Line). l.entry.event) same ∙ event_is) in
        let gave : (process_step s.process s.happened).0 ≡ process_reply.Inserted id =
        reply_inside (process_step s.process s.happened).0 (process_reply.Inserted id) (sym s.answer ∙ ap (λ (l : Line). l.entry.reply) same ∙ reply_is) in
        inserted_owner s.process (process_step s.process (process.Insert at number file_pages first pages prot shared)).1 s.number id
        (insert_reply s.process at number file_pages first pages prot shared id (subst (λ v. (process_step s.process v).0 ≡ process_reply.Inserted id) happened_is gave))
        numbered.pid
        (few_then (process_step s.process (process.Insert at number file_pages first pages prot shared)).1 (ap (λ v. (process_step s.process v).1) (sym happened_is)))
        ∙ pid_is

    process_step_holds : Holds hash o (with_line history e) moved
    process_step_holds = record {
      files = λ number part there. file_extends hash o history m moved e number part (holds.files number part there) (no_file number) (untouched number) stay;
      processes = processes_then;
      resolved = λ k x pid addr access id number page flags there at event_is reply_is. elim (get-last history e x k there) [
        | inl earlier ↦ resolved_later pid id flags (holds.resolved k x pid addr access id number page flags earlier at event_is reply_is)
        | inr last ↦ resolved_now x pid addr access id number page flags last.1 at event_is reply_is
      ];
      inserted = λ k x pid at number file_pages first pages prot shared id there where_at event_is reply_is. elim (get-last history e x k there) [
        | inl earlier ↦ holds.inserted k x pid at number file_pages first pages prot shared id earlier where_at event_is reply_is
        | inr last ↦ inserted_now x pid at number file_pages first pages prot shared id last.1 where_at event_is reply_is
      ];
    }

  -- ---- at the trust list
  module _ (s : TrustSteps hash m e) (list : TrustList) where
    trust_file : (number : ℕ) → e.entry.place ≡ place.File number → ⊥
    trust_file number at = absurd (grind (arith, common_steps, at, s.here))

    trust_process : (pid : ℕ) → e.entry.place ≡ place.Process pid → ⊥
    trust_process pid at = absurd (grind (arith, common_steps, at, s.here))

    trust_told : (number : ℕ) (told : Told) → told_at o.page_size number e.entry.place e.entry.event e.entry.reply told ≡ told
    trust_told number told = rw s.here refl

    trust_step_holds : Holds hash o (with_line history e) (record m { trust = list })
    trust_step_holds = record {
      files = λ number part there. file_extends hash o history m (record m { trust = list }) e number part (holds.files number part there) (trust_file number) (trust_told number) (λ k p stands old. old p stands);
      processes = holds.processes;
      resolved = λ k x pid addr access id number page flags there at event_is reply_is. elim (get-last history e x k there) [
        | inl earlier ↦ record {
          owner = (holds.resolved k x pid addr access id number page flags earlier at event_is reply_is).owner;
          unguarded = (holds.resolved k x pid addr access id number page flags earlier at event_is reply_is).unguarded;
        }
        | inr last ↦ absurd (trust_process pid (subst (λ (y : Line). y.entry.place ≡ place.Process pid) (sym last.1) at))
      ];
      inserted = λ k x pid at number file_pages first pages prot shared id there where_at event_is reply_is. elim (get-last history e x k there) [
        | inl earlier ↦ holds.inserted k x pid at number file_pages first pages prot shared id earlier where_at event_is reply_is
        | inr last ↦ absurd (trust_process pid (subst (λ (y : Line). y.entry.place ≡ place.Process pid) (sym last.1) where_at))
      ];
    }

  -- ---- any event
  pub step_holds : FewRegions m → FewRegions (after hash m e) → reply_to hash m e ≡ Some e.entry.reply → Holds hash o (with_line history e) (after hash m e)
  step_holds few few_then answered = elim (stepped hash m e answered) [
    | inl s ↦ subst (Holds hash o (with_line history e)) (sym s.then) (file_step_holds s)
    | inr (inl s) ↦ subst (Holds hash o (with_line history e)) (sym s.then) (process_step_holds s few
        (λ q same. few_then s.number q (ap (λ (n : Machine). slice_get n.processes s.number) s.then
        ∙ get-set_same m.processes s.number (process_step s.process s.happened).1 s.process s.there ∙ ap (λ p. Some p) (sym same))))
    | inr (inr s) ↦ subst (Holds hash o (with_line history e)) (sym s.then) (trust_step_holds s (trust_step m.trust s.happened).1)
  ]
