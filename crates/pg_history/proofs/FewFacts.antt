-- A process makes no more regions than the scripts have calls.
use Rattle.std.proofs.Common.{◌≡◌, ◌⊎◌, ◌≤◌, ◌+◌, ◌-◌, ℕ, zero, suc, Bool, true, false, List, [], ◌∷◌, ◌++◌, length, map, filter, Option, Some, None, refl, sym, ap, subst, ◌∙◌, arith, inl, inr, not}
use Rattle.std.specs.Prelude.{◌==◌, ◌&&◌, slice_get, nat_lt, nat_le, find, take, if◌then◌else◌}
use Rattle.std.specs.Option.{option_map, option_and_then}
use Rattle.std.proofs.lemmas.Grind.{common_steps}
use Rattle.std.proofs.lemmas.Bool.Decides.{nat_tests}
use Rattle.pg_bytes.specs.declared.fields.Range.{Range}
use Rattle.pg_digest.specs.Kinds.{Hash}
use Rattle.cs_policy.specs.declared.call.Call.{Call}
use Rattle.cs_policy.specs.declared.call.Call.TheVariants as call
use Rattle.cs_policy.specs.declared.file.FileEvent.TheVariants as file
use Rattle.cs_policy.specs.declared.file.FileReply.{FileReply}
use Rattle.cs_policy.specs.declared.file.FileReply.TheVariants as file_reply
use Rattle.cs_policy.specs.declared.process.ProcEvent.{ProcEvent}
use Rattle.cs_policy.specs.declared.process.ProcEvent.TheVariants as process
use Rattle.cs_policy.specs.declared.process.ProcReply.{ProcReply}
use Rattle.cs_policy.specs.declared.process.ProcReply.TheVariants as process_reply
use Rattle.cs_policy.specs.ProcFlags.{kill, killed, debugged, is_set, with_flag}
use Rattle.pg_process.specs.declared.mapping.Mapping.{Mapping}
use Rattle.pg_process.specs.declared.state.State.{State}
use Rattle.pg_process.specs.declared.state.State.TheVariants.{Fresh, Alive, Killed, Gone}
use Rattle.pg_process.specs.Regions.{met, least, begins_at, with_mapping}
use Rattle.pg_process.specs.ProcessStep.{PlainProcess, next_id, row, started, inserted, removed, answered, before_rows, process_step}
use Rattle.cs_policy.specs.declared.trust.TrustReply.{TrustReply}
use Rattle.cs_policy.specs.declared.entry.Event.{Event}
use Rattle.cs_policy.specs.declared.entry.Event.TheVariants as event
use Rattle.cs_policy.specs.declared.entry.Place.TheVariants as place
use Rattle.cs_blob.specs.declared.refusal.BlobRefusal.{BlobRefusal}
use Rattle.cs_blob.specs.Rules.{broken}
use Rattle.cs_blob.specs.Signature.{Signature}
use Rattle.cs_blob.specs.Signed.{signature}
use Rattle.pg_history.specs.Machine.{Line, Machine, Answered, reply_to, after, replay}
use Rattle.pg_history.specs.Opening.{Opening, Numbers, IsOpening, numbers_of, range_of}
use Rattle.pg_history.specs.Calls.{Asked, admits, of_file, of_process, exited, judged, tried_by, attached_if, attached_by, found_by, bytes_of, files_in, next_event}
use Rattle.pg_history.specs.Legal.{Follows, Begins, Scripted, Legal, calls_in, entries_by, script_at}
use Rattle.pg_history.specs.Sealing.{FewThroughout}
use Rattle.pg_history.proofs.ListFacts.{at_place}
use Rattle.pg_history.proofs.SteppedFacts.{ProcessSteps, stepped}

-- ---- one call inserts one region at most

abbrev pub is_insert : Event → Bool
is_insert (event.Proc (process.Insert at number file_pages first pages prot shared)) = true
is_insert _ = false

mapped : {X : Type 0} (f : X → Asked) → ((x : X) → is_insert (f x).1 ≡ false) → (found : Option X) (asked : Asked) → option_map f found ≡ Some asked → is_insert asked.1 ≡ false
mapped f other None asked e = absurd (grind (arith, common_steps, e))
mapped f other (Some x) asked e = subst (λ (a : Asked). is_insert a.1 ≡ false) (inside e) (other x)
  where
    inside : Some (f x) ≡ Some asked → f x ≡ asked
    inside g = grind (arith, common_steps, g)

chained : {X : Type 0} (f : X → Option Asked) → ((x : X) (asked : Asked) → f x ≡ Some asked → is_insert asked.1 ≡ false) → (found : Option X) (asked : Asked) → option_and_then f found ≡ Some asked
    → is_insert asked.1 ≡ false
chained f other None asked e = absurd (grind (arith, common_steps, e))
chained f other (Some x) asked e = other x asked e

tried_not : (refused : Option BlobRefusal) (number stamp : ℕ) (blob : Signature) → is_insert (tried_by refused number stamp blob).1 ≡ false
tried_not (Some refusal) number stamp blob = refl
tried_not None number stamp blob = refl

attached_not : (admitted : Bool) (number slice read lookup : ℕ) (blob : Signature) (asked : Asked) → attached_if admitted number slice read lookup blob ≡ Some asked → is_insert asked.1 ≡ false
attached_not true number slice read lookup blob asked e = subst (λ (a : Asked). is_insert a.1 ≡ false) (inside e) refl
  where
    inside : Some (place.File number, event.File (file.AddBlob slice blob.cdhash read lookup)) ≡ Some asked → (place.File number, event.File (file.AddBlob slice blob.cdhash read lookup)) ≡ asked
    inside g = grind (arith, common_steps, g)
attached_not false number slice read lookup blob asked e = absurd (grind (arith, common_steps, e))

attached_by_not : (hash : Hash) (numbers : Numbers) (number slice read lookup : ℕ) (bytes : Option (List ℕ)) (range : Option Range) (answer : Option TrustReply) (asked : Asked)
    → attached_by hash numbers number slice read lookup bytes range answer ≡ Some asked → is_insert asked.1 ≡ false
attached_by_not hash numbers number slice read lookup (Some bytes) (Some range) (Some answer) asked e =
    attached_not (admits numbers.adhoc (signature hash bytes range (Some numbers.page_size)) answer) number slice read lookup (signature hash bytes range (Some numbers.page_size)) asked e
attached_by_not hash numbers number slice read lookup (Some bytes) (Some range) None asked e = absurd (grind (arith, common_steps, e))
attached_by_not hash numbers number slice read lookup (Some bytes) None answer asked e = absurd (grind (arith, common_steps, e))
attached_by_not hash numbers number slice read lookup None range answer asked e = absurd (grind (arith, common_steps, e))

-- what the process of a fault meets is to be punished, or to lose VALID
pub judged_is : (Q : ProcEvent → Type 0) → Q process.Punish → Q process.ClearValid → (r : FileReply) (e : ProcEvent) → judged r ≡ Some e → Q e
judged_is Q punish clear (file_reply.Denied denial) e is = subst Q (inside is) punish
  where
    inside : Some process.Punish ≡ Some e → process.Punish ≡ e
    inside g = grind (arith, common_steps, g)
judged_is Q punish clear (file_reply.Given left (Some violation)) e is = subst Q (inside is) clear
  where
    inside : Some process.ClearValid ≡ Some e → process.ClearValid ≡ e
    inside g = grind (arith, common_steps, g)
judged_is Q punish clear (file_reply.Given left None) e is = absurd (grind (arith, common_steps, is))
judged_is Q punish clear (file_reply.NoSlices refusal) e is = absurd (grind (arith, common_steps, is))
judged_is Q punish clear (file_reply.NoSlice count) e is = absurd (grind (arith, common_steps, is))
judged_is Q punish clear (file_reply.NoImage refusal) e is = absurd (grind (arith, common_steps, is))
judged_is Q punish clear (file_reply.PagerFault page) e is = absurd (grind (arith, common_steps, is))
judged_is Q punish clear (file_reply.Read bytes) e is = absurd (grind (arith, common_steps, is))
judged_is Q punish clear (file_reply.Already blob) e is = absurd (grind (arith, common_steps, is))
judged_is Q punish clear (file_reply.Overlap blob) e is = absurd (grind (arith, common_steps, is))
judged_is Q punish clear (file_reply.Attached blob) e is = absurd (grind (arith, common_steps, is))
judged_is Q punish clear file_reply.Noted e is = absurd (grind (arith, common_steps, is))
judged_is Q punish clear (file_reply.PastEnd length) e is = absurd (grind (arith, common_steps, is))
judged_is Q punish clear (file_reply.Short written) e is = absurd (grind (arith, common_steps, is))
judged_is Q punish clear (file_reply.Written count) e is = absurd (grind (arith, common_steps, is))
judged_is Q punish clear file_reply.Added e is = absurd (grind (arith, common_steps, is))
judged_is Q punish clear (file_reply.NoRegion id) e is = absurd (grind (arith, common_steps, is))
judged_is Q punish clear file_reply.Dropped e is = absurd (grind (arith, common_steps, is))
judged_is Q punish clear (file_reply.DroppedAll count) e is = absurd (grind (arith, common_steps, is))
judged_is Q punish clear file_reply.NotMapped e is = absurd (grind (arith, common_steps, is))
judged_is Q punish clear file_reply.Stored e is = absurd (grind (arith, common_steps, is))
judged_is Q punish clear (file_reply.Got bytes) e is = absurd (grind (arith, common_steps, is))
judged_is Q punish clear file_reply.NotResident e is = absurd (grind (arith, common_steps, is))
judged_is Q punish clear file_reply.Evicted e is = absurd (grind (arith, common_steps, is))

judged_not : (r : FileReply) (e : ProcEvent) → judged r ≡ Some e → is_insert (event.Proc e) ≡ false
judged_not r e is = judged_is (λ v. is_insert (event.Proc v) ≡ false) refl refl r e is

enter_not : (pid : ℕ) (answer : Option FileReply) (asked : Asked) → option_map (λ e. (place.Process pid, event.Proc e)) (option_and_then judged answer) ≡ Some asked → is_insert asked.1 ≡ false
enter_not pid None asked e = absurd (grind (arith, common_steps, e))
enter_not pid (Some r) asked e = by_judged (judged r) refl e
  where
    by_judged : (o : Option ProcEvent) → judged r ≡ o → option_map (λ v. (place.Process pid, event.Proc v)) o ≡ Some asked → is_insert asked.1 ≡ false
    by_judged None f g = absurd (grind (arith, common_steps, g))
    by_judged (Some v) f g = subst (λ (a : Asked). is_insert a.1 ≡ false) (inside g) (judged_not r v f)
      where
        inside : Some (place.Process pid, event.Proc v) ≡ Some asked → (place.Process pid, event.Proc v) ≡ asked
        inside h = grind (arith, common_steps, h)

-- no event behind the first of a call is one
later_not : (hash : Hash) (numbers : Numbers) (c : Call) (x : Line) (xs : List Line) (asked : Asked) → next_event hash numbers c (x ∷ xs) ≡ Some asked → is_insert asked.1 ≡ false
later_not hash numbers (call.Spawn pid) x xs asked e = absurd (grind (arith, common_steps, e))
later_not hash numbers (call.Map pid addr number first pages prot shared) x [] asked e = mapped _ (λ id. refl) _ asked e
later_not hash numbers (call.Map pid addr number first pages prot shared) x (y ∷ ys) asked e = absurd (grind (arith, common_steps, e))
later_not hash numbers (call.Unmap pid addr) x [] asked e = mapped _ (λ gone. refl) _ asked e
later_not hash numbers (call.Unmap pid addr) x (y ∷ ys) asked e = absurd (grind (arith, common_steps, e))
later_not hash numbers (call.Attach number slice) x [] asked e =
    chained _ (λ bytes a f. mapped _ (λ range. tried_not (broken hash bytes range (Some numbers.page_size)) number x.stamp (signature hash bytes range (Some numbers.page_size))) (range_of numbers number slice) a f) (bytes_of x) asked e
later_not hash numbers (call.Attach number slice) x (y ∷ []) asked e = attached_by_not hash numbers number slice x.stamp y.stamp _ _ _ asked e
later_not hash numbers (call.Attach number slice) x (y ∷ z ∷ zs) asked e = absurd (grind (arith, common_steps, e))
later_not hash numbers (call.LoadTrust cache) x xs asked e = absurd (grind (arith, common_steps, e))
later_not hash numbers (call.Fault pid addr access) x [] asked e = mapped _ (λ f. refl) (found_by x) asked e
later_not hash numbers (call.Fault pid addr access) x (y ∷ []) asked e = enter_not pid (of_file y.entry.reply) asked e
later_not hash numbers (call.Fault pid addr access) x (y ∷ z ∷ zs) asked e = absurd (grind (arith, common_steps, e))
later_not hash numbers (call.Store pid addr bytes) x [] asked e = mapped _ (λ f. refl) (found_by x) asked e
later_not hash numbers (call.Store pid addr bytes) x (y ∷ ys) asked e = absurd (grind (arith, common_steps, e))
later_not hash numbers (call.Load pid addr count) x [] asked e = mapped _ (λ f. refl) (found_by x) asked e
later_not hash numbers (call.Load pid addr count) x (y ∷ ys) asked e = absurd (grind (arith, common_steps, e))
later_not hash numbers (call.Fetch pid addr count) x [] asked e = mapped _ (λ f. refl) (found_by x) asked e
later_not hash numbers (call.Fetch pid addr count) x (y ∷ ys) asked e = absurd (grind (arith, common_steps, e))
later_not hash numbers (call.Write number at piece) x xs asked e = absurd (grind (arith, common_steps, e))
later_not hash numbers (call.Evict number page) x xs asked e = absurd (grind (arith, common_steps, e))
later_not hash numbers (call.Debug pid) x xs asked e = absurd (grind (arith, common_steps, e))
later_not hash numbers (call.Exit pid) x xs asked e =
    chained (λ files. option_map (λ number. (place.File number, event.File (file.DropPid pid))) (slice_get (files_in files) (length xs)))
    (λ files a f. mapped (λ number. (place.File number, event.File (file.DropPid pid))) (λ number. refl) (slice_get (files_in files) (length xs)) a f)
    (option_and_then exited (of_process x.entry.reply)) asked e

-- ---- how many entries are Inserts

abbrev inserts : List Line → ℕ
inserts [] = 0
inserts (e ∷ es) = (if is_insert e.entry.event then 1 else 0) + inserts es

inserts-append : (xs ys : List Line) → inserts (xs ++ ys) ≡ inserts xs + inserts ys
inserts-append [] ys = omega arith
inserts-append (x ∷ xs) ys = grind (arith, common_steps, inserts-append xs ys)

-- of the entries that follow some of a call
none_later : (hash : Hash) (numbers : Numbers) (c : Call) (x : Line) (xs es : List Line) → Follows hash numbers c (x ∷ xs) es → inserts es ≡ 0
none_later hash numbers c x xs [] follows = refl
none_later hash numbers c x xs (e ∷ es) follows = grind (arith, common_steps, later_not hash numbers c x xs (e.entry.place, e.entry.event) follows.0, none_later hash numbers c x (xs ++ e ∷ []) es follows.1)

one_of_call : (hash : Hash) (numbers : Numbers) (c : Call) (es : List Line) → Follows hash numbers c [] es → inserts es ≤ 1
one_of_call hash numbers c [] follows = omega arith
one_of_call hash numbers c (e ∷ es) follows = by_first (is_insert e.entry.event) refl (none_later hash numbers c e [] es follows.1)
  where
    by_first : (b : Bool) → is_insert e.entry.event ≡ b → inserts es ≡ 0 → inserts (e ∷ es) ≤ 1
    by_first true f rest = grind (arith, common_steps, f, rest)
    by_first false f rest = grind (arith, common_steps, f, rest)

-- of a script
pub few_of_script : (hash : Hash) (numbers : Numbers) (worker number : ℕ) (calls : List Call) (es : List Line) → Scripted hash numbers worker number calls es → inserts es ≤ length calls
few_of_script hash numbers worker number [] es is = subst (λ xs. inserts xs ≤ 0) (sym is) (omega arith)
few_of_script hash numbers worker number (c ∷ calls) es is =
    let own : List Line = is.0 in
    let others : List Line = is.1 in
    let begins : Begins hash numbers worker number c es own others = is.2 in
    let rest : inserts others ≤ length calls = few_of_script hash numbers worker (number + 1) calls others is.3 in
    one_longer calls (inserts es) (subst (λ xs. inserts xs ≤ length calls + 1) (sym begins.whole)
    (subst (λ n. n ≤ length calls + 1) (sym (inserts-append own others)) (omega (arith, one_of_call hash numbers c own begins.follows, rest))))
  where
    one_longer : (cs : List Call) (n : ℕ) → n ≤ length cs + 1 → n ≤ length (c ∷ cs)
    one_longer cs n le = grind (arith, common_steps, le)

-- ---- over all workers

-- the entries of the workers from a number on
abbrev pub by_from : ℕ → List Line → List Line
by_from worker history = filter (λ e. nat_le worker e.entry.who.worker) history

one_more_worker : (worker : ℕ) (history : List Line) → inserts (by_from worker history) ≡ inserts (entries_by worker history) + inserts (by_from (worker + 1) history)
one_more_worker worker [] = refl
one_more_worker worker (e ∷ es) = by_order (e.entry.who.worker == worker) (nat_le worker e.entry.who.worker) (nat_le (worker + 1) e.entry.who.worker) refl refl refl (one_more_worker worker es)
  where
    by_order : (a b c : Bool) → (e.entry.who.worker == worker) ≡ a → nat_le worker e.entry.who.worker ≡ b → nat_le (worker + 1) e.entry.who.worker ≡ c
        → inserts (by_from worker es) ≡ inserts (entries_by worker es) + inserts (by_from (worker + 1) es)
        → inserts (by_from worker (e ∷ es)) ≡ inserts (entries_by worker (e ∷ es)) + inserts (by_from (worker + 1) (e ∷ es))
    by_order true true false f g h rest = grind (arith, common_steps, f, g, h, rest)
    by_order true true true f g h rest = absurd (grind (arith, common_steps, nat_tests, f, g, h))
    by_order true false c f g h rest = absurd (grind (arith, common_steps, nat_tests, f, g, h))
    by_order false true true f g h rest = grind (arith, common_steps, f, g, h, rest)
    by_order false true false f g h rest = absurd (grind (arith, common_steps, nat_tests, f, g, h))
    by_order false false true f g h rest = absurd (grind (arith, common_steps, nat_tests, f, g, h))
    by_order false false false f g h rest = grind (arith, common_steps, f, g, h, rest)

pub all_from_zero : (history : List Line) → by_from 0 history ≡ history
all_from_zero [] = refl
all_from_zero (e ∷ es) = grind (arith, common_steps, all_from_zero es)

-- where no worker from a number on has an entry
pub none_from : (worker : ℕ) (history : List Line) → ((w : ℕ) → worker ≤ w → entries_by w history ≡ []) → by_from worker history ≡ []
none_from worker [] none = refl
none_from worker (e ∷ es) none = by_order (nat_le worker e.entry.who.worker) refl (none_from worker es)
  where
    by_order : (b : Bool) → nat_le worker e.entry.who.worker ≡ b → (((w : ℕ) → worker ≤ w → entries_by w es ≡ []) → by_from worker es ≡ []) → by_from worker (e ∷ es) ≡ []
    by_order true f rest = absurd (grind (arith, common_steps, nat_tests, f, none e.entry.who.worker (grind (arith, common_steps, nat_tests, f))))
    by_order false f rest = grind (arith, common_steps, f, rest (λ w le. drop_first w (none w le)))
      where
        drop_first : (w : ℕ) → entries_by w (e ∷ es) ≡ [] → entries_by w es ≡ []
        drop_first w g = by_test (e.entry.who.worker == w) refl
          where
            by_test : (c : Bool) → (e.entry.who.worker == w) ≡ c → entries_by w es ≡ []
            by_test true h = absurd (grind (arith, common_steps, g, h))
            by_test false h = grind (arith, common_steps, g, h)

module _ (hash : Hash) (numbers : Numbers) (all : List (List Call)) (history : List Line)
    (scripted : (worker : ℕ) → Scripted hash numbers worker 0 (script_at all worker) (entries_by worker history)) where
  few_of_worker : (worker : ℕ) → inserts (entries_by worker history) ≤ length (script_at all worker)
  few_of_worker worker = few_of_script hash numbers worker 0 (script_at all worker) (entries_by worker history) (scripted worker)

  no_script : (worker : ℕ) → script_at all worker ≡ [] → entries_by worker history ≡ []
  no_script worker none = subst (λ calls. Scripted hash numbers worker 0 calls (entries_by worker history)) none (scripted worker)

  few_from : (worker : ℕ) (scripts : List (List Call)) → ((k : ℕ) → script_at all (worker + k) ≡ script_at scripts k) → inserts (by_from worker history) ≤ calls_in scripts
  few_from worker [] at =
      subst (λ es. inserts es ≤ 0)
      (sym (none_from worker history (λ w le. no_script w (ap (script_at all) (behind worker w le) ∙ at (w - worker) ∙ grind (arith, common_steps)))))
      (omega arith)
    where
      behind : (a b : ℕ) → a ≤ b → b ≡ a + (b - a)
      behind a b le = omega (arith, le)
  few_from worker (script ∷ scripts) at =
      let here : length (script_at all worker) ≡ length script = ap (λ w. length (script_at all w)) (zero_more worker) ∙ ap (λ (calls : List Call). length calls) (at 0) in
      let rest : inserts (by_from (worker + 1) history) ≤ calls_in scripts =
      few_from (worker + 1) scripts (λ k. ap (script_at all) (one_more worker k) ∙ at (k + 1) ∙ later script scripts k) in
      subst (λ n. n ≤ length script + calls_in scripts) (sym (one_more_worker worker history)) (omega (arith, few_of_worker worker, here, rest))
    where
      zero_more : (n : ℕ) → n ≡ n + 0
      zero_more n = omega arith

      one_more : (n k : ℕ) → n + 1 + k ≡ n + (k + 1)
      one_more n k = omega arith

      later : (s : List Call) (ss : List (List Call)) (k : ℕ) → script_at (s ∷ ss) (k + 1) ≡ script_at ss k
      later s ss k = grind (arith, common_steps)

  pub few_inserts : inserts history ≤ calls_in all
  few_inserts = subst (λ es. inserts es ≤ calls_in all) (all_from_zero history) (few_from 0 all (λ k. ap (script_at all) (none_more k)))
    where
      none_more : (k : ℕ) → 0 + k ≡ k
      none_more k = omega arith

-- ---- how many regions a process has made

abbrev step_count : ProcEvent → ℕ
step_count e = if is_insert (event.Proc e) then 1 else 0

row_made : (p : PlainProcess) (e : ProcEvent) → (row p e).1.made ≤ p.made + step_count e
row_made p process.Start = by_state p.state
  where
    by_state : (s : State) → (started s p).1.made ≤ p.made + 0
    by_state Fresh = omega arith
    by_state Alive = omega arith
    by_state Killed = omega arith
    by_state Gone = omega arith
row_made p (process.Insert at number file_pages first pages prot shared) =
    by_past (nat_lt file_pages (first + pages)) (least (map (λ (o : Mapping). o.id) (met p.page at pages p.regions)))
  where
    new : Mapping
    new = record { at = at; id = next_id p; file = number; first = first; pages = pages; prot = prot; shared = shared }

    by_room : (room : Bool) → (if◌then◌else◌ {A = ProcReply × PlainProcess} room (process_reply.Inserted new.id, record p { made = p.made + 1; regions = with_mapping new p.regions }) (process_reply.Full 256, p)).1.made ≤ p.made + 1
    by_room true = omega arith
    by_room false = omega arith

    by_met : (found : Option ℕ) → (inserted found p new).1.made ≤ p.made + 1
    by_met (Some id) = omega arith
    by_met None = by_room (nat_lt (length p.regions) 256)

    by_past : (past : Bool) (found : Option ℕ) → (if◌then◌else◌ {A = ProcReply × PlainProcess} past (process_reply.OutOfFile file_pages, p) (inserted found p new)).1.made ≤ p.made + 1
    by_past true found = omega arith
    by_past false found = by_met found
row_made p (process.Resolve addr access) = omega arith
row_made p (process.Remove at) = by_found (find (λ m. begins_at at m) p.regions)
  where
    by_found : (found : Option Mapping) → (removed found at p).1.made ≤ p.made + 0
    by_found None = omega arith
    by_found (Some m) = omega arith
row_made p process.Debug = omega arith
row_made p process.Punish = by_kill (is_set p.flags kill && not (is_set p.flags debugged))
  where
    by_kill : (b : Bool) → (if◌then◌else◌ {A = ProcReply × PlainProcess} b (process_reply.Kill, record p { state = Killed; flags = with_flag p.flags killed }) (process_reply.Spare, p)).1.made ≤ p.made + 0
    by_kill true = omega arith
    by_kill false = omega arith
row_made p process.ClearValid = omega arith
row_made p process.Exit = omega arith

step_made : (p : PlainProcess) (e : ProcEvent) → (process_step p e).1.made ≤ p.made + step_count e
step_made p e = by_early (before_rows p.state e)
  where
    by_early : (early : Option ProcReply) → (answered early p (row p e)).1.made ≤ p.made + step_count e
    by_early (Some early) = omega arith
    by_early None = row_made p e

-- a process of the machine after a line, and what it was before
record WasMade (m : Machine) (number : ℕ) (made more : ℕ) : Type 0 where
  process : PlainProcess
  there : slice_get m.processes number ≡ Some process
  few : made ≤ process.made + more

module _ (hash : Hash) where
  after_made : (m : Machine) (e : Line) → reply_to hash m e ≡ Some e.entry.reply → (number : ℕ) (q : PlainProcess) → slice_get (after hash m e).processes number ≡ Some q
      → WasMade m number q.made (if is_insert e.entry.event then 1 else 0)
  after_made m e answers number q there = elim (stepped hash m e answers) [
    | inl s ↦ record { process = q; there = sym (ap (λ (n : Machine). slice_get n.processes number) s.then) ∙ there; few = omega arith }
    | inr (inl s) ↦ by_place s (at_place m.processes s.number number (process_step s.process s.happened).1 s.process q s.there
        (sym (ap (λ (n : Machine). slice_get n.processes number) s.then) ∙ there))
    | inr (inr s) ↦ record { process = q; there = sym (ap (λ (n : Machine). slice_get n.processes number) s.then) ∙ there; few = omega arith }
  ]
    where
      by_place : (s : ProcessSteps hash m e) → ((number ≡ s.number) × (q ≡ (process_step s.process s.happened).1)) ⊎ (((number == s.number) ≡ false) × (slice_get m.processes number ≡ Some q))
          → WasMade m number q.made (if is_insert e.entry.event then 1 else 0)
      by_place s (inl here) = record {
        process = s.process;
        there = ap (λ k. slice_get m.processes k) here.0 ∙ s.there;
        few = subst (λ v. q.made ≤ s.process.made + (if is_insert v then 1 else 0)) (sym s.is)
            (subst (λ (p : PlainProcess). p.made ≤ s.process.made + step_count s.happened) (sym here.1) (step_made s.process s.happened));
      }
      by_place s (inr other) = record { process = q; there = other.1; few = omega arith }

  replay_made : (es : List Line) (m : Machine) → Answered hash m es → (number : ℕ) (q : PlainProcess) → slice_get (replay hash m es).processes number ≡ Some q → WasMade m number q.made (inserts es)
  replay_made [] m answers number q there = record { process = q; there = there; few = omega arith }
  replay_made (e ∷ es) m answers number q there =
      let last = replay_made es (after hash m e) answers.1 number q there in
      let was = after_made m e answers.0 number last.process last.there in
      record { process = was.process; there = was.there; few = omega (arith, last.few, was.few) }

  -- what is answered is answered as far as it goes
  answered_part : (m : Machine) (es : List Line) (k : ℕ) → Answered hash m es → Answered hash m (take k es)
  answered_part m [] zero answers = tt
  answered_part m [] (suc k) answers = tt
  answered_part m (e ∷ es) zero answers = tt
  answered_part m (e ∷ es) (suc k) answers = (answers.0, answered_part (after hash m e) es k answers.1)

inserts_part : (es : List Line) (k : ℕ) → inserts (take k es) ≤ inserts es
inserts_part [] zero = omega arith
inserts_part [] (suc k) = omega arith
inserts_part (e ∷ es) zero = omega arith
inserts_part (e ∷ es) (suc k) = omega (arith, inserts_part es k)

pub few_by_scripts : (hash : Hash) (o : Opening) (scripts : List (List Call)) (history : List Line) → IsOpening o → Legal hash o scripts history → calls_in scripts ≤ 4096 → FewThroughout hash o history
few_by_scripts hash o scripts history opens legal few k le number q there =
    let was = replay_made hash (take k history) o.machine (answered_part hash o.machine history k legal.linked.replies) number q there in
    let none : was.process.made ≡ 0 = ap (λ (p : PlainProcess). p.made) (opens.processes number was.process was.there) in
    omega (arith, was.few, none, inserts_part history k, few_inserts hash (numbers_of o) scripts history legal.calls, few)
