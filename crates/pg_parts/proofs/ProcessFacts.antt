-- What a process and the trust list reply, and what stays true of them.
use Rattle.std.proofs.Common.{◌≡◌, ℕ, ◌+◌, ◌<◌, ◌≤◌, Bool, true, false, List, length, map, not, Option, Some, None, Result, Ok, Err, refl, sym, subst, arith}
use Rattle.std.specs.Prelude.{◌&&◌, nat_lt, find, if◌then◌else◌}
use Rattle.std.specs.Int.{bit_at}
use Rattle.std.specs.List.{AllByRecursion}
use Rattle.std.proofs.lemmas.Grind.{common_steps}
use Rattle.cs_trust.specs.Listed.{Table, listed}
use Rattle.cs_policy.specs.declared.refusal.Refusal.{Refusal}
use Rattle.cs_policy.specs.declared.access.Access.{Access}
use Rattle.cs_policy.specs.declared.access.Prot.{Prot}
use Rattle.cs_policy.specs.Access.{permits}
use Rattle.cs_policy.specs.ProcFlags.{is_set, kill, debugged}
use Rattle.cs_policy.specs.declared.process.ProcEvent.{ProcEvent}
use Rattle.cs_policy.specs.declared.process.ProcEvent.TheVariants as process
use Rattle.cs_policy.specs.declared.process.ProcReply.{ProcReply}
use Rattle.cs_policy.specs.declared.process.ProcReply.TheVariants as reply
use Rattle.cs_policy.specs.declared.trust.TrustEvent.{TrustEvent}
use Rattle.cs_policy.specs.declared.trust.TrustEvent.TheVariants as trust
use Rattle.cs_policy.specs.declared.trust.TrustReply.{TrustReply}
use Rattle.pg_process.specs.declared.mapping.Mapping.{Mapping}
use Rattle.pg_process.specs.declared.state.State.{State}
use Rattle.pg_process.specs.declared.state.State.TheVariants.{Fresh, Alive, Killed, Gone}
use Rattle.pg_process.specs.Regions.{met, has_address, begins_at, least, files_of, with_mapping}
use Rattle.pg_process.specs.ProcessStep.{PlainProcess, unless_alive, unless_standing, started, next_id, inserted, resolved, removed, answered, row, process_step}
use Rattle.pg_process.proofs.ExitFacts.{names_each_file}
use Rattle.pg_trusted.specs.TrustStep.{TrustList, cache_at, load, answer, modules, trust_step}
use Rattle.pg_history.specs.Opening.{Numbers}
use Rattle.pg_history.proofs.ListFacts.{all-filter, all-in_order}
use Rattle.pg_calls.specs.Room.{process_uses}
use Rattle.pg_calls.specs.Asking.{IsProperOf}
use Rattle.pg_calls.specs.Replies.{is_process_reply_to, is_trust_reply_to, ProcessAgrees}
use Rattle.pg_parts.proofs.ListFacts.{found-of, any-of}

-- ---- a process

module _ (numbers : Numbers) where
  -- the region is of a declared file
  abbrev pub IsOfFile : Mapping → Type 0
  IsOfFile m = m.file < length numbers.files

  -- The answer is a reply of the event, and says only what is so; the regions behind it are of declared files, and no more
  -- of them were made than were counted.
  record Good (p : PlainProcess) (e : ProcEvent) (a : ProcReply × PlainProcess) : Type 0 where
    replies : is_process_reply_to e a.0 ≡ true
    agrees : ProcessAgrees numbers e a.0
    files : AllByRecursion IsOfFile a.1.regions
    made : a.1.made ≤ p.made + (process_uses e).numbers

  module _ (p : PlainProcess) (all : AllByRecursion IsOfFile p.regions) where
    -- nothing changes
    quiet : (e : ProcEvent) (r : ProcReply) → is_process_reply_to e r ≡ true → ProcessAgrees numbers e r → Good p e (r, p)
    quiet e r is says = record { replies = is; agrees = says; files = all; made = omega arith }

    unless : (e : ProcEvent) (s : State) (a : ProcReply × PlainProcess) → Good p e (reply.Dead, p) → Good p e (reply.Killed, p) → Good p e a
        → Good p e (answered (unless_alive s) p a)
    unless e Fresh a dead killed by_row = dead
    unless e Alive a dead killed by_row = by_row
    unless e Killed a dead killed by_row = killed
    unless e Gone a dead killed by_row = dead

    exits : (s : State) (a : ProcReply × PlainProcess) → Good p process.Exit a → Good p process.Exit (answered (unless_standing s) p a)
    exits Fresh a by_row = quiet process.Exit reply.Dead refl tt
    exits Alive a by_row = by_row
    exits Killed a by_row = by_row
    exits Gone a by_row = quiet process.Exit reply.Dead refl tt

    starts : (s : State) → Good p process.Start (started s p)
    starts Fresh = record { replies = refl; agrees = tt; files = all; made = omega arith }
    starts Alive = quiet process.Start (reply.Started p.pid) refl tt
    starts Killed = quiet process.Start (reply.Started p.pid) refl tt
    starts Gone = quiet process.Start (reply.Started p.pid) refl tt

    module _ (at number file_pages first pages : ℕ) (prot : Prot) (shared : Bool) (declared : number < length numbers.files) where
      abbrev insert : ProcEvent
      insert = process.Insert at number file_pages first pages prot shared

      abbrev mapping : Mapping
      mapping = record { at = at; id = next_id p; file = number; first = first; pages = pages; prot = prot; shared = shared }

      by_room : (b : Bool) → first + pages ≤ file_pages
          → Good p insert (if b then (reply.Inserted mapping.id, record p { made = p.made + 1; regions = with_mapping mapping p.regions }) else (reply.Full 256, p))
      by_room true fits = record {
        replies = refl;
        agrees = fits;
        files = all-in_order IsOfFile (λ m other. nat_lt m.at other.at) mapping p.regions declared all;
        made = omega arith;
      }
      by_room false fits = quiet insert (reply.Full 256) refl tt

      by_least : (o : Option ℕ) → first + pages ≤ file_pages → Good p insert (inserted o p mapping)
      by_least (Some id) fits = quiet insert (reply.Overlap id) refl tt
      by_least None fits = by_room (nat_lt (length p.regions) 256) fits

      by_end : (b : Bool) → nat_lt file_pages (first + pages) ≡ b → (o : Option ℕ) → Good p insert (if b then (reply.OutOfFile file_pages, p) else inserted o p mapping)
      by_end true e o = quiet insert (reply.OutOfFile file_pages) refl tt
      by_end false e o = by_least o (grind (arith, common_steps, e))

    module _ (addr : ℕ) (access : Access) where
      by_permit : (m : Mapping) → IsOfFile m → (b : Bool) (page : ℕ)
          → Good p (process.Resolve addr access) (if b then reply.Region m.id m.file page p.flags else reply.Prot m.id, p)
      by_permit m is true page = quiet (process.Resolve addr access) (reply.Region m.id m.file page p.flags) refl is
      by_permit m is false page = quiet (process.Resolve addr access) (reply.Prot m.id) refl tt

      resolves : (o : Option Mapping) → find (λ m. has_address p.page addr m) p.regions ≡ o → Good p (process.Resolve addr access) (resolved o p.page addr access p.flags, p)
      resolves None e = quiet (process.Resolve addr access) reply.NoMap refl tt
      resolves (Some m) e = by_permit m (found-of IsOfFile (λ m. has_address p.page addr m) p.regions m e all) (permits m.prot access) _

    removes : (at : ℕ) (o : Option Mapping) → find (λ m. begins_at at m) p.regions ≡ o → Good p (process.Remove at) (removed o at p)
    removes at None e = quiet (process.Remove at) reply.NoMap refl tt
    removes at (Some m) e = record {
      replies = refl;
      agrees = found-of IsOfFile (λ m. begins_at at m) p.regions m e all;
      files = all-filter IsOfFile (λ m. not (begins_at at m)) p.regions all;
      made = omega arith;
    }

    punishes : (b : Bool) (q : PlainProcess) → q.regions ≡ p.regions → q.made ≡ p.made → Good p process.Punish (if b then (reply.Kill, q) else (reply.Spare, p))
    punishes true q same made = record { replies = refl; agrees = tt; files = subst (AllByRecursion IsOfFile) (sym same) all; made = omega (arith, made) }
    punishes false q same made = quiet process.Punish reply.Spare refl tt

    -- the files that Exited names, of a process that stands
    names_declared : (number : ℕ) → bit_at (files_of p.regions) number ≡ 1 → number < length numbers.files
    names_declared number bit =
        let found = any-of IsOfFile (λ m. m.file ≡ number) p.regions ((names_each_file (record p { state = Alive }) (files_of p.regions) refl number).0 bit) all in
        subst (λ n. n < length numbers.files) found.1 found.2

    step-good : (e : ProcEvent) → IsProperOf numbers e → Good p e (process_step p e)
    step-good process.Start proper = starts p.state
    step-good (process.Insert at number file_pages first pages prot shared) proper =
        let e = process.Insert at number file_pages first pages prot shared in
        unless e p.state (row p e) (quiet e reply.Dead refl tt) (quiet e reply.Killed refl tt)
        (by_end at number file_pages first pages prot shared proper.0 (nat_lt file_pages (first + pages)) refl (least (map (λ m. m.id) (met p.page at pages p.regions))))
    step-good (process.Resolve addr access) proper =
        let e = process.Resolve addr access in
        unless e p.state (row p e) (quiet e reply.Dead refl tt) (quiet e reply.Killed refl tt) (resolves addr access (find (λ m. has_address p.page addr m) p.regions) refl)
    step-good (process.Remove at) proper =
        let e = process.Remove at in
        unless e p.state (row p e) (quiet e reply.Dead refl tt) (quiet e reply.Killed refl tt) (removes at (find (λ m. begins_at at m) p.regions) refl)
    step-good process.Debug proper =
        unless process.Debug p.state (row p process.Debug) (quiet process.Debug reply.Dead refl tt) (quiet process.Debug reply.Killed refl tt)
        (record { replies = refl; agrees = tt; files = all; made = omega arith })
    step-good process.Punish proper =
        unless process.Punish p.state (row p process.Punish) (quiet process.Punish reply.Dead refl tt) (quiet process.Punish reply.Killed refl tt)
        (punishes (is_set p.flags kill && not (is_set p.flags debugged)) _ refl refl)
    step-good process.ClearValid proper =
        unless process.ClearValid p.state (row p process.ClearValid) (quiet process.ClearValid reply.Dead refl tt) (quiet process.ClearValid reply.Killed refl tt)
        (record { replies = refl; agrees = tt; files = all; made = omega arith })
    step-good process.Exit proper = exits p.state (row p process.Exit) (record {
      replies = refl;
      agrees = names_declared;
      files = tt;
      made = omega arith;
    })

  pub process-replies : (p : PlainProcess) (e : ProcEvent) → AllByRecursion IsOfFile p.regions → IsProperOf numbers e → is_process_reply_to e (process_step p e).0 ≡ true
  process-replies p e all proper = (step-good p all e proper).replies

  pub process-agrees : (p : PlainProcess) (e : ProcEvent) → AllByRecursion IsOfFile p.regions → IsProperOf numbers e → ProcessAgrees numbers e (process_step p e).0
  process-agrees p e all proper = (step-good p all e proper).agrees

  pub process-files : (p : PlainProcess) (e : ProcEvent) → AllByRecursion IsOfFile p.regions → IsProperOf numbers e → AllByRecursion IsOfFile (process_step p e).1.regions
  process-files p e all proper = (step-good p all e proper).files

  pub process-made : (p : PlainProcess) (e : ProcEvent) → AllByRecursion IsOfFile p.regions → IsProperOf numbers e → (process_step p e).1.made ≤ p.made + (process_uses e).numbers
  process-made p e all proper = (step-good p all e proper).made

-- ---- the trust list

record GoodTrust (list : TrustList) (e : TrustEvent) (a : TrustReply × TrustList) : Type 0 where
  replies : is_trust_reply_to e a.0 ≡ true
  caches : a.1.caches ≡ list.caches

loads_good : (list : TrustList) (cache : ℕ) (r : Result Table Refusal) → GoodTrust list (trust.LoadModule cache) (load list r)
loads_good list cache (Err refusal) = record { replies = refl; caches = refl }
loads_good list cache (Ok entries) = by_room (nat_lt (length list.loaded) 64) _ _ refl refl (record { replies = refl; caches = refl })
  where
    by_room : (b : Bool) (one other : TrustReply × TrustList) → is_trust_reply_to (trust.LoadModule cache) one.0 ≡ true → one.1.caches ≡ list.caches
        → GoodTrust list (trust.LoadModule cache) other → GoodTrust list (trust.LoadModule cache) (if b then one else other)
    by_room true one other is same full = record { replies = is; caches = same }
    by_room false one other is same full = full

looks_good : (list : TrustList) (cdhash : List ℕ) (o : Option (ℕ × ℕ)) → GoodTrust list (trust.Lookup cdhash) (answer o, list)
looks_good list cdhash None = record { replies = refl; caches = refl }
looks_good list cdhash (Some found) = record { replies = refl; caches = refl }

trust_good : (list : TrustList) (e : TrustEvent) → GoodTrust list e (trust_step list e)
trust_good list (trust.LoadModule cache) = loads_good list cache (cache_at list.caches cache)
trust_good list (trust.Lookup cdhash) = looks_good list cdhash (listed (modules list) cdhash)

pub trust-replies : (list : TrustList) (e : TrustEvent) → is_trust_reply_to e (trust_step list e).0 ≡ true
trust-replies list e = (trust_good list e).replies

pub trust-caches : (list : TrustList) (e : TrustEvent) → (trust_step list e).1.caches ≡ list.caches
trust-caches list e = (trust_good list e).caches
