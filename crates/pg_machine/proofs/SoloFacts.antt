-- What is asked of a machine and what it answers, by what is seen of it.
use Rattle.std.proofs.Common.{◌≡◌, ℕ, ◌<◌, List, [], ◌∷◌, ◌++◌, length, map, Option, Some, None, refl, sym, ap, subst, ◌∙◌, arith}
use Rattle.std.specs.Prelude.{slice_get, slice_set, slice_index_or}
use Rattle.std.specs.Option.{option_map, option_map_or, option_and_then}
use Rattle.std.proofs.lemmas.Grind.{common_steps}
use Rattle.std.proofs.lemmas.Option.{slice_get_read, slice_get-map}
use Rattle.pg_digest.specs.Kinds.{Hash}
use Rattle.pg_book.specs.declared.receipt.Receipt.{Receipt}
use Rattle.pg_book.specs.Closing.{stamped}
use Rattle.pg_book.specs.Needs.{all_entries}
use Rattle.cs_policy.specs.declared.process.ProcEvent.{ProcEvent}
use Rattle.cs_policy.specs.declared.trust.TrustEvent.{TrustEvent}
use Rattle.cs_policy.specs.declared.entry.Event.{Event}
use Rattle.cs_policy.specs.declared.entry.Event.TheVariants as event
use Rattle.cs_policy.specs.declared.entry.Reply.{Reply}
use Rattle.cs_policy.specs.declared.entry.Reply.TheVariants as reply
use Rattle.cs_policy.specs.declared.entry.Place.{Place}
use Rattle.cs_policy.specs.declared.entry.Place.TheVariants as place
use Rattle.cs_policy.specs.declared.entry.Who.{Who}
use Rattle.cs_policy.specs.declared.entry.Entry.{Entry}
use Rattle.cs_policy.specs.Entry.{part_number}
use Rattle.pg_object.specs.Object.{ObjectNow}
use Rattle.pg_object.specs.Kept.{IsKept}
use Rattle.pg_process.specs.ProcessStep.{PlainProcess, process_step}
use Rattle.pg_trusted.specs.TrustStep.{trust_step}
use Rattle.pg_history.specs.Machine.{Line, signed_range}
use Rattle.pg_history.specs.Opening.{FileNumbers, pages_of, range_of, seat_in}
use Rattle.pg_calls.specs.declared.file_call.FileCall.{FileCall}
use Rattle.pg_calls.specs.Room.{file_uses, IsPlaceIn}
use Rattle.pg_calls.specs.Parts.{HasRoom, Asks}
use Rattle.pg_calls.specs.Asking.{event_of, IsProper, IsProperOf, IsProperTrust}
use Rattle.pg_parts.specs.declared.asking.FileAnswer.{FileAnswer}
use Rattle.pg_parts.specs.Opened.{OpenedNow, numbers_in, HasSpare}
use Rattle.pg_parts.specs.Asking.{MayAskFile, AsksFile, MayAskProcess, MayAskTrust}
use Rattle.pg_machine.specs.Solo.{SoloNow, shown, IsRunning}
use Rattle.pg_machine.proofs.OpeningFacts.{number_in}
use Rattle.pg_machine.proofs.AskFacts.{length-numbers, there-at, within-of, same-pages, same-range, Stands, has-room, may-ask-file, spare-for, file-stands, may-ask-process, process-stands, may-ask-trust, trust-stands}

module _ (hash : Hash) (start : OpenedNow) (history : List Line) (now : OpenedNow) (running : IsRunning hash start history now) where
  abbrev seen_so : SoloNow
  seen_so = record { start = start; made = history }

  -- the receipt of an entry that was made
  abbrev pub made_receipt : ℕ → Who → Place → Event → Reply → Receipt Entry
  made_receipt part who at e r = record { part = part; caller = who.worker; stamp = length history; entry = record { who = who; place = at; event = e; reply = r } }

  abbrev pub number_of : Place → ℕ
  number_of at = part_number (length (numbers_in start).files) (numbers_in start).processes at

  -- it is what was entered, where the entry is of this event and the numbers are those
  pub receipt-is : (who : Who) (at : Place) (e : Event) (r : Reply) (receipt : Receipt Entry) (part number n : ℕ) (entry : Entry)
      → ◌≡◌ {A = Receipt Entry} receipt (record { part = part; caller = entry.who.worker; stamp = n; entry = entry })
      → ◌≡◌ {A = Entry} entry (record { who = who; place = at; event = e; reply = r }) → n ≡ length history → part ≡ number → receipt ≡ made_receipt number who at e r
  receipt-is who at e r receipt part number n entry is entered stamp_is part_is =
      is
      ∙ ap (λ (x : Entry). with_parts part n x) entered
      ∙ ap (λ k. with_parts part k (record { who = who; place = at; event = e; reply = r })) stamp_is
      ∙ ap (λ k. with_parts k (length history) (record { who = who; place = at; event = e; reply = r })) part_is
    where
      with_parts : ℕ → ℕ → Entry → Receipt Entry
      with_parts p k x = record { part = p; caller = x.who.worker; stamp = k; entry = x }

  pub files-numbered : length now.files ≡ length (numbers_in start).files
  files-numbered = running.went.files_count ∙ sym (length-numbers start.files)

  pub processes-numbered : length now.processes ≡ (numbers_in start).processes
  processes-numbered = running.went.processes_count

  -- What was entered is what was asked, and the machine stands with it.
  stands_with : (who : Who) (at : Place) (e : Event) (r : Reply) (after : OpenedNow) (receipt : Receipt Entry) (entries : List Line) → Stands hash start history now running who at e r after
      → receipt ≡ made_receipt (number_of at) who at e r → entries ≡ history ++ stamped receipt ∷ [] → IsRunning hash start entries after
  stands_with who at e r after receipt entries stands is made =
      subst (λ (h : List Line). IsRunning hash start h after) (sym (made ∙ ap (λ (x : Receipt Entry). history ++ stamped x ∷ []) is)) stands.stands

  module _ (self : SoloNow) (view : seen_so ≡ self) where
    asks_with : (who : Who) (at : Place) (e : Event) (r : Reply) (after : OpenedNow) (receipt : Receipt Entry) (entries : List Line) → Stands hash start history now running who at e r after
        → receipt ≡ made_receipt (number_of at) who at e r → entries ≡ history ++ stamped receipt ∷ []
        → Asks (shown self) who at e receipt (shown (record { start = start; made = entries }))
    asks_with who at e r after receipt entries stands is made =
        subst (λ (s : SoloNow). Asks (shown s) who at e receipt (shown (record { start = start; made = entries }))) view
        (subst (λ (h : List Line). Asks (shown seen_so) who at e receipt (shown (record { start = start; made = h }))) (sym made)
        (subst (λ (x : Receipt Entry). Asks (shown seen_so) who at e x (shown (record { start = start; made = history ++ stamped x ∷ [] }))) (sym is) stands.asks))

    pub fits-entry : (who : Who) (at : Place) (e : Event) (r : Reply) → IsPlaceIn (shown self).numbers at → who.worker < length self.start.needs → HasRoom (shown self) who at e
        → length history < all_entries start.needs
    fits-entry who at e r = subst (λ (s : SoloNow). IsPlaceIn (shown s).numbers at → who.worker < length s.start.needs → HasRoom (shown s) who at e → length history < all_entries start.needs) view
        (λ placed worker room. has-room hash start history now running who at e placed worker room r)

    -- ---- a file

    pub file-there : (number : ℕ) (object : ObjectNow) → number < length (shown self).numbers.files → object ≡ slice_index_or now.files number object → slice_get now.files number ≡ Some object
    file-there number object declared is = slice_get_read now.files (length now.files) number object refl (inside declared) is
      where
        inside : number < length (shown self).numbers.files → number < length now.files
        inside declared =
            let a : number < length (map number_in start.files) = subst (λ (s : SoloNow). number < length (shown s).numbers.files) (sym view) declared in
            let b = length-numbers start.files in let d = running.went.files_count in omega (arith, a, b, d)

    -- how many pages a file has, and where its slices lie
    pub seen-pages : (number : ℕ) (object : ObjectNow) → slice_get now.files number ≡ Some object → pages_of (shown self).numbers number ≡ object.pages.cache.pager.pages
    seen-pages number object there = subst (λ (s : SoloNow). pages_of (shown s).numbers number ≡ object.pages.cache.pager.pages) view (same-pages hash start history now running number object there)

    pub seen-range : (number slice : ℕ) (object : ObjectNow) → slice_get now.files number ≡ Some object → range_of (shown self).numbers number slice ≡ signed_range (seat_in slice object.layout)
    seen-range number slice object there = subst (λ (s : SoloNow). range_of (shown s).numbers number slice ≡ signed_range (seat_in slice object.layout)) view (same-range hash start history now running number object there slice)

    none_known : (number : ℕ) → slice_get now.files number ≡ None → slice_get (numbers_in start).files number ≡ None
    none_known number none = slice_get-map number_in start.files number ∙ ap (option_map number_in) (by_old (slice_get start.files number) refl)
      where
        by_old : (o : Option ObjectNow) → slice_get start.files number ≡ o → o ≡ None
        by_old None is = refl
        by_old (Some old) is =
            let a = within-of start.files number old is in
            let b = running.went.files_count in
            let found = there-at now.files number (omega (arith, a, b)) in
            absurd (grind (arith, common_steps, none, found.1))

    pub unseen-pages : (number : ℕ) → slice_get now.files number ≡ None → pages_of (shown self).numbers number ≡ 0
    unseen-pages number none = subst (λ (s : SoloNow). pages_of (shown s).numbers number ≡ 0) view (ap (λ o. option_map_or (λ (k : FileNumbers). k.pages) o 0) (none_known number none))

    pub unseen-range : (number slice : ℕ) → slice_get now.files number ≡ None → range_of (shown self).numbers number slice ≡ None
    unseen-range number slice none = subst (λ (s : SoloNow). range_of (shown s).numbers number slice ≡ None) view (ap (λ o. signed_range (option_and_then (λ (k : FileNumbers). seat_in slice k.layout) o)) (none_known number none))

    module _ (number : ℕ) (object : ObjectNow) (there : slice_get now.files number ≡ Some object) (who : Who) (a : FileCall) where
      pub file-may : IsProper hash (shown self) who number a → MayAskFile hash object a
      file-may = subst (λ (s : SoloNow). IsProper hash (shown s) who number a → MayAskFile hash object a) view (may-ask-file hash start history now running number object there who a)

      pub file-spare : who.worker < length self.start.needs → HasRoom (shown self) who (place.File number) (event.File (event_of a)) → HasSpare object (file_uses (event_of a))
      file-spare = subst (λ (s : SoloNow). who.worker < length s.start.needs → HasRoom (shown s) who (place.File number) (event.File (event_of a)) → HasSpare object (file_uses (event_of a))) view
          (spare-for hash start history now running number object there who (event_of a))

      file_stood : (answer : FileAnswer) (new : ObjectNow) → who.worker < length self.start.needs → IsProper hash (shown self) who number a → HasRoom (shown self) who (place.File number) (event.File (event_of a))
          → AsksFile hash object a answer new → IsKept hash new
          → Stands hash start history now running who (place.File number) (event.File (event_of a)) (reply.File answer.reply) (record now { files = slice_set now.files number new })
      file_stood answer new = subst (λ (s : SoloNow). who.worker < length s.start.needs → IsProper hash (shown s) who number a → HasRoom (shown s) who (place.File number) (event.File (event_of a))
          → AsksFile hash object a answer new → IsKept hash new
          → Stands hash start history now running who (place.File number) (event.File (event_of a)) (reply.File answer.reply) (record now { files = slice_set now.files number new })) view
          (file-stands hash start history now running number object there who a answer new)

      module _ (answer : FileAnswer) (new : ObjectNow) (worker : who.worker < length self.start.needs) (proper : IsProper hash (shown self) who number a) (room : HasRoom (shown self) who (place.File number) (event.File (event_of a)))
          (asks : AsksFile hash object a answer new) (kept : IsKept hash new) (receipt : Receipt Entry) (entries : List Line)
          (is : receipt ≡ made_receipt number who (place.File number) (event.File answer.event) (reply.File answer.reply)) (made : entries ≡ history ++ stamped receipt ∷ []) where
        so : receipt ≡ made_receipt number who (place.File number) (event.File (event_of a)) (reply.File answer.reply)
        so = is ∙ ap (λ v. made_receipt number who (place.File number) (event.File v) (reply.File answer.reply)) asks.event

        pub file-runs : IsRunning hash start entries (record now { files = slice_set now.files number new })
        file-runs = stands_with who (place.File number) (event.File (event_of a)) (reply.File answer.reply) (record now { files = slice_set now.files number new }) receipt entries (file_stood answer new worker proper room asks kept) so made

        pub file-asks : Asks (shown self) who (place.File number) (event.File (event_of a)) receipt (shown (record { start = start; made = entries }))
        file-asks = asks_with who (place.File number) (event.File (event_of a)) (reply.File answer.reply) (record now { files = slice_set now.files number new }) receipt entries (file_stood answer new worker proper room asks kept) so made

    -- ---- a process

    pub process-there : (pid : ℕ) (p : PlainProcess) → pid < (shown self).numbers.processes → p ≡ slice_index_or now.processes pid p → slice_get now.processes pid ≡ Some p
    process-there pid p declared is = slice_get_read now.processes (length now.processes) pid p refl (inside declared) is
      where
        inside : pid < (shown self).numbers.processes → pid < length now.processes
        inside declared =
            let a : pid < length start.processes = subst (λ (s : SoloNow). pid < (shown s).numbers.processes) (sym view) declared in
            let d = running.went.processes_count in omega (arith, a, d)

    module _ (pid : ℕ) (p : PlainProcess) (there : slice_get now.processes pid ≡ Some p) (who : Who) (e : ProcEvent) where
      pub process-may : who.worker < length self.start.needs → HasRoom (shown self) who (place.Process pid) (event.Proc e) → IsProperOf (shown self).numbers e → MayAskProcess p e
      process-may = subst (λ (s : SoloNow). who.worker < length s.start.needs → HasRoom (shown s) who (place.Process pid) (event.Proc e) → IsProperOf (shown s).numbers e → MayAskProcess p e) view
          (may-ask-process hash start history now running pid p there who e)

      process_stood : who.worker < length self.start.needs → HasRoom (shown self) who (place.Process pid) (event.Proc e) → IsProperOf (shown self).numbers e
          → Stands hash start history now running who (place.Process pid) (event.Proc e) (reply.Proc (process_step p e).0) (record now { processes = slice_set now.processes pid (process_step p e).1 })
      process_stood = subst (λ (s : SoloNow). who.worker < length s.start.needs → HasRoom (shown s) who (place.Process pid) (event.Proc e) → IsProperOf (shown s).numbers e
          → Stands hash start history now running who (place.Process pid) (event.Proc e) (reply.Proc (process_step p e).0) (record now { processes = slice_set now.processes pid (process_step p e).1 })) view
          (process-stands hash start history now running pid p there who e)

      module _ (worker : who.worker < length self.start.needs) (room : HasRoom (shown self) who (place.Process pid) (event.Proc e)) (proper : IsProperOf (shown self).numbers e)
          (new : PlainProcess) (after : new ≡ (process_step p e).1) (receipt : Receipt Entry) (entries : List Line)
          (is : receipt ≡ made_receipt (number_of (place.Process pid)) who (place.Process pid) (event.Proc e) (reply.Proc (process_step p e).0)) (made : entries ≡ history ++ stamped receipt ∷ []) where
        pub process-runs : IsRunning hash start entries (record now { processes = slice_set now.processes pid new })
        process-runs = subst (λ (q : PlainProcess). IsRunning hash start entries (record now { processes = slice_set now.processes pid q })) (sym after)
            (stands_with who (place.Process pid) (event.Proc e) (reply.Proc (process_step p e).0) (record now { processes = slice_set now.processes pid (process_step p e).1 }) receipt entries (process_stood worker room proper) is made)

        pub process-asks : Asks (shown self) who (place.Process pid) (event.Proc e) receipt (shown (record { start = start; made = entries }))
        process-asks = asks_with who (place.Process pid) (event.Proc e) (reply.Proc (process_step p e).0) (record now { processes = slice_set now.processes pid (process_step p e).1 }) receipt entries (process_stood worker room proper) is made

    -- ---- the trust list

    pub trust-may : (e : TrustEvent) → IsProperTrust (shown self).numbers e → MayAskTrust now.trust e
    trust-may e = subst (λ (s : SoloNow). IsProperTrust (shown s).numbers e → MayAskTrust now.trust e) view (may-ask-trust hash start history now running e)

    module _ (who : Who) (e : TrustEvent) (worker : who.worker < length self.start.needs) (room : HasRoom (shown self) who place.Trust (event.Trust e)) (receipt : Receipt Entry) (entries : List Line)
        (is : receipt ≡ made_receipt (number_of place.Trust) who place.Trust (event.Trust e) (reply.Trust (trust_step now.trust e).0)) (made : entries ≡ history ++ stamped receipt ∷ []) where
      trust_stood : Stands hash start history now running who place.Trust (event.Trust e) (reply.Trust (trust_step now.trust e).0) (record now { trust = (trust_step now.trust e).1 })
      trust_stood = subst (λ (s : SoloNow). who.worker < length s.start.needs → HasRoom (shown s) who place.Trust (event.Trust e)
          → Stands hash start history now running who place.Trust (event.Trust e) (reply.Trust (trust_step now.trust e).0) (record now { trust = (trust_step now.trust e).1 })) view
          (trust-stands hash start history now running who e) worker room

      pub trust-runs : IsRunning hash start entries (record now { trust = (trust_step now.trust e).1 })
      trust-runs = stands_with who place.Trust (event.Trust e) (reply.Trust (trust_step now.trust e).0) (record now { trust = (trust_step now.trust e).1 }) receipt entries trust_stood is made

      pub trust-asks : Asks (shown self) who place.Trust (event.Trust e) receipt (shown (record { start = start; made = entries }))
      trust-asks = asks_with who place.Trust (event.Trust e) (reply.Trust (trust_step now.trust e).0) (record now { trust = (trust_step now.trust e).1 }) receipt entries trust_stood is made
