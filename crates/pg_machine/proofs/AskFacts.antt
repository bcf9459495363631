-- One part was asked of a machine, and the entry was made.
use Rattle.std.proofs.Common.{◌≡◌, ℕ, zero, suc, ◌+◌, ◌<◌, ◌≤◌, true, List, [], ◌∷◌, ◌++◌, length, map, Option, Some, None, refl, sym, ap, subst, ◌∙◌, arith}
use Rattle.std.specs.Prelude.{IsTrue, slice_get, slice_set}
use Rattle.std.specs.Option.{option_map, option_map_or}
use Rattle.std.proofs.lemmas.Grind.{common_steps}
use Rattle.std.proofs.lemmas.List.Elements.{All-from_recursion}
use Rattle.std.proofs.lemmas.Option.{slice_get-map}
use Rattle.pg_digest.specs.Kinds.{Hash}
use Rattle.pg_book.specs.declared.receipt.Receipt.{Receipt}
use Rattle.pg_book.specs.Closing.{stamped}
use Rattle.pg_book.specs.Needs.{all_entries}
use Rattle.cs_policy.specs.declared.file.FileEvent.{FileEvent}
use Rattle.cs_policy.specs.declared.file.FileEvent.TheVariants as file
use Rattle.cs_policy.specs.declared.file.FileReply.{FileReply}
use Rattle.cs_policy.specs.declared.file.FileReply.TheVariants as file_reply
use Rattle.cs_policy.specs.declared.process.ProcEvent.{ProcEvent}
use Rattle.cs_policy.specs.declared.process.ProcEvent.TheVariants as process
use Rattle.cs_policy.specs.declared.process.ProcReply.TheVariants as process_reply
use Rattle.cs_policy.specs.declared.trust.TrustEvent.{TrustEvent}
use Rattle.cs_policy.specs.declared.trust.TrustEvent.TheVariants as trust
use Rattle.cs_policy.specs.declared.entry.Event.{Event}
use Rattle.cs_policy.specs.declared.entry.Event.TheVariants as event
use Rattle.cs_policy.specs.declared.entry.Reply.{Reply}
use Rattle.cs_policy.specs.declared.entry.Reply.TheVariants as reply
use Rattle.cs_policy.specs.declared.entry.Place.{Place}
use Rattle.cs_policy.specs.declared.entry.Place.TheVariants as place
use Rattle.cs_policy.specs.declared.entry.Who.{Who}
use Rattle.cs_policy.specs.declared.entry.Entry.{Entry}
use Rattle.cs_policy.specs.Entry.{part_number}
use Rattle.cs_blob.specs.Signature.{Signature}
use Rattle.cs_blob.specs.Signed.{IsSignature}
use Rattle.pg_plain.specs.PlainFile.{PlainFile}
use Rattle.pg_plain.specs.Replies.{is_reply_to}
use Rattle.pg_object.specs.Object.{ObjectNow}
use Rattle.pg_object.specs.Acts.{Acts}
use Rattle.pg_object.specs.Kept.{IsKept}
use Rattle.pg_process.specs.ProcessStep.{PlainProcess, process_step}
use Rattle.pg_trusted.specs.TrustStep.{trust_step}
use Rattle.pg_history.specs.Machine.{Line, FilePart, signed_range, blob_of}
use Rattle.pg_history.specs.Opening.{Numbers, FileNumbers, pages_of, range_of, seat_in}
use Rattle.pg_history.specs.ByParts.{is_at, entries_at, FileAnswers}
use Rattle.pg_history.proofs.ListFacts.{all-map, all-filter}
use Rattle.pg_calls.specs.declared.file_call.FileCall.{FileCall}
use Rattle.pg_calls.specs.declared.file_call.FileCall.TheVariants as asked
use Rattle.pg_calls.specs.Room.{plus, Within, file_uses, process_uses, IsPlaceIn}
use Rattle.pg_calls.specs.Parts.{HasRoom, Asks}
use Rattle.pg_calls.specs.Replies.{Answers}
use Rattle.pg_calls.specs.Asking.{event_of, StaysInPage, IsProperPlain, IsProperBlob, IsProper, IsProperOf, IsProperTrust}
use Rattle.pg_calls.proofs.RoomFacts.{number-same}
use Rattle.pg_parts.specs.declared.asking.FileAnswer.{FileAnswer}
use Rattle.pg_parts.specs.Rooms.{part_needs, uses_in}
use Rattle.pg_parts.specs.Opened.{OpenedNow, numbers_in, told_part, HasSpare}
use Rattle.pg_parts.specs.Asking.{MayAskPlain, MayAskFile, AsksFile, MayAskProcess, MayAskTrust}
use Rattle.pg_parts.specs.Replays.{file_after, FileWent, ProcessWent}
use Rattle.pg_parts.proofs.ReplyFacts.{plain-answers, blob-answers, range-by, file-agrees}
use Rattle.pg_parts.proofs.ProcessFacts.{process-replies, process-agrees, trust-replies}
use Rattle.pg_parts.proofs.ReplayFacts.{file-goes}
use Rattle.pg_parts.proofs.ReadingFacts.{in-filter}
use Rattle.pg_parts.proofs.AttachFacts.{attaches-none, attaches}
use Rattle.pg_machine.specs.Solo.{SoloNow, shown, IsRunning}
use Rattle.pg_machine.proofs.HistoryFacts.{stamps-below, in-of, placed-of, only-of}
use Rattle.pg_machine.proofs.OpeningFacts.{number_in}
use Rattle.pg_machine.proofs.RunningFacts.{IsNext, room-for-entry, uses-fit, runs-on, file-asked, process-asked, trust-asked}

-- an element of a list that has so many
pub there-at : {X : Type 0} (xs : List X) (k : ℕ) → k < length xs → (x : X) × (slice_get xs k ≡ Some x)
there-at [] k inside = absurd (omega (arith, inside))
there-at (y ∷ ys) zero inside = (y, refl)
there-at (y ∷ ys) (suc k) inside = there-at ys k (omega (arith, inside))

pub within-of : {X : Type 0} (xs : List X) (k : ℕ) (x : X) → slice_get xs k ≡ Some x → k < length xs
within-of [] k x e = absurd (grind (arith, common_steps, e))
within-of (y ∷ ys) zero x e = omega arith
within-of (y ∷ ys) (suc k) x e = let rest = within-of ys k x e in omega (arith, rest)

pub length-numbers : (xs : List ObjectNow) → length (map number_in xs) ≡ length xs
length-numbers [] = refl
length-numbers (x ∷ xs) = ap suc (length-numbers xs)

module _ (hash : Hash) (start : OpenedNow) (history : List Line) (now : OpenedNow) (running : IsRunning hash start history now) where
  abbrev numbers : Numbers
  numbers = numbers_in start

  abbrev before : SoloNow
  before = record { start = start; made = history }

  -- ---- the entry

  module _ (who : Who) where
    abbrev receipt : Place → Event → Reply → Receipt Entry
    receipt at e r = record {
      part = part_number (length numbers.files) numbers.processes at;
      caller = who.worker;
      stamp = length history;
      entry = record { who = who; place = at; event = e; reply = r };
    }

    abbrev line : Place → Event → Reply → Line
    line at e r = stamped (receipt at e r)

    abbrev behind : Place → Event → Reply → SoloNow
    behind at e r = record { start = start; made = history ++ line at e r ∷ [] }

    next_line : (at : Place) (e : Event) (r : Reply) → IsPlaceIn numbers at → who.worker < length start.needs → HasRoom (shown before) who at e → IsNext start history (line at e r)
    next_line at e r placed worker room = record {
      stamp = refl;
      agrees = record { part = refl; caller = refl };
      placed = placed;
      worker = worker;
      room = room placed;
    }

    asks_line : (at : Place) (e : Event) (r : Reply) → Answers numbers at e r → Asks (shown before) who at e (receipt at e r) (shown (behind at e r))
    asks_line at e r answers = record {
      made = refl;
      part = refl;
      caller = refl;
      by_whom = refl;
      place = refl;
      event = refl;
      answers = answers;
      above = All-from_recursion (λ (x : Line). x.entry.who.worker ≡ who.worker → x.stamp < length history) history
          (all-map (λ (x : Line). x.stamp < length history) (λ x. x.entry.who.worker ≡ who.worker → x.stamp < length history) (λ x less same. less) history (stamps-below history running.stamps));
    }

    -- The entry was made, and the machine stands.
    pub record Stands (at : Place) (e : Event) (r : Reply) (after : OpenedNow) : Type 0 where
      pub stands : IsRunning hash start (history ++ line at e r ∷ []) after
      pub asks : Asks (shown before) who at e (receipt at e r) (shown (behind at e r))

  pub has-room : (who : Who) (at : Place) (e : Event) → IsPlaceIn numbers at → who.worker < length start.needs → HasRoom (shown before) who at e → (r : Reply) → length history < all_entries start.needs
  has-room who at e placed worker room r = room-for-entry hash start history now running (line who at e r) (next_line who at e r placed worker room)

  -- ---- a file

  module _ (number : ℕ) (object : ObjectNow) (there : slice_get now.files number ≡ Some object) where
    declared_old : (old : ObjectNow) × (slice_get start.files number ≡ Some old)
    declared_old = there-at start.files number (let a = within-of now.files number object there in let b = running.went.files_count in omega (arith, a, b))

    went : FileWent hash declared_old.0 (entries_at (place.File number) history) object
    went = running.went.files number declared_old.0 object declared_old.1 there

    known : slice_get numbers.files number ≡ Some (number_in declared_old.0)
    known = slice_get-map number_in start.files number ∙ ap (option_map number_in) declared_old.1

    pub same-pages : pages_of numbers number ≡ object.pages.cache.pager.pages
    same-pages = ap (λ o. option_map_or (λ (k : FileNumbers). k.pages) o 0) known ∙ sym went.sizes.pages

    pub same-size : object.pages.cache.pager.page_size ≡ start.page_size
    same-size = went.sizes.page_size ∙ ap (λ (f : PlainFile). f.page_size) ((running.openable.files number declared_old.0 declared_old.1).plain [])

    pub same-range : (slice : ℕ) → range_of numbers number slice ≡ signed_range (seat_in slice object.layout)
    same-range slice = range-by numbers number slice (number_in declared_old.0) known ∙ ap (λ l. signed_range (seat_in slice l)) (sym went.layout)

    may_plain : (e : FileEvent) → IsProperPlain numbers number e → MayAskPlain object e
    may_plain (file.AddBlob slice cdhash read lookup) proper = absurd proper
    may_plain (file.AddRegion region insert) proper = subst (λ n. region.first + region.pages ≤ n) same-pages proper
    may_plain (file.Store id page at bytes resolve) proper = subst (λ n. StaysInPage n at (length bytes)) (sym same-size) proper
    may_plain (file.Load id page at count resolve) proper = subst (λ n. StaysInPage n at count) (sym same-size) proper
    may_plain (file.Fetch id page at count resolve) proper = subst (λ n. StaysInPage n at count) (sym same-size) proper
    may_plain (file.ReadSignature slice) proper = tt
    may_plain (file.RefuseBlob read refusal) proper = tt
    may_plain (file.Write at piece) proper = tt
    may_plain (file.DropRegion id) proper = tt
    may_plain (file.DropPid pid) proper = tt
    may_plain (file.Enter id page access flags resolve) proper = tt
    may_plain (file.Evict page) proper = tt

    pub may-ask-file : (who : Who) (a : FileCall) → IsProper hash (shown before) who number a → MayAskFile hash object a
    may-ask-file who (asked.Plain e) proper = may_plain e proper
    may-ask-file who (asked.Attach slice blob read lookup) proper = record {
      range = sym (same-range slice) ∙ proper.range;
      signed = subst (λ n. IsSignature hash blob.bytes blob.slice (Some n) blob) (sym same-size) proper.signed;
    }

    placed_file : IsPlaceIn numbers (place.File number)
    placed_file = let a = within-of start.files number declared_old.0 declared_old.1 in let b = length-numbers start.files in omega (arith, a, b)

    module _ (who : Who) (e : FileEvent) (worker : who.worker < length start.needs) (room : HasRoom (shown before) who (place.File number) (event.File e)) where
      pub spare-for : HasSpare object (file_uses e)
      spare-for =
          let opened = running.openable.spare number declared_old.0 declared_old.1 in
          let left = went.spare in
          let fit = subst (λ n. Within (plus (uses_in (entries_at (place.File number) history)) (file_uses e)) (part_needs start.needs (part_number n (length start.processes) (place.File number)))) (length-numbers start.files)
          (uses-fit hash start history now running (line who (place.File number) (event.File e) (reply.File file_reply.Noted)) (next_line who (place.File number) (event.File e) (reply.File file_reply.Noted) placed_file worker room)) in
          record {
            regions = omega (arith, opened.regions, left.regions, fit.regions);
            records = omega (arith, opened.records, left.records, fit.records);
            copies = omega (arith, opened.copies, left.copies, fit.copies);
            blobs = omega (arith, opened.blobs, left.blobs, fit.blobs);
          }

      -- The file answered: the entry is made, and the machine stands.
      module _ (blob : Option Signature) (answer : FileReply) (new : ObjectNow) (acts : Acts hash object e blob answer new) (kept : IsKept hash new) (replies : IsTrue (is_reply_to e answer))
          (names : (part : FilePart) → told_part declared_old.0 [] ≡ Some part → FileAnswers hash part (entries_at (place.File number) history)
          → told_part object (file_after hash part (entries_at (place.File number) history)).readings ≡ Some (file_after hash part (entries_at (place.File number) history))
          → blob ≡ blob_of hash (file_after hash part (entries_at (place.File number) history)) e) where
        abbrev the_line : Line
        the_line = line who (place.File number) (event.File e) (reply.File answer)

        file_stands : Stands who (place.File number) (event.File e) (reply.File answer) (record now { files = slice_set now.files number new })
        file_stands =
            let next = next_line who (place.File number) (event.File e) (reply.File answer) placed_file worker room in
            record {
              stands = runs-on hash start history now running the_line next (record now { files = slice_set now.files number new })
                  (file-asked hash start history now running the_line next number declared_old.0 object new refl declared_old.1 there
                  (file-goes hash declared_old.0 object new (entries_at (place.File number) history) the_line e blob answer went acts kept (record { event = refl; reply = refl }) names));
              asks = asks_line who (place.File number) (event.File e) (reply.File answer)
                  (replies, file-agrees hash object new e blob answer numbers number (number_in declared_old.0) acts known (sym went.layout));
            }

    -- the signature that is attached is that of the bytes that were read
    module _ (who : Who) (slice : ℕ) (blob : Signature) (read lookup : Receipt Entry) (proper : IsProperBlob hash (shown before) who number slice blob read lookup) where
      names_read : (part : FilePart) → told_part declared_old.0 [] ≡ Some part → FileAnswers hash part (entries_at (place.File number) history)
          → told_part object (file_after hash part (entries_at (place.File number) history)).readings ≡ Some (file_after hash part (entries_at (place.File number) history))
          → Some blob ≡ blob_of hash (file_after hash part (entries_at (place.File number) history)) (file.AddBlob slice blob.cdhash read.stamp lookup.stamp)
      names_read part told answers is_now =
          let here = placed-of history (stamped read) proper.read_here in
          let is_own : is_at (place.File number) read.entry.place ≡ true = ap (is_at (place.File number)) proper.reading.place ∙ number-same number in
          attaches hash declared_old.0 object (entries_at (place.File number) history) part told answers is_now (stamped read) slice blob lookup.stamp proper.reading.event proper.reading.reply
          (all-filter (λ (x : Line). x.stamp ≡ read.stamp → x ≡ stamped read) (λ (x : Line). is_at (place.File number) x.entry.place) history (only-of history (stamped read) running.stamps proper.read_here))
          (in-filter (λ (x : Line). is_at (place.File number) x.entry.place) (stamped read) history is_own (in-of history here.0 (stamped read) here.1))
          (sym (same-range slice) ∙ proper.range)
          (subst (λ n. IsSignature hash blob.bytes blob.slice (Some n) blob) (sym same-size) proper.signed)

    pub file-stands : (who : Who) (a : FileCall) (answer : FileAnswer) (new : ObjectNow) → who.worker < length start.needs → IsProper hash (shown before) who number a
        → HasRoom (shown before) who (place.File number) (event.File (event_of a)) → AsksFile hash object a answer new → IsKept hash new
        → Stands who (place.File number) (event.File (event_of a)) (reply.File answer.reply) (record now { files = slice_set now.files number new })
    file-stands who (asked.Plain e) answer new worker proper room asks kept =
        file_stands who e worker room None answer.reply new asks.acts kept (plain-answers hash object new e answer.reply (may_plain e proper) asks.acts)
        (λ part told answers is_now. attaches-none hash object (file_after hash part (entries_at (place.File number) history)) e (may_plain e proper))
    file-stands who (asked.Attach slice blob read lookup) answer new worker proper room asks kept =
        file_stands who (file.AddBlob slice blob.cdhash read.stamp lookup.stamp) worker room (Some blob) answer.reply new asks.acts kept
        (blob-answers hash object new (file.AddBlob slice blob.cdhash read.stamp lookup.stamp) blob answer.reply asks.acts)
        (names_read who slice blob read lookup proper)

  -- ---- a process

  module _ (pid : ℕ) (p : PlainProcess) (there : slice_get now.processes pid ≡ Some p) where
    opened_process : (old : PlainProcess) × (slice_get start.processes pid ≡ Some old)
    opened_process = there-at start.processes pid (let a = within-of now.processes pid p there in let b = running.went.processes_count in omega (arith, a, b))

    process_went : ProcessWent (length numbers.files) opened_process.0 (entries_at (place.Process pid) history) p
    process_went = running.went.processes pid opened_process.0 p opened_process.1 there

    placed_process : IsPlaceIn numbers (place.Process pid)
    placed_process = within-of start.processes pid opened_process.0 opened_process.1

    module _ (who : Who) (e : ProcEvent) (worker : who.worker < length start.needs) (room : HasRoom (shown before) who (place.Process pid) (event.Proc e)) where
      -- the process has a number left for a region that the event may make
      made_fits : p.made + (process_uses e).numbers ≤ 4096
      made_fits =
          let opened = running.openable.numbers pid opened_process.0 opened_process.1 in
          let more = process_went.made in
          let fit = subst (λ n. Within (plus (uses_in (entries_at (place.Process pid) history)) (process_uses e)) (part_needs start.needs (part_number n (length start.processes) (place.Process pid)))) (length-numbers start.files)
          (uses-fit hash start history now running (line who (place.Process pid) (event.Proc e) (reply.Proc process_reply.Dead)) (next_line who (place.Process pid) (event.Proc e) (reply.Proc process_reply.Dead) placed_process worker room)) in
          omega (arith, opened, more, fit.numbers)

      pub may-ask-process : IsProperOf numbers e → MayAskProcess p e
      may-ask-process proper = by_event e proper made_fits
        where
          by_event : (v : ProcEvent) → IsProperOf numbers v → p.made + (process_uses v).numbers ≤ 4096 → MayAskProcess p v
          by_event (process.Insert at number file_pages first pages prot shared) proper fits =
              let few = running.openable.few_files in let long = length-numbers start.files in
              (omega (arith, proper.0, few, long), proper.1, omega (arith, fits))
          by_event process.Start proper fits = tt
          by_event (process.Resolve addr access) proper fits = tt
          by_event (process.Remove at) proper fits = tt
          by_event process.Debug proper fits = tt
          by_event process.Punish proper fits = tt
          by_event process.ClearValid proper fits = tt
          by_event process.Exit proper fits = tt

      pub process-stands : IsProperOf numbers e
          → Stands who (place.Process pid) (event.Proc e) (reply.Proc (process_step p e).0) (record now { processes = slice_set now.processes pid (process_step p e).1 })
      process-stands proper =
          let x = line who (place.Process pid) (event.Proc e) (reply.Proc (process_step p e).0) in
          let next = next_line who (place.Process pid) (event.Proc e) (reply.Proc (process_step p e).0) placed_process worker room in
          record {
            stands = runs-on hash start history now running x next (record now { processes = slice_set now.processes pid (process_step p e).1 })
                (process-asked hash start history now running x next pid opened_process.0 p e refl opened_process.1 there proper refl refl);
            asks = asks_line who (place.Process pid) (event.Proc e) (reply.Proc (process_step p e).0)
                (process-replies numbers p e process_went.declared proper, process-agrees numbers p e process_went.declared proper);
          }

  -- ---- the trust list

  pub may-ask-trust : (e : TrustEvent) → IsProperTrust numbers e → MayAskTrust now.trust e
  may-ask-trust (trust.LoadModule cache) proper = subst (λ (n : ℕ). cache < n) (sym (ap length running.went.trust.caches)) proper
  may-ask-trust (trust.Lookup cdhash) proper = tt

  pub trust-stands : (who : Who) (e : TrustEvent) → who.worker < length start.needs → HasRoom (shown before) who place.Trust (event.Trust e)
      → Stands who place.Trust (event.Trust e) (reply.Trust (trust_step now.trust e).0) (record now { trust = (trust_step now.trust e).1 })
  trust-stands who e worker room =
      let x = line who place.Trust (event.Trust e) (reply.Trust (trust_step now.trust e).0) in
      let next = next_line who place.Trust (event.Trust e) (reply.Trust (trust_step now.trust e).0) tt worker room in
      record {
        stands = runs-on hash start history now running x next (record now { trust = (trust_step now.trust e).1 })
            (trust-asked hash start history now running x next e refl refl refl);
        asks = asks_line who place.Trust (event.Trust e) (reply.Trust (trust_step now.trust e).0) (trust-replies now.trust e);
      }
