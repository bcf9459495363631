-- A file is asked behind its lock.
use Rattle.std.proofs.Common.{◌≡◌, ◌⊎◌, ℕ, ◌+◌, ◌≤◌, [], length, Option, Some, None, sym, ap, subst, ◌∙◌, arith, inl, inr}
use Rattle.std.specs.Prelude.{IsTrue, IsSomeAnd, slice_get}
use Rattle.std.specs.Option.{option_map, option_map_or}
use Rattle.std.proofs.lemmas.Grind.{common_steps}
use Rattle.std.proofs.lemmas.Option.{slice_get-map}
use Rattle.pg_digest.specs.Kinds.{Hash}
use Rattle.pg_book.specs.declared.receipt.Receipt.{Receipt}
use Rattle.pg_book.specs.Knowing.{HasRoom}
use Rattle.pg_book.specs.Lists.{Among}
use Rattle.pg_book.specs.Views.{caller_name}
use Rattle.pg_book.specs.Models.{SpineOf, PassOf, spine_receipts}
use Rattle.pg_book.specs.Outcomes.{Meets, Draws}
use Rattle.pg_book.specs.Closing.{stamped}
use Rattle.cs_policy.specs.declared.file.FileEvent.{FileEvent}
use Rattle.cs_policy.specs.declared.file.FileEvent.TheVariants as file
use Rattle.cs_policy.specs.declared.file.FileReply.{FileReply}
use Rattle.cs_policy.specs.declared.entry.Event.TheVariants as event
use Rattle.cs_policy.specs.declared.entry.Reply.{Reply}
use Rattle.cs_policy.specs.declared.entry.Reply.TheVariants as reply
use Rattle.cs_policy.specs.declared.entry.Place.TheVariants as place
use Rattle.cs_policy.specs.declared.entry.Who.{Who}
use Rattle.cs_policy.specs.declared.entry.Entry.{Entry}
use Rattle.cs_policy.specs.Entry.{part_number}
use Rattle.cs_blob.specs.Signature.{Signature}
use Rattle.cs_blob.specs.Signed.{IsSignature}
use Rattle.pg_plain.specs.PlainFile.{Attached, PlainFile}
use Rattle.pg_plain.specs.Replies.{is_reply_to}
use Rattle.pg_object.specs.Object.{ObjectNow, seen}
use Rattle.pg_object.specs.Acts.{Acts}
use Rattle.pg_object.specs.Kept.{IsKept}
use Rattle.pg_sealing.proofs.BlobFacts.{Attaches, step_blobs}
use Rattle.pg_history.specs.Machine.{Line, FilePart, signed_range, blob_of}
use Rattle.pg_history.specs.Opening.{Numbers, FileNumbers, pages_of, range_of, seat_in}
use Rattle.pg_history.specs.ByParts.{FileAnswers}
use Rattle.pg_history.specs.Calls.{of_file}
use Rattle.pg_calls.specs.declared.file_call.FileCall.{FileCall}
use Rattle.pg_calls.specs.declared.file_call.FileCall.TheVariants as asked
use Rattle.pg_calls.specs.Room.{plus, Within, file_uses}
use Rattle.pg_calls.specs.Parts as parts
use Rattle.pg_calls.specs.Parts.{Asks}
use Rattle.pg_calls.specs.Asking.{event_of, StaysInPage, IsProperPlain, IsProperBlob, IsProper}
use Rattle.pg_parts.specs.declared.asking.FileAnswer.{FileAnswer}
use Rattle.pg_parts.specs.Opened.{numbers_in, told_part, HasSpare}
use Rattle.pg_parts.specs.Rooms.{part_needs, uses_in}
use Rattle.pg_parts.specs.Asking.{MayAskPlain, MayAskFile, AsksFile, signature_in}
use Rattle.pg_parts.specs.Replays.{file_after, FileWent}
use Rattle.pg_parts.proofs.ReplyFacts.{plain-answers, blob-answers, range-by, file-agrees}
use Rattle.pg_parts.proofs.ReplayFacts.{file-goes}
use Rattle.pg_parts.proofs.AttachFacts.{attaches-none, attaches}
use Rattle.pg_machine.proofs.OpeningFacts.{number_in}
use Rattle.pg_machine.proofs.AskFacts.{length-numbers}
use Rattle.pg_shared.specs.Plan.{Plan}
use Rattle.pg_shared.specs.Drawn.{drawn_on}
use Rattle.pg_shared.specs.Passes.{shown, IsPassOf}
use Rattle.pg_shared.specs.Cells.{FileCellNow, IsAdmittedBy, IsFileKept, IsFileOf}
use Rattle.pg_shared.proofs.ReceiptFacts.{all-lines, in-lines, among-lines, only-stamp}
use Rattle.pg_shared.proofs.SpineFacts.{entry_of, uses-fit, may-draw, entered, drawn-more, spine-draws, pass-draws, asks-draws, stood-there, told-of-pass, knows-still}

-- the reply is a file's, and with it the file made the step of its event
abbrev pub ActsBy : Hash → ObjectNow → FileEvent → Option Signature → ObjectNow → Reply → Type 0
ActsBy hash old e blob new r = IsSomeAnd (of_file r) (λ answer. Acts hash old e blob answer new)

-- What a draw on a file leaves: the cell and the pass stand, and the receipt is of what was asked and of the file's step.
pub record Stands (hash : Hash) (plan : Plan) (number : ℕ) (who : Who) (pass : PassOf Entry) (old : ObjectNow) (a : FileCall) (receipt : Receipt Entry) (new : ObjectNow)
    (spine : SpineOf Entry) (after : PassOf Entry) : Type 0 where
  pub kept : IsFileOf hash plan (record { object = new; spine = spine })
  pub asks : Asks (shown plan pass) who (place.File number) (event.File (event_of a)) receipt (shown plan after)
  pub acts : ActsBy hash old (event_of a) (signature_in a) new receipt.entry.reply
  pub is_pass : IsPassOf plan who.worker after

-- the cell of this part is that of the file with this number
pub file-here : (hash : Hash) (plan : Plan) (cell : FileCellNow) (of : IsFileOf hash plan cell) (number : ℕ) → cell.spine.part ≡ number → IsFileKept hash plan number cell
file-here hash plan cell of number part = subst (λ (n : ℕ). IsFileKept hash plan n cell) (sym of.kept.spine.part ∙ part) of.kept

module _ (hash : Hash) (plan : Plan) (object : ObjectNow) (spine : SpineOf Entry) (number : ℕ) (kept : IsFileKept hash plan number (record { object = object; spine = spine })) (who : Who)
    (pass : PassOf Entry) (own : IsPassOf plan who.worker pass) where
  abbrev numbers : Numbers
  numbers = numbers_in plan.start

  known : slice_get numbers.files number ≡ Some (number_in kept.opened)
  known = slice_get-map number_in plan.start.files number ∙ ap (option_map number_in) kept.here

  same_pages : pages_of numbers number ≡ object.pages.cache.pager.pages
  same_pages = ap (λ o. option_map_or (λ (k : FileNumbers). k.pages) o 0) known ∙ sym kept.went.sizes.pages

  same_size : object.pages.cache.pager.page_size ≡ plan.start.page_size
  same_size = kept.went.sizes.page_size ∙ ap (λ (f : PlainFile). f.page_size) (kept.fresh.plain [])

  same_range : (slice : ℕ) → range_of numbers number slice ≡ signed_range (seat_in slice object.layout)
  same_range slice = range-by numbers number slice (number_in kept.opened) known ∙ ap (λ l. signed_range (seat_in slice l)) (sym kept.went.layout)

  may_plain : (e : FileEvent) → IsProperPlain numbers number e → MayAskPlain object e
  may_plain (file.AddBlob slice cdhash read lookup) proper = absurd proper
  may_plain (file.AddRegion region insert) proper = subst (λ n. region.first + region.pages ≤ n) same_pages proper
  may_plain (file.Store id page at bytes resolve) proper = subst (λ n. StaysInPage n at (length bytes)) (sym same_size) proper
  may_plain (file.Load id page at count resolve) proper = subst (λ n. StaysInPage n at count) (sym same_size) proper
  may_plain (file.Fetch id page at count resolve) proper = subst (λ n. StaysInPage n at count) (sym same_size) proper
  may_plain (file.ReadSignature slice) proper = tt
  may_plain (file.RefuseBlob read refusal) proper = tt
  may_plain (file.Write at piece) proper = tt
  may_plain (file.DropRegion id) proper = tt
  may_plain (file.DropPid pid) proper = tt
  may_plain (file.Enter id page access flags resolve) proper = tt
  may_plain (file.Evict page) proper = tt

  pub may-ask-file : (a : FileCall) → IsProper hash (shown plan pass) who number a → MayAskFile hash object a
  may-ask-file (asked.Plain e) proper = may_plain e proper
  may-ask-file (asked.Attach slice blob read lookup) proper = record {
    range = sym (same_range slice) ∙ proper.range;
    signed = subst (λ n. IsSignature hash blob.bytes blob.slice (Some n) blob) (sym same_size) proper.signed;
  }

  module _ (met : PassOf Entry) (meets : Meets spine pass met) (e : FileEvent) (room : parts.HasRoom (shown plan pass) who (place.File number) (event.File e)) where
    pub spare-for : HasSpare object (file_uses e)
    spare-for =
        let opened = kept.spare in
        let left = kept.went.spare in
        let fit = subst (λ n. Within (plus (uses_in (drawn_on spine)) (file_uses e)) (part_needs plan.start.needs (part_number n (length plan.start.processes) (place.File number)))) (length-numbers plan.start.files)
        (uses-fit plan (place.File number) spine kept.spine who pass own met meets (event.File e) room) in
        record {
          regions = omega (arith, opened.regions, left.regions, fit.regions);
          records = omega (arith, opened.records, left.records, fit.records);
          copies = omega (arith, opened.copies, left.copies, fit.copies);
          blobs = omega (arith, opened.blobs, left.blobs, fit.blobs);
        }

    pub may-draw-file : HasRoom spine.part met.caller met.view
    may-draw-file = may-draw plan (place.File number) spine kept.spine who pass own met meets (event.File e) room

    -- ---- the file answered, and the entry was drawn

    module _ (answer : FileReply) (entry : Entry) (same : entry ≡ entry_of who (place.File number) (event.File e) (reply.File answer))
        (receipt : Receipt Entry) (spine' : SpineOf Entry) (pass' : PassOf Entry) (draws : Draws spine met entry receipt spine' pass') where
      line_is : receipt.entry ≡ entry_of who (place.File number) (event.File e) (reply.File answer)
      line_is = entered plan (place.File number) spine kept.spine who pass own met meets (event.File e) room (reply.File answer) entry same receipt spine' pass' draws

      acts_by : (blob : Option Signature) (new : ObjectNow) → Acts hash object e blob answer new → ActsBy hash object e blob new receipt.entry.reply
      acts_by blob new acts = subst (ActsBy hash object e blob new) (sym (ap (λ (n : Entry). n.reply) line_is)) acts

      pub file-passes : IsPassOf plan who.worker pass'
      file-passes = pass-draws plan (place.File number) spine kept.spine who pass own met meets (event.File e) room (reply.File answer) entry same receipt spine' pass' draws

      -- what was admitted is admitted still
      still : (attached : Attached) → IsAdmittedBy plan spine attached → IsAdmittedBy plan spine' attached
      still attached by = record {
        lookup = by.lookup;
        name = by.name;
        answer = by.answer;
        known = knows-still plan (place.File number) spine kept.spine who pass own met meets (event.File e) room (reply.File answer) entry same receipt spine' pass' draws by.name by.lookup by.known;
        place = by.place;
        event = by.event;
        reply = by.reply;
        admitted = by.admitted;
      }

      -- what the event attaches is admitted, and is the signature of the bytes that were read
      module _ (blob : Option Signature) (new : ObjectNow) (acts : Acts hash object e blob answer new) (new_kept : IsKept hash new) (replies : IsTrue (is_reply_to e answer))
          (names : (part : FilePart) → told_part kept.opened [] ≡ Some part → FileAnswers hash part (drawn_on spine)
          → told_part object (file_after hash part (drawn_on spine)).readings ≡ Some (file_after hash part (drawn_on spine))
          → blob ≡ blob_of hash (file_after hash part (drawn_on spine)) e)
          (admits_it : (attached : Attached) → blob ≡ Some attached.signature → IsAdmittedBy plan spine' attached) where
        admitted_now : (k : ℕ) (attached : Attached) → slice_get new.blobs k ≡ Some attached → IsAdmittedBy plan spine' attached
        admitted_now k attached there =
            by_place (step_blobs hash (seen object acts.pages) e blob acts.outcome k attached (ap (λ (a : FileReply × PlainFile). slice_get a.1.blobs k) (sym acts.step) ∙ there))
          where
            by_place : (slice_get object.blobs k ≡ Some attached) ⊎ Attaches hash (seen object acts.pages) e blob acts.outcome k attached → IsAdmittedBy plan spine' attached
            by_place (inl old) = still attached (kept.admitted k attached old)
            by_place (inr attaches) = admits_it attached attaches.given

        file_kept : IsFileOf hash plan (record { object = new; spine = spine' })
        file_kept = record {
          number = number;
          kept = record {
            opened = kept.opened;
            here = kept.here;
            fresh = kept.fresh;
            spare = kept.spare;
            spine = spine-draws plan (place.File number) spine kept.spine who pass own met meets (event.File e) room (reply.File answer) entry same receipt spine' pass' draws;
            went =
                subst (λ es. FileWent hash kept.opened es new)
                (sym (drawn-more plan (place.File number) spine kept.spine who pass own met meets (event.File e) room (reply.File answer) entry same receipt spine' pass' draws))
                (file-goes hash kept.opened object new (drawn_on spine) (stamped receipt) e blob answer kept.went acts new_kept
                (record { event = ap (λ (n : Entry). n.event) line_is; reply = ap (λ (n : Entry). n.reply) line_is }) names);
            admitted = admitted_now;
          };
        }

        file_asks : Asks (shown plan pass) who (place.File number) (event.File e) receipt (shown plan pass')
        file_asks =
            asks-draws plan (place.File number) spine kept.spine who pass own met meets (event.File e) room (reply.File answer) entry same receipt spine' pass' draws
            (replies, file-agrees hash object new e blob answer numbers number (number_in kept.opened) acts known (sym kept.went.layout))

  -- ---- a signature is attached

  module _ (met : PassOf Entry) (meets : Meets spine pass met) (slice : ℕ) (blob : Signature) (read lookup : Receipt Entry)
      (proper : IsProperBlob hash (shown plan pass) who number slice blob read lookup)
      (room : parts.HasRoom (shown plan pass) who (place.File number) (event.File (file.AddBlob slice blob.cdhash read.stamp lookup.stamp)))
      (answer : FileReply) (entry : Entry) (same : entry ≡ entry_of who (place.File number) (event.File (file.AddBlob slice blob.cdhash read.stamp lookup.stamp)) (reply.File answer))
      (receipt : Receipt Entry) (spine' : SpineOf Entry) (pass' : PassOf Entry) (draws : Draws spine met entry receipt spine' pass') where
    read_stood : Among read (spine_receipts spine)
    read_stood =
        stood-there plan (place.File number) spine kept.spine who pass own met meets (event.File (file.AddBlob slice blob.cdhash read.stamp lookup.stamp)) room (reply.File answer) entry same receipt spine' pass' draws
        read (among-lines _ read proper.read_here) proper.reading.part

    names_read : (part : FilePart) → told_part kept.opened [] ≡ Some part → FileAnswers hash part (drawn_on spine)
        → told_part object (file_after hash part (drawn_on spine)).readings ≡ Some (file_after hash part (drawn_on spine))
        → Some blob ≡ blob_of hash (file_after hash part (drawn_on spine)) (file.AddBlob slice blob.cdhash read.stamp lookup.stamp)
    names_read part told answers is_now =
        attaches hash kept.opened object (drawn_on spine) part told answers is_now (stamped read) slice blob lookup.stamp proper.reading.event proper.reading.reply
        (all-lines (λ (x : Line). x.stamp ≡ read.stamp → x ≡ stamped read) (spine_receipts spine)
        (λ x there same_stamp. ap stamped (only-stamp (spine_receipts spine) read kept.spine.rising read_stood x there same_stamp)))
        (in-lines read (spine_receipts spine) read_stood)
        (sym (same_range slice) ∙ proper.range)
        (subst (λ n. IsSignature hash blob.bytes blob.slice (Some n) blob) (sym same_size) proper.signed)

    some_same : (a b : Signature) → Some a ≡ Some b → a ≡ b
    some_same a b is = grind (arith, common_steps, is)

    admits_blob : (attached : Attached) → Some blob ≡ Some attached.signature → IsAdmittedBy plan spine' attached
    admits_blob attached is =
        let here : blob ≡ attached.signature = some_same blob attached.signature is in
        subst (λ (b : Signature). IsAdmittedBy plan spine' (record { slice = attached.slice; signature = b })) here (record {
          lookup = lookup;
          name = caller_name met.view met.caller;
          answer = proper.looked_up.answer;
          known = told-of-pass plan (place.File number) spine kept.spine who pass own met meets (event.File (file.AddBlob slice blob.cdhash read.stamp lookup.stamp)) room (reply.File answer) entry same
              receipt spine' pass' draws lookup (among-lines _ lookup proper.looked_up_here);
          place = proper.looked_up.place;
          event = proper.looked_up.event;
          reply = proper.looked_up.reply;
          admitted = proper.looked_up.admitted;
        })

  no_blob : (spine' : SpineOf Entry) (attached : Attached) → ◌≡◌ {A = Option Signature} None (Some attached.signature) → IsAdmittedBy plan spine' attached
  no_blob spine' attached is = absurd (grind (arith, common_steps, is))

  module _ (met : PassOf Entry) (meets : Meets spine pass met) where
    pub file-stands : (a : FileCall) (proper : IsProper hash (shown plan pass) who number a) (room : parts.HasRoom (shown plan pass) who (place.File number) (event.File (event_of a)))
        (answer : FileAnswer) (new : ObjectNow) (asks : AsksFile hash object a answer new) (new_kept : IsKept hash new)
        (entry : Entry) (same : entry ≡ entry_of who (place.File number) (event.File answer.event) (reply.File answer.reply))
        (receipt : Receipt Entry) (spine' : SpineOf Entry) (pass' : PassOf Entry) (draws : Draws spine met entry receipt spine' pass')
        → Stands hash plan number who pass object a receipt new spine' pass'
    file-stands (asked.Plain e) proper room answer new asks new_kept entry same receipt spine' pass' draws =
        let named = same ∙ ap (λ (v : FileEvent). entry_of who (place.File number) (event.File v) (reply.File answer.reply)) asks.event in
        let replies = plain-answers hash object new e answer.reply (may_plain e proper) asks.acts in
        record {
          kept = file_kept met meets e room answer.reply entry named receipt spine' pass' draws None new asks.acts new_kept replies
              (λ part told answers is_now. attaches-none hash object (file_after hash part (drawn_on spine)) e (may_plain e proper)) (no_blob spine');
          asks = file_asks met meets e room answer.reply entry named receipt spine' pass' draws None new asks.acts new_kept replies
              (λ part told answers is_now. attaches-none hash object (file_after hash part (drawn_on spine)) e (may_plain e proper)) (no_blob spine');
          acts = acts_by met meets e room answer.reply entry named receipt spine' pass' draws None new asks.acts;
          is_pass = file-passes met meets e room answer.reply entry named receipt spine' pass' draws;
        }
    file-stands (asked.Attach slice blob read lookup) proper room answer new asks new_kept entry same receipt spine' pass' draws =
        let e = file.AddBlob slice blob.cdhash read.stamp lookup.stamp in
        let named = same ∙ ap (λ (v : FileEvent). entry_of who (place.File number) (event.File v) (reply.File answer.reply)) asks.event in
        let replies = blob-answers hash object new e blob answer.reply asks.acts in
        let names = names_read met meets slice blob read lookup proper room answer.reply entry named receipt spine' pass' draws in
        let admits_it = admits_blob met meets slice blob read lookup proper room answer.reply entry named receipt spine' pass' draws in
        record {
          kept = file_kept met meets e room answer.reply entry named receipt spine' pass' draws (Some blob) new asks.acts new_kept replies names admits_it;
          asks = file_asks met meets e room answer.reply entry named receipt spine' pass' draws (Some blob) new asks.acts new_kept replies names admits_it;
          acts = acts_by met meets e room answer.reply entry named receipt spine' pass' draws (Some blob) new asks.acts;
          is_pass = file-passes met meets e room answer.reply entry named receipt spine' pass' draws;
        }

-- ---- as the cell's call has it

module _ (hash : Hash) (plan : Plan) (cell : FileCellNow) (object : ObjectNow) (spine : SpineOf Entry) (of : IsFileOf hash plan (record { object = object; spine = spine }))
    (view : ◌≡◌ {A = FileCellNow} (record { object = object; spine = spine }) cell) (number : ℕ) (part : cell.spine.part ≡ number) (who : Who) (pass : PassOf Entry) (own : IsPassOf plan who.worker pass)
    (met : PassOf Entry) (meets : Meets spine pass met) (a : FileCall) (proper : IsProper hash (shown plan pass) who number a)
    (room : parts.HasRoom (shown plan pass) who (place.File number) (event.File (event_of a))) where
  kept_here : IsFileKept hash plan number (record { object = object; spine = spine })
  kept_here = file-here hash plan (record { object = object; spine = spine }) of number (ap (λ (c : FileCellNow). c.spine.part) view ∙ part)

  pub asks-file : MayAskFile hash object a
  asks-file = may-ask-file hash plan object spine number kept_here who pass own a proper

  pub has-spare : HasSpare object (file_uses (event_of a))
  has-spare = spare-for hash plan object spine number kept_here who pass own met meets (event_of a) room

  module _ (now : SpineOf Entry) (same : now ≡ spine) where
    pub draws-file : HasRoom now.part met.caller met.view
    draws-file = subst (λ (s : SpineOf Entry). HasRoom s.part met.caller met.view) (sym same) (may-draw-file hash plan object spine number kept_here who pass own met meets (event_of a) room)

    pub stands-file : (answer : FileAnswer) (new : ObjectNow) → AsksFile hash object a answer new → IsKept hash new
        → (entry : Entry) → ◌≡◌ {A = Entry} entry (entry_of who (place.File number) (event.File answer.event) (reply.File answer.reply))
        → (receipt : Receipt Entry) (after : SpineOf Entry) (pass' : PassOf Entry) → Draws now met entry receipt after pass' → Stands hash plan number who pass cell.object a receipt new after pass'
    stands-file answer new asks new_kept entry is receipt after pass' draws =
        subst (λ (c : FileCellNow). Stands hash plan number who pass c.object a receipt new after pass') view
        (file-stands hash plan object spine number kept_here who pass own met meets a proper room answer new asks new_kept entry is receipt after pass'
        (subst (λ (s : SpineOf Entry). Draws s met entry receipt after pass') same draws))
