-- What a file answers is a reply of the event, and says only what is so of the file.
use Rattle.std.proofs.Common.{◌≡◌, ℕ, true, List, [], length, Option, Some, None, refl, sym, ap, subst, ◌∙◌, arith}
use Rattle.std.specs.Prelude.{IsTrue, IsSome, slice_get}
use Rattle.std.specs.Option.{option_and_then}
use Rattle.std.proofs.lemmas.Grind.{common_steps}
use Rattle.pg_bytes.specs.declared.fields.Range.{Range}
use Rattle.pg_digest.specs.Kinds.{Hash}
use Rattle.cs_policy.specs.declared.layout.Layout.{Layout}
use Rattle.cs_policy.specs.declared.layout.Layout.TheVariants as layout
use Rattle.cs_policy.specs.declared.layout.SliceSeat.{SliceSeat}
use Rattle.cs_policy.specs.declared.layout.SliceSeat.TheVariants as seat
use Rattle.cs_policy.specs.declared.file.FileEvent.{FileEvent}
use Rattle.cs_policy.specs.declared.file.FileEvent.TheVariants as file
use Rattle.cs_policy.specs.declared.file.FileReply.{FileReply}
use Rattle.cs_policy.specs.declared.file.FileReply.TheVariants as file_reply
use Rattle.cs_policy.specs.Entry.{HoldsReplyBytes}
use Rattle.cs_blob.specs.Signature.{Signature}
use Rattle.cs_blob.specs.Signed.{signature}
use Rattle.pg_plain.specs.PlainFile.{PlainFile, bytes_of_file}
use Rattle.pg_plain.specs.Calls.{page_calls, failed_page}
use Rattle.pg_plain.specs.Steps.{Answer, read_or_fault, read_slice, read_of, file_step}
use Rattle.pg_plain.specs.Replies.{is_reply_to}
use Rattle.pg_plain.proofs.ReplyFacts.{step_answers}
use Rattle.pg_object.specs.Object.{ObjectNow, seen}
use Rattle.pg_object.specs.Acts.{Acts}
use Rattle.pg_history.specs.Machine.{signed_range, slice_read}
use Rattle.pg_history.specs.Opening.{Numbers, FileNumbers, range_of, seat_in}
use Rattle.pg_calls.specs.Replies.{FileAgrees}
use Rattle.pg_parts.specs.Asking.{MayAskPlain}

-- ---- a reply of the event

-- some signature
some_blob : Hash → Signature
some_blob hash = signature hash [] (record { at = 0; len = 0 }) None

-- what attaches no signature needs none
without_blob : (hash : Hash) (object : ObjectNow) (plain : PlainFile) (e : FileEvent) (blob : Signature) (outcome : ℕ) → MayAskPlain object e
    → ◌≡◌ {A = Answer} (file_step hash plain e None outcome) (file_step hash plain e (Some blob) outcome)
without_blob hash object plain (file.AddBlob slice cdhash read lookup) blob outcome may = absurd may
without_blob hash object plain (file.ReadSignature slice) blob outcome may = refl
without_blob hash object plain (file.RefuseBlob read refusal) blob outcome may = refl
without_blob hash object plain (file.Write at piece) blob outcome may = refl
without_blob hash object plain (file.AddRegion region insert) blob outcome may = refl
without_blob hash object plain (file.DropRegion id) blob outcome may = refl
without_blob hash object plain (file.DropPid pid) blob outcome may = refl
without_blob hash object plain (file.Enter id page access flags resolve) blob outcome may = refl
without_blob hash object plain (file.Store id page at bytes resolve) blob outcome may = refl
without_blob hash object plain (file.Load id page at count resolve) blob outcome may = refl
without_blob hash object plain (file.Fetch id page at count resolve) blob outcome may = refl
without_blob hash object plain (file.Evict page) blob outcome may = refl

pub plain-answers : (hash : Hash) (old new : ObjectNow) (e : FileEvent) (answer : FileReply) → MayAskPlain old e → Acts hash old e None answer new
    → IsTrue (is_reply_to e answer)
plain-answers hash old new e answer may acts =
    subst (λ r. is_reply_to e r ≡ true) (sym (ap (λ (a : FileReply × PlainFile). a.0) acts.step))
    (subst (λ (a : Answer). is_reply_to e a.0 ≡ true) (sym (without_blob hash old (seen old acts.pages) e (some_blob hash) acts.outcome may))
    (step_answers hash (seen old acts.pages) e (some_blob hash) acts.outcome))

pub blob-answers : (hash : Hash) (old new : ObjectNow) (e : FileEvent) (blob : Signature) (answer : FileReply) → Acts hash old e (Some blob) answer new
    → IsTrue (is_reply_to e answer)
blob-answers hash old new e blob answer acts =
    subst (λ r. is_reply_to e r ≡ true) (sym (ap (λ (a : FileReply × PlainFile). a.0) acts.step))
    (step_answers hash (seen old acts.pages) e blob acts.outcome)

-- the bytes of a signature are replied to a reading alone
pub holds-none : (e : FileEvent) (answer : FileReply) → slice_read e ≡ None → IsTrue (is_reply_to e answer) → HoldsReplyBytes answer → ⊥
holds-none e (file_reply.Read bytes) unread is holds = by_event e unread is
  where
    by_event : (v : FileEvent) → slice_read v ≡ None → is_reply_to v (file_reply.Read bytes) ≡ true → ⊥
    by_event (file.ReadSignature slice) n r = absurd (grind (arith, common_steps, n))
    by_event (file.AddBlob slice cdhash read lookup) n r = absurd (grind (arith, common_steps, r))
    by_event (file.RefuseBlob read refusal) n r = absurd (grind (arith, common_steps, r))
    by_event (file.Write at piece) n r = absurd (grind (arith, common_steps, r))
    by_event (file.AddRegion region insert) n r = absurd (grind (arith, common_steps, r))
    by_event (file.DropRegion id) n r = absurd (grind (arith, common_steps, r))
    by_event (file.DropPid pid) n r = absurd (grind (arith, common_steps, r))
    by_event (file.Enter id page access flags resolve) n r = absurd (grind (arith, common_steps, r))
    by_event (file.Store id page at bytes resolve) n r = absurd (grind (arith, common_steps, r))
    by_event (file.Load id page at count resolve) n r = absurd (grind (arith, common_steps, r))
    by_event (file.Fetch id page at count resolve) n r = absurd (grind (arith, common_steps, r))
    by_event (file.Evict page) n r = absurd (grind (arith, common_steps, r))
holds-none e (file_reply.NoSlices refusal) unread is holds = holds
holds-none e (file_reply.NoSlice count) unread is holds = holds
holds-none e (file_reply.NoImage refusal) unread is holds = holds
holds-none e (file_reply.PagerFault page) unread is holds = holds
holds-none e (file_reply.Already blob) unread is holds = holds
holds-none e (file_reply.Overlap blob) unread is holds = holds
holds-none e (file_reply.Attached blob) unread is holds = holds
holds-none e file_reply.Noted unread is holds = holds
holds-none e (file_reply.PastEnd length) unread is holds = holds
holds-none e (file_reply.Short written) unread is holds = holds
holds-none e (file_reply.Written count) unread is holds = holds
holds-none e file_reply.Added unread is holds = holds
holds-none e (file_reply.NoRegion id) unread is holds = holds
holds-none e file_reply.Dropped unread is holds = holds
holds-none e (file_reply.DroppedAll count) unread is holds = holds
holds-none e (file_reply.Denied denial) unread is holds = holds
holds-none e (file_reply.Given left noted) unread is holds = holds
holds-none e file_reply.NotMapped unread is holds = holds
holds-none e file_reply.Stored unread is holds = holds
holds-none e (file_reply.Got bytes) unread is holds = holds
holds-none e file_reply.NotResident unread is holds = holds
holds-none e file_reply.Evicted unread is holds = holds

-- ---- what it says

module _ (numbers : Numbers) (number slice : ℕ) (plain : PlainFile) where
  fault_agrees : (range : Range) (failed : Option ℕ) (bytes : List ℕ) → range_of numbers number slice ≡ Some range
      → FileAgrees numbers number (file.ReadSignature slice) (read_or_fault failed bytes)
  fault_agrees range None bytes e = subst (λ o. IsSome o) (sym e) refl
  fault_agrees range (Some page) bytes e = tt

  slice_agrees : (count : ℕ) (found : Option SliceSeat) (failed : Option ℕ) → range_of numbers number slice ≡ signed_range found
      → FileAgrees numbers number (file.ReadSignature slice) (read_slice plain count found failed)
  slice_agrees count None failed e = tt
  slice_agrees count (Some (seat.Refused refusal)) failed e = tt
  slice_agrees count (Some (seat.Signed range sig)) failed e = fault_agrees range failed (bytes_of_file plain sig.at sig.len) e

  reading_agrees : (l : Layout) (failed : Option ℕ) → range_of numbers number slice ≡ signed_range (seat_in slice l)
      → FileAgrees numbers number (file.ReadSignature slice) (read_of plain l slice failed)
  reading_agrees (layout.Refused refusal) failed e = tt
  reading_agrees (layout.Slices seats) failed e = slice_agrees (length seats) (slice_get seats slice) failed e

-- the range of a slice, by the layout of its file
pub range-by : (numbers : Numbers) (number slice : ℕ) (known : FileNumbers) → slice_get numbers.files number ≡ Some known
    → range_of numbers number slice ≡ signed_range (seat_in slice known.layout)
range-by numbers number slice known there = ap (λ o. signed_range (option_and_then (λ (k : FileNumbers). seat_in slice k.layout) o)) there

pub file-agrees : (hash : Hash) (old new : ObjectNow) (e : FileEvent) (blob : Option Signature) (answer : FileReply) (numbers : Numbers) (number : ℕ) (known : FileNumbers)
    → Acts hash old e blob answer new → slice_get numbers.files number ≡ Some known → known.layout ≡ old.layout → FileAgrees numbers number e answer
file-agrees hash old new (file.ReadSignature slice) blob answer numbers number known acts there same =
    subst (FileAgrees numbers number (file.ReadSignature slice)) (sym (ap (λ (a : FileReply × PlainFile). a.0) acts.step))
    (reading_agrees numbers number slice (seen old acts.pages) old.layout
    (failed_page (page_calls hash (seen old acts.pages) (file.ReadSignature slice)) acts.outcome)
    (range-by numbers number slice known there ∙ ap (λ l. signed_range (seat_in slice l)) same))
file-agrees hash old new (file.AddBlob slice cdhash read lookup) blob answer numbers number known acts there same = tt
file-agrees hash old new (file.RefuseBlob read refusal) blob answer numbers number known acts there same = tt
file-agrees hash old new (file.Write at piece) blob answer numbers number known acts there same = tt
file-agrees hash old new (file.AddRegion region insert) blob answer numbers number known acts there same = tt
file-agrees hash old new (file.DropRegion id) blob answer numbers number known acts there same = tt
file-agrees hash old new (file.DropPid pid) blob answer numbers number known acts there same = tt
file-agrees hash old new (file.Enter id page access flags resolve) blob answer numbers number known acts there same = tt
file-agrees hash old new (file.Store id page at bytes resolve) blob answer numbers number known acts there same = tt
file-agrees hash old new (file.Load id page at count resolve) blob answer numbers number known acts there same = tt
file-agrees hash old new (file.Fetch id page at count resolve) blob answer numbers number known acts there same = tt
file-agrees hash old new (file.Evict page) blob answer numbers number known acts there same = tt
