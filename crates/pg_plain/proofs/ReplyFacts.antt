-- A file answers an event by one of its replies.
use Rattle.std.proofs.Common.{◌≡◌, ℕ, ◌+◌, ◌-◌, ◌*◌, Bool, true, false, List, Option, Some, None, length, refl}
use Rattle.std.specs.Prelude.{◌==◌, nat_lt, is_some, position, slice_get, take, drop, unwrap_or, if◌then◌else◌}
use Rattle.pg_digest.specs.Kinds.{Hash}
use Rattle.cs_policy.specs.declared.access.Access.{Access}
use Rattle.cs_policy.specs.declared.flags.ProcFlags.{ProcFlags}
use Rattle.cs_policy.specs.declared.region.Region.{Region}
use Rattle.cs_policy.specs.declared.denial.Denial.{Denial}
use Rattle.cs_policy.specs.declared.layout.Layout.{Layout}
use Rattle.cs_policy.specs.declared.layout.Layout.TheVariants as layout
use Rattle.cs_policy.specs.declared.layout.SliceSeat.{SliceSeat}
use Rattle.cs_policy.specs.declared.layout.SliceSeat.TheVariants as seat
use Rattle.cs_policy.specs.declared.file.FileEvent.{FileEvent}
use Rattle.cs_policy.specs.declared.file.FileEvent.TheVariants as event
use Rattle.cs_policy.specs.declared.file.FileReply.TheVariants as reply
use Rattle.cs_policy.specs.Data.{data_bytes}
use Rattle.cs_policy.specs.ProcFlags.{guarded}
use Rattle.cs_blob.specs.Signature.{Signature}
use Rattle.pg_regions.specs.Lookups.{region_of}
use Rattle.pg_plain.specs.PlainFile.{PlainFile, bytes_of_file, region_with, may_read, may_write, may_execute, is_resident}
use Rattle.pg_plain.specs.Covers.{share_a_page}
use Rattle.pg_plain.specs.Verdict.{verdict_without_bytes, rule_of_bytes, verdict}
use Rattle.pg_plain.specs.Calls.{page_calls, failed_page}
use Rattle.pg_plain.specs.Steps.{Answer, read_or_fault, read_slice, read_of, stored, seen_by, without_regions, is_same_blob, add_blob_by, write_by, denied_or, failed_or, left_for, read_fails, write_fails, give, enter_region, evict_by, file_step}
use Rattle.pg_plain.specs.Replies.{is_reply_to}

-- the answer's reply is one of the event's
abbrev Answers : FileEvent → Answer → Type 0
Answers e answer = is_reply_to e answer.0 ≡ true

either : (e : FileEvent) (b : Bool) (one other : Answer) → Answers e one → Answers e other → Answers e (if b then one else other)
either e true one other first second = first
either e false one other first second = second

module _ (id page : ℕ) (access : Access) (flags : ProcFlags) (resolve : ℕ) where
  abbrev fault : FileEvent
  fault = event.Enter id page access flags resolve

  denied : (denial : Option Denial) (file : PlainFile) (other : Answer) → Answers fault other → Answers fault (denied_or denial file other)
  denied None file other rest = rest
  denied (Some denial) file other rest = refl

  failed : (fails : Bool) (which : ℕ) (file : PlainFile) (other : Answer) → Answers fault other → Answers fault (failed_or fails which file other)
  failed true which file other rest = refl
  failed false which file other rest = rest

  pub fault_answers : (hash : Hash) (found : Option Region) (file : PlainFile) (under : Bool) (outcome : ℕ)
      → Answers fault (enter_region hash found file id page access under outcome)
  fault_answers hash None file under outcome = refl
  fault_answers hash (Some region) file true outcome =
      denied (verdict_without_bytes file region page access) file
      (failed_or (read_fails file region page outcome) page file (denied_or (rule_of_bytes hash file page access) file (failed_or (write_fails file region page outcome) (unwrap_or (left_for file page) page) file (give file region page access true None))))
      (failed (read_fails file region page outcome) page file
      (denied_or (rule_of_bytes hash file page access) file (failed_or (write_fails file region page outcome) (unwrap_or (left_for file page) page) file (give file region page access true None)))
      (denied (rule_of_bytes hash file page access) file (failed_or (write_fails file region page outcome) (unwrap_or (left_for file page) page) file (give file region page access true None))
      (failed (write_fails file region page outcome) (unwrap_or (left_for file page) page) file (give file region page access true None) refl)))
  fault_answers hash (Some region) file false outcome =
      failed (read_fails file region page outcome) page file
      (failed_or (write_fails file region page outcome) (unwrap_or (left_for file page) page) file (give file region page access false (verdict hash file region page access)))
      (failed (write_fails file region page outcome) (unwrap_or (left_for file page) page) file (give file region page access false (verdict hash file region page access)) refl)

blob_answers : (same other : Option ℕ) (file : PlainFile) (slice : ℕ) (cdhash : List ℕ) (read lookup : ℕ) (blob : Signature)
    → Answers (event.AddBlob slice cdhash read lookup) (add_blob_by same other file slice blob)
blob_answers (Some same) other file slice cdhash read lookup blob = refl
blob_answers None (Some other) file slice cdhash read lookup blob = refl
blob_answers None None file slice cdhash read lookup blob = refl

write_answers : (failing : Option ℕ) (file : PlainFile) (at : ℕ) (e : FileEvent) (bytes : List ℕ) → ((count : ℕ) → is_reply_to e (reply.Written count) ≡ true)
    → ((count : ℕ) → is_reply_to e (reply.Short count) ≡ true) → Answers e (write_by failing file at bytes)
write_answers None file at e bytes whole part = whole (length bytes)
write_answers (Some page) file at e bytes whole part = part (page * file.page_size - at)

evict_answers : (failing : Option ℕ) (file : PlainFile) (page : ℕ) → Answers (event.Evict page) (evict_by failing file page)
evict_answers (Some other) file page = refl
evict_answers None file page = refl

read_fault_answers : (slice : ℕ) (failing : Option ℕ) (bytes : List ℕ) → is_reply_to (event.ReadSignature slice) (read_or_fault failing bytes) ≡ true
read_fault_answers slice None bytes = refl
read_fault_answers slice (Some page) bytes = refl

slice_answers : (file : PlainFile) (slice count : ℕ) (found : Option SliceSeat) (failing : Option ℕ)
    → is_reply_to (event.ReadSignature slice) (read_slice file count found failing) ≡ true
slice_answers file slice count None failing = refl
slice_answers file slice count (Some (seat.Refused refusal)) failing = refl
slice_answers file slice count (Some (seat.Signed at sig)) failing = read_fault_answers slice failing (bytes_of_file file sig.at sig.len)

read_answers : (file : PlainFile) (slice : ℕ) (seats : Layout) (failing : Option ℕ) → is_reply_to (event.ReadSignature slice) (read_of file seats slice failing) ≡ true
read_answers file slice (layout.Refused refusal) failing = refl
read_answers file slice (layout.Slices seats) failing = slice_answers file slice (length seats) (slice_get seats slice) failing

pub step_answers : (hash : Hash) (file : PlainFile) (e : FileEvent) (blob : Signature) (outcome : ℕ) → Answers e (file_step hash file e (Some blob) outcome)
step_answers hash file (event.ReadSignature slice) blob outcome =
    read_answers file slice file.layout (failed_page (page_calls hash file (event.ReadSignature slice)) outcome)
step_answers hash file (event.AddBlob slice cdhash read lookup) blob outcome =
    blob_answers (position (is_same_blob slice cdhash) file.blobs) (position (λ attached. share_a_page file.page_size attached.signature blob) file.blobs) file slice cdhash read lookup blob
step_answers hash file (event.RefuseBlob read refusal) blob outcome = refl
step_answers hash file (event.Write at piece) blob outcome =
    either (event.Write at piece) (nat_lt file.length (at + length (data_bytes piece))) (reply.PastEnd file.length, file) (write_by (failed_page (page_calls hash file (event.Write at piece)) outcome) file at (data_bytes piece))
    refl (write_answers (failed_page (page_calls hash file (event.Write at piece)) outcome) file at (event.Write at piece) (data_bytes piece) (λ count. refl) (λ count. refl))
step_answers hash file (event.AddRegion region insert) blob outcome = refl
step_answers hash file (event.DropRegion id) blob outcome =
    either (event.DropRegion id) (is_some (region_of file.regions id)) (reply.Dropped, without_regions (λ region. region.id == id) file) (reply.NoRegion id, file) refl refl
step_answers hash file (event.DropPid pid) blob outcome = refl
step_answers hash file (event.Enter id page access flags resolve) blob outcome =
    fault_answers id page access flags resolve hash (region_with file id page) file (guarded flags) outcome
step_answers hash file (event.Store id page at bytes resolve) blob outcome =
    either (event.Store id page at bytes resolve) (may_write file id page) (reply.Stored, stored file id page at bytes) (reply.NotMapped, file) refl refl
step_answers hash file (event.Load id page at count resolve) blob outcome =
    either (event.Load id page at count resolve) (may_read file id page) (reply.Got (take count (drop at (seen_by file id page))), file) (reply.NotMapped, file) refl refl
step_answers hash file (event.Fetch id page at count resolve) blob outcome =
    either (event.Fetch id page at count resolve) (may_execute file id page) (reply.Got (take count (drop at (seen_by file id page))), file) (reply.NotMapped, file) refl refl
step_answers hash file (event.Evict page) blob outcome =
    either (event.Evict page) (is_resident file page) (evict_by (failed_page (page_calls hash file (event.Evict page)) outcome) file page) (reply.NotResident, file)
    (evict_answers (failed_page (page_calls hash file (event.Evict page)) outcome) file page) refl
