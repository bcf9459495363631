-- What is true of a file after each of the changes that events make is true of it after any event.
use Rattle.std.proofs.Common.{◌≡◌, ℕ, ◌+◌, ◌-◌, ◌*◌, Bool, true, false, List, Option, Some, None, length, refl}
use Rattle.std.specs.Prelude.{◌==◌, nat_lt, is_some, position, take, drop, unwrap_or, if◌then◌else◌}
use Rattle.pg_bytes.specs.Order.{in_order}
use Rattle.pg_digest.specs.Kinds.{Hash}
use Rattle.cs_policy.specs.declared.access.Access.{Access}
use Rattle.cs_policy.specs.declared.flags.ProcFlags.{ProcFlags}
use Rattle.cs_policy.specs.declared.data.Data.{Data}
use Rattle.cs_policy.specs.declared.region.Region.{Region}
use Rattle.cs_policy.specs.declared.denial.Denial.{Denial}
use Rattle.cs_policy.specs.declared.file.FileEvent.{FileEvent}
use Rattle.cs_policy.specs.declared.file.FileEvent.TheVariants as event
use Rattle.cs_policy.specs.declared.file.FileReply.TheVariants as reply
use Rattle.cs_policy.specs.Data.{data_bytes}
use Rattle.cs_policy.specs.ProcFlags.{guarded}
use Rattle.cs_blob.specs.Signature.{Signature}
use Rattle.pg_regions.specs.Lookups.{region_of, region_before}
use Rattle.pg_plain.specs.PlainFile.{PlainFile, region_with, may_read, may_write, may_execute, has_copy, is_resident}
use Rattle.pg_plain.specs.Covers.{share_a_page}
use Rattle.pg_plain.specs.Verdict.{verdict_without_bytes, rule_of_bytes, verdict}
use Rattle.pg_plain.specs.Calls.{page_calls, failed_page}
use Rattle.pg_plain.specs.Given.{unmapped, without_page, given_page}
use Rattle.pg_plain.specs.Steps.{Answer, attach, is_same_blob, add_blob_by, add_given_blob, written, write_by, without_regions, denied_or, failed_or, left_for, read_fails, write_fails, give, enter_region, seen_by, put_copy, put_page, stored, evict_by, file_step}

-- It is true of the file, and after each change that this event may make.
pub record Closed (file : PlainFile) (P : PlainFile → Type 0) (e : FileEvent) : Type 0 where
  pub itself : P file
  pub attached : (slice : ℕ) (cdhash : List ℕ) (read lookup number : ℕ) (blob : Signature) → e ≡ event.AddBlob slice cdhash read lookup → P (attach file number blob)
  pub written_over : (at : ℕ) (piece : Data) (bytes : List ℕ) → e ≡ event.Write at piece → P (written file at bytes)
  pub mapped : (region : Region) (insert : ℕ) → e ≡ event.AddRegion region insert → P (record file { regions = in_order region_before region file.regions })
  pub dropped : (id : ℕ) → e ≡ event.DropRegion id → P (without_regions (λ region. region.id == id) file)
  pub dropped_all : (pid : ℕ) → e ≡ event.DropPid pid → P (without_regions (λ region. region.pid == pid) file)
  pub given : (id page : ℕ) (access : Access) (flags : ProcFlags) (resolve : ℕ) (region : Region) → e ≡ event.Enter id page access flags resolve
      → region_with file id page ≡ Some region → P (given_page region page access (guarded flags) file)
  pub stored_copy : (id page at : ℕ) (bytes : List ℕ) (resolve : ℕ) → e ≡ event.Store id page at bytes resolve → P (put_copy file id page at bytes)
  pub stored_page : (id page at : ℕ) (bytes : List ℕ) (resolve : ℕ) → e ≡ event.Store id page at bytes resolve → P (put_page file page at bytes)
  pub left : (page : ℕ) → e ≡ event.Evict page → P (record file { residents = without_page page file.residents; records = unmapped page file })

module _ (hash : Hash) (file : PlainFile) (P : PlainFile → Type 0) where
  either : (b : Bool) (one other : Answer) → P one.1 → P other.1 → P (if b then one else other).1
  either true one other first second = first
  either false one other first second = second

  either_file : (b : Bool) (one other : PlainFile) → P one → P other → P (if b then one else other)
  either_file true one other first second = first
  either_file false one other first second = second

  denied : (denial : Option Denial) (other : Answer) → P file → P other.1 → P (denied_or denial file other).1
  denied None other this rest = rest
  denied (Some denial) other this rest = this

  failed : (fails : Bool) (page : ℕ) (other : Answer) → P file → P other.1 → P (failed_or fails page file other).1
  failed true page other this rest = this
  failed false page other this rest = rest

  pub enter_leaves : (found : Option Region) (id page : ℕ) (access : Access) (under : Bool) (outcome : ℕ) → P file
      → ((region : Region) → found ≡ Some region → P (given_page region page access under file)) → P (enter_region hash found file id page access under outcome).1
  enter_leaves None id page access under outcome this given = this
  enter_leaves (Some region) id page access true outcome this given =
      denied (verdict_without_bytes file region page access)
      (failed_or (read_fails file region page outcome) page file (denied_or (rule_of_bytes hash file page access) file (failed_or (write_fails file region page outcome) (unwrap_or (left_for file page) page) file (give file region page access true None)))) this
      (failed (read_fails file region page outcome) page
      (denied_or (rule_of_bytes hash file page access) file (failed_or (write_fails file region page outcome) (unwrap_or (left_for file page) page) file (give file region page access true None))) this
      (denied (rule_of_bytes hash file page access) (failed_or (write_fails file region page outcome) (unwrap_or (left_for file page) page) file (give file region page access true None)) this
      (failed (write_fails file region page outcome) (unwrap_or (left_for file page) page) (give file region page access true None) this (given region refl))))
  enter_leaves (Some region) id page access false outcome this given =
      failed (read_fails file region page outcome) page
      (failed_or (write_fails file region page outcome) (unwrap_or (left_for file page) page) file (give file region page access false (verdict hash file region page access))) this
      (failed (write_fails file region page outcome) (unwrap_or (left_for file page) page) (give file region page access false (verdict hash file region page access)) this (given region refl))

  blob_leaves : (same other : Option ℕ) (slice : ℕ) (blob : Signature) → P file → P (attach file slice blob) → P (add_blob_by same other file slice blob).1
  blob_leaves (Some same) other slice blob this attached = this
  blob_leaves None (Some other) slice blob this attached = this
  blob_leaves None None slice blob this attached = attached

  given_blob_leaves : (slice : ℕ) (cdhash : List ℕ) (blob : Option Signature) → P file → ((b : Signature) → P (attach file slice b)) → P (add_given_blob file slice cdhash blob).1
  given_blob_leaves slice cdhash None this attached = this
  given_blob_leaves slice cdhash (Some blob) this attached =
      blob_leaves (position (is_same_blob slice cdhash) file.blobs) (position (λ a. share_a_page file.page_size a.signature blob) file.blobs) slice blob this (attached blob)

  write_leaves : (stop : Option ℕ) (at : ℕ) (bytes : List ℕ) → ((piece : List ℕ) → P (written file at piece)) → P (write_by stop file at bytes).1
  write_leaves None at bytes over = over bytes
  write_leaves (Some page) at bytes over = over (take (page * file.page_size - at) bytes)

  evict_leaves : (stop : Option ℕ) (page : ℕ) → P file → P (record file { residents = without_page page file.residents; records = unmapped page file }) → P (evict_by stop file page).1
  evict_leaves (Some other) page this left = this
  evict_leaves None page this left = left

  pub step_leaves : (e : FileEvent) (blob : Option Signature) (outcome : ℕ) → Closed file P e → P (file_step hash file e blob outcome).1
  step_leaves (event.ReadSignature slice) blob outcome c = c.itself
  step_leaves (event.AddBlob slice cdhash read lookup) blob outcome c =
      given_blob_leaves slice cdhash blob c.itself (λ b. c.attached slice cdhash read lookup slice b refl)
  step_leaves (event.RefuseBlob read refusal) blob outcome c = c.itself
  step_leaves (event.Write at piece) blob outcome c =
      either (nat_lt file.length (at + length (data_bytes piece))) (reply.PastEnd file.length, file)
      (write_by (failed_page (page_calls hash file (event.Write at piece)) outcome) file at (data_bytes piece)) c.itself
      (write_leaves (failed_page (page_calls hash file (event.Write at piece)) outcome) at (data_bytes piece) (λ bytes. c.written_over at piece bytes refl))
  step_leaves (event.AddRegion region insert) blob outcome c =
      either_file (is_some (region_of file.regions region.id)) file (record file { regions = in_order region_before region file.regions }) c.itself (c.mapped region insert refl)
  step_leaves (event.DropRegion id) blob outcome c =
      either (is_some (region_of file.regions id)) (reply.Dropped, without_regions (λ region. region.id == id) file) (reply.NoRegion id, file) (c.dropped id refl) c.itself
  step_leaves (event.DropPid pid) blob outcome c = c.dropped_all pid refl
  step_leaves (event.Enter id page access flags resolve) blob outcome c =
      enter_leaves (region_with file id page) id page access (guarded flags) outcome c.itself (λ region found. c.given id page access flags resolve region refl found)
  step_leaves (event.Store id page at bytes resolve) blob outcome c =
      either (may_write file id page) (reply.Stored, stored file id page at bytes) (reply.NotMapped, file)
      (either_file (has_copy file id page) (put_copy file id page at bytes) (put_page file page at bytes) (c.stored_copy id page at bytes resolve refl) (c.stored_page id page at bytes resolve refl)) c.itself
  step_leaves (event.Load id page at count resolve) blob outcome c =
      either (may_read file id page) (reply.Got (take count (drop at (seen_by file id page))), file) (reply.NotMapped, file) c.itself c.itself
  step_leaves (event.Fetch id page at count resolve) blob outcome c =
      either (may_execute file id page) (reply.Got (take count (drop at (seen_by file id page))), file) (reply.NotMapped, file) c.itself c.itself
  step_leaves (event.Evict page) blob outcome c =
      either (is_resident file page) (evict_by (failed_page (page_calls hash file (event.Evict page)) outcome) file page) (reply.NotResident, file)
      (evict_leaves (failed_page (page_calls hash file (event.Evict page)) outcome) page c.itself (c.left page refl)) c.itself
