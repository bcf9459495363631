-- Whatever happens to a file leaves what is true of every file.
use Rattle.std.proofs.Common.{◌≡◌, ℕ, ◌+◌, ◌-◌, ◌*◌, Bool, true, false, List, Option, Some, None, length, refl, sym, ap, subst, ◌∙◌, arith}
use Rattle.std.specs.Prelude.{◌==◌, nat_lt, IsTrue, IfSome, is_some, position, take, drop, unwrap_or, if◌then◌else◌}
use Rattle.std.specs.Option.{option_or}
use Rattle.std.proofs.lemmas.Grind.{common_steps}
use Rattle.pg_digest.specs.Kinds.{Hash}
use Rattle.cs_policy.specs.declared.access.Access.{Access}
use Rattle.cs_policy.specs.declared.region.Region.{Region}
use Rattle.cs_policy.specs.declared.denial.Denial.{Denial}
use Rattle.cs_policy.specs.declared.file.FileEvent.{FileEvent}
use Rattle.cs_policy.specs.declared.file.FileEvent.TheVariants as event
use Rattle.cs_policy.specs.declared.file.FileReply.TheVariants as reply
use Rattle.cs_policy.specs.Data.{data_bytes}
use Rattle.cs_policy.specs.ProcFlags.{guarded}
use Rattle.cs_blob.specs.Signature.{Signature}
use Rattle.pg_regions.specs.Lookups.{region_of, region_before, is_region, has_page}
use Rattle.pg_bytes.specs.Order.{in_order}
use Rattle.pg_regions.proofs.ListFacts.{found_passes}
use Rattle.pg_plain.specs.PlainFile.{PlainFile, having, region_with, may_read, may_write, may_execute, is_resident}
use Rattle.pg_plain.specs.Covers.{share_a_page, Fits}
use Rattle.pg_plain.specs.Verdict.{verdict_without_bytes, rule_of_bytes, verdict}
use Rattle.pg_plain.specs.Calls.{page_calls, failed_page}
use Rattle.pg_plain.specs.Steps.{Answer, is_same_blob, add_blob_by, add_given_blob, write_by, denied_or, failed_or, left_for, read_fails, write_fails, give, enter_page, enter_region, stored, seen_by, without_regions, evict_by, file_step}
use Rattle.pg_plain.specs.Keep.{Keep}
use Rattle.pg_plain.proofs.FewerFacts.{fewer_keep}
use Rattle.pg_plain.proofs.LeaveFacts.{dropped_fewer, evicted_fewer}
use Rattle.pg_plain.proofs.GiveFacts.{given_keep}
use Rattle.pg_plain.proofs.ChangeFacts.{written_keep, stored_keep, with_region_keep, attach_keep}

-- ---- what an answer leaves, by its tests

module _ (hash : Hash) where
  either : (b : Bool) (one other : Answer) → (b ≡ true → Keep hash one.1) → (b ≡ false → Keep hash other.1) → Keep hash (if b then one else other).1
  either true one other first second = first refl
  either false one other first second = second refl

  denied_keep : (denial : Option Denial) (file : PlainFile) (other : Answer) → Keep hash file → (denial ≡ None → Keep hash other.1)
      → Keep hash (denied_or denial file other).1
  denied_keep None file other keep rest = rest refl
  denied_keep (Some denial) file other keep rest = keep

  failed_keep : (failed : Bool) (page : ℕ) (file : PlainFile) (other : Answer) → Keep hash file → Keep hash other.1
      → Keep hash (failed_or failed page file other).1
  failed_keep true page file other keep rest = keep
  failed_keep false page file other keep rest = rest

  -- ---- faults

  having_has : (page : ℕ) (found : Option Region) (region : Region) → having page found ≡ Some region → (found ≡ Some region) × (has_page page region ≡ true)
  having_has page None region e = absurd (grind (arith, common_steps, e))
  having_has page (Some r) region e = by_test (has_page page r) refl
    where
      by_test : (b : Bool) → has_page page r ≡ b → (Some r ≡ Some region) × (has_page page region ≡ true)
      by_test true f = (sym (ap (λ c. if c then Some r else None) f) ∙ e, grind (arith, common_steps, f, e))
      by_test false f = absurd (grind (arith, common_steps, f, e))

  page_keep : (file : PlainFile) (region : Region) (page : ℕ) (access : Access) (under : Bool) (outcome : ℕ) → Keep hash file
      → region_of file.regions region.id ≡ Some region → IsTrue (has_page page region) → Keep hash (enter_page hash file region page access under outcome).1
  page_keep file region page access true outcome keep stands has =
      denied_keep (verdict_without_bytes file region page access) file
      (failed_or (read_fails file region page outcome) page file (denied_or (rule_of_bytes hash file page access) file (failed_or (write_fails file region page outcome) (unwrap_or (left_for file page) page) file (give file region page access true None)))) keep
      (λ unread. failed_keep (read_fails file region page outcome) page file
      (denied_or (rule_of_bytes hash file page access) file (failed_or (write_fails file region page outcome) (unwrap_or (left_for file page) page) file (give file region page access true None))) keep
      (denied_keep (rule_of_bytes hash file page access) file (failed_or (write_fails file region page outcome) (unwrap_or (left_for file page) page) file (give file region page access true None)) keep
      (λ read. failed_keep (write_fails file region page outcome) (unwrap_or (left_for file page) page) file (give file region page access true None) keep
      (given_keep hash file region page access true keep stands has (λ e. ap (λ rule. option_or rule (rule_of_bytes hash file page access)) unread ∙ read)))))
  page_keep file region page access false outcome keep stands has =
      failed_keep (read_fails file region page outcome) page file
      (failed_or (write_fails file region page outcome) (unwrap_or (left_for file page) page) file (give file region page access false (verdict hash file region page access))) keep
      (failed_keep (write_fails file region page outcome) (unwrap_or (left_for file page) page) file (give file region page access false (verdict hash file region page access)) keep
      (given_keep hash file region page access false keep stands has (λ e. absurd (grind (arith, common_steps, e)))))

  same_id : (id : ℕ) (region : Region) → is_region id region ≡ true → id ≡ region.id
  same_id id region e = grind (arith, common_steps, e)

  region_keep : (file : PlainFile) (id page : ℕ) (access : Access) (under : Bool) (outcome : ℕ) → Keep hash file → (found : Option Region)
      → region_with file id page ≡ found → Keep hash (enter_region hash found file id page access under outcome).1
  region_keep file id page access under outcome keep None e = keep
  region_keep file id page access under outcome keep (Some region) e =
      let there = having_has page (region_of file.regions id) region e in
      page_keep file region page access under outcome keep
      (subst (λ i. region_of file.regions i ≡ Some region) (same_id id region (found_passes (is_region id) file.regions region there.0)) there.0)
      there.1

  -- ---- the others

  blob_keep : (file : PlainFile) (slice : ℕ) (blob : Signature) (same other : Option ℕ) → Keep hash file → Fits file.page_size blob
      → position (λ attached. share_a_page file.page_size attached.signature blob) file.blobs ≡ other → Keep hash (add_blob_by same other file slice blob).1
  blob_keep file slice blob (Some same) other keep fits e = keep
  blob_keep file slice blob None (Some other) keep fits e = keep
  blob_keep file slice blob None None keep fits e = attach_keep hash file slice blob keep fits e

  given_blob_keep : (file : PlainFile) (slice : ℕ) (cdhash : List ℕ) (blob : Option Signature) → Keep hash file → IfSome blob (Fits file.page_size) → Keep hash (add_given_blob file slice cdhash blob).1
  given_blob_keep file slice cdhash None keep fits = keep
  given_blob_keep file slice cdhash (Some blob) keep fits =
      blob_keep file slice blob (position (is_same_blob slice cdhash) file.blobs) (position (λ attached. share_a_page file.page_size attached.signature blob) file.blobs) keep fits refl

  write_by_keep : (failed : Option ℕ) (file : PlainFile) (at : ℕ) (bytes : List ℕ) → Keep hash file → Keep hash (write_by failed file at bytes).1
  write_by_keep None file at bytes keep = written_keep hash file at bytes keep
  write_by_keep (Some page) file at bytes keep = written_keep hash file at (take (page * file.page_size - at) bytes) keep

  evict_by_keep : (failed : Option ℕ) (file : PlainFile) (page : ℕ) → Keep hash file → Keep hash (evict_by failed file page).1
  evict_by_keep (Some other) file page keep = keep
  evict_by_keep None file page keep = fewer_keep hash file (evict_by None file page).1 (evicted_fewer hash file page keep) keep

  dropped_keep : (file : PlainFile) (goes : Region → Bool) → Keep hash file → Keep hash (without_regions goes file)
  dropped_keep file goes keep = fewer_keep hash file (without_regions goes file) (dropped_fewer hash goes file keep) keep

  region_added_keep : (file : PlainFile) (region : Region) → Keep hash file → (there : Bool) → is_some (region_of file.regions region.id) ≡ there
      → Keep hash (if there then file else record file { regions = in_order region_before region file.regions })
  region_added_keep file region keep true e = keep
  region_added_keep file region keep false e = with_region_keep hash file region keep e

  pub step_keep : (file : PlainFile) (e : FileEvent) (blob : Option Signature) (outcome : ℕ) → Keep hash file → IfSome blob (Fits file.page_size) → Keep hash (file_step hash file e blob outcome).1
  step_keep file (event.ReadSignature slice) blob outcome keep fits = keep
  step_keep file (event.AddBlob slice cdhash read lookup) blob outcome keep fits = given_blob_keep file slice cdhash blob keep fits
  step_keep file (event.RefuseBlob read refusal) blob outcome keep fits = keep
  step_keep file (event.Write at piece) blob outcome keep fits =
      either (nat_lt file.length (at + length (data_bytes piece))) (reply.PastEnd file.length, file) (write_by (failed_page (page_calls hash file (event.Write at piece)) outcome) file at (data_bytes piece))
      (λ e. keep) (λ e. write_by_keep (failed_page (page_calls hash file (event.Write at piece)) outcome) file at (data_bytes piece) keep)
  step_keep file (event.AddRegion region insert) blob outcome keep fits = region_added_keep file region keep (is_some (region_of file.regions region.id)) refl
  step_keep file (event.DropRegion id) blob outcome keep fits =
      either (is_some (region_of file.regions id)) (reply.Dropped, without_regions (λ region. region.id == id) file) (reply.NoRegion id, file)
      (λ e. dropped_keep file (λ region. region.id == id) keep) (λ e. keep)
  step_keep file (event.DropPid pid) blob outcome keep fits = dropped_keep file (λ region. region.pid == pid) keep
  step_keep file (event.Enter id page access flags resolve) blob outcome keep fits =
      region_keep file id page access (guarded flags) outcome keep (region_with file id page) refl
  step_keep file (event.Store id page at bytes resolve) blob outcome keep fits =
      either (may_write file id page) (reply.Stored, stored file id page at bytes) (reply.NotMapped, file)
      (λ e. stored_keep hash file id page at bytes keep e) (λ e. keep)
  step_keep file (event.Load id page at count resolve) blob outcome keep fits =
      either (may_read file id page) (reply.Got (take count (drop at (seen_by file id page))), file) (reply.NotMapped, file) (λ e. keep) (λ e. keep)
  step_keep file (event.Fetch id page at count resolve) blob outcome keep fits =
      either (may_execute file id page) (reply.Got (take count (drop at (seen_by file id page))), file) (reply.NotMapped, file) (λ e. keep) (λ e. keep)
  step_keep file (event.Evict page) blob outcome keep fits =
      either (is_resident file page) (evict_by (failed_page (page_calls hash file (event.Evict page)) outcome) file page) (reply.NotResident, file)
      (λ e. evict_by_keep (failed_page (page_calls hash file (event.Evict page)) outcome) file page keep) (λ e. keep)
