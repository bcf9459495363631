-- The pages of a file are its content.
use Rattle.std.proofs.Common.{◌≡◌, ℕ, suc, ◌+◌, Bool, true, false, List, [], ◌∷◌, Option, Some, None, length, refl, sym, ap, ◌∙◌, arith}
use Rattle.std.specs.Prelude.{◌==◌, IsSomeAnd, IsTrue, nat_lt, is_some, position, take, drop, unwrap_or, if◌then◌else◌}
use Rattle.std.specs.Option.{option_map_or}
use Rattle.std.proofs.lemmas.Grind.{common_steps}
use Rattle.pg_bytes.specs.Order.{in_order}
use Rattle.pg_digest.specs.Kinds.{Hash}
use Rattle.cs_policy.specs.declared.access.Access.{Access}
use Rattle.cs_policy.specs.declared.access.Access.TheVariants.{Read, Write, Execute}
use Rattle.cs_policy.specs.declared.region.Region.{Region}
use Rattle.cs_policy.specs.declared.denial.Denial.{Denial}
use Rattle.cs_policy.specs.declared.file.FileEvent.{FileEvent}
use Rattle.cs_policy.specs.declared.file.FileEvent.TheVariants as event
use Rattle.cs_policy.specs.declared.file.FileReply.TheVariants as reply
use Rattle.cs_policy.specs.Data.{data_bytes}
use Rattle.cs_policy.specs.ProcFlags.{guarded}
use Rattle.cs_blob.specs.Signature.{Signature}
use Rattle.pg_regions.specs.Lookups.{region_of, region_before, has_page, is_shared}
use Rattle.pg_plain.specs.PlainFile.{PlainFile, region_with, page_of, has_copy, may_read, may_write, may_execute, is_resident}
use Rattle.pg_plain.specs.Covers.{share_a_page}
use Rattle.pg_plain.specs.Verdict.{verdict_without_bytes, rule_of_bytes, verdict}
use Rattle.pg_plain.specs.Calls.{page_calls, failed_page}
use Rattle.pg_plain.specs.Given.{put_at, at_hand, entered, granted, stripped, copied, given_page}
use Rattle.pg_plain.specs.Steps.{Answer, is_same_blob, add_blob_by, add_given_blob, written_pages, write_by, without_regions, denied_or, failed_or, left_for, read_fails, write_fails, give, enter_region, seen_by, put_copy, put_page, stored, evict_by, file_step}
use Rattle.pg_plain.specs.Content.{count_written, page_stored, content_after}
use Rattle.pg_plain.specs.Keep.{Keep}

-- where nothing is written, the pages stay
nothing_written : (size at first : ℕ) (pages : List (List ℕ)) → written_pages size at [] first pages ≡ pages
nothing_written size at first [] = refl
nothing_written size at first (page ∷ others) = ap (λ rest. page ∷ rest) (nothing_written size at (suc first) others)

-- ---- what an answer leaves of the pages, by its tests

pages_either : (b : Bool) (one other : Answer) (pages : List (List ℕ)) → one.1.pages ≡ pages → other.1.pages ≡ pages → (if b then one else other).1.pages ≡ pages
pages_either true one other pages first second = first
pages_either false one other pages first second = second

pages_denied : (denial : Option Denial) (file : PlainFile) (other : Answer) → other.1.pages ≡ file.pages → (denied_or denial file other).1.pages ≡ file.pages
pages_denied None file other rest = rest
pages_denied (Some denial) file other rest = refl

pages_failed : (failed : Bool) (page : ℕ) (file : PlainFile) (other : Answer) → other.1.pages ≡ file.pages → (failed_or failed page file other).1.pages ≡ file.pages
pages_failed true page file other rest = refl
pages_failed false page file other rest = rest

-- ---- a page that is given keeps its bytes

pages_at_hand : (region : Region) (page : ℕ) (file : PlainFile) → (at_hand region page file).pages ≡ file.pages
pages_at_hand region page file = by_copy (has_copy file region.id page)
  where
    by_copy : (copy : Bool) → (if copy then file else entered page file).pages ≡ file.pages
    by_copy true = refl
    by_copy false = refl

pages_copied : (region : Region) (page : ℕ) (file : PlainFile) → (copied region page file).pages ≡ file.pages
pages_copied region page file = by_copy (has_copy file region.id page)
  where
    by_copy : (copy : Bool) → (if copy then file else record file { copies = put_at region.id page (page_of file page) file.copies }).pages ≡ file.pages
    by_copy true = refl
    by_copy false = refl

pages_given : (region : Region) (page : ℕ) (access : Access) (under : Bool) (file : PlainFile) → (given_page region page access under file).pages ≡ file.pages
pages_given region page Read under file = pages_at_hand region page file
pages_given region page Execute under file = pages_at_hand region page file
pages_given region page Write under file = by_shared region.shared ∙ pages_at_hand region page file
  where
    by_shared : (shared : Bool)
        → (if shared then stripped page (granted region page Write under (at_hand region page file)) else copied region page (granted region page Write under (at_hand region page file))).pages
        ≡ (at_hand region page file).pages
    by_shared true = refl
    by_shared false = pages_copied region page (granted region page Write under (at_hand region page file))

pages_entered : (hash : Hash) (found : Option Region) (file : PlainFile) (id page : ℕ) (access : Access) (under : Bool) (outcome : ℕ)
    → (enter_region hash found file id page access under outcome).1.pages ≡ file.pages
pages_entered hash None file id page access under outcome = refl
pages_entered hash (Some region) file id page access true outcome =
    pages_denied (verdict_without_bytes file region page access) file
    (failed_or (read_fails file region page outcome) page file (denied_or (rule_of_bytes hash file page access) file (failed_or (write_fails file region page outcome) (unwrap_or (left_for file page) page) file (give file region page access true None))))
    (pages_failed (read_fails file region page outcome) page file
    (denied_or (rule_of_bytes hash file page access) file (failed_or (write_fails file region page outcome) (unwrap_or (left_for file page) page) file (give file region page access true None)))
    (pages_denied (rule_of_bytes hash file page access) file (failed_or (write_fails file region page outcome) (unwrap_or (left_for file page) page) file (give file region page access true None))
    (pages_failed (write_fails file region page outcome) (unwrap_or (left_for file page) page) file (give file region page access true None)
    (pages_given region page access true file))))
pages_entered hash (Some region) file id page access false outcome =
    pages_failed (read_fails file region page outcome) page file
    (failed_or (write_fails file region page outcome) (unwrap_or (left_for file page) page) file (give file region page access false (verdict hash file region page access)))
    (pages_failed (write_fails file region page outcome) (unwrap_or (left_for file page) page) file (give file region page access false (verdict hash file region page access))
    (pages_given region page access false file))

-- ---- signatures

pages_attached : (same other : Option ℕ) (file : PlainFile) (slice : ℕ) (blob : Signature) → (add_blob_by same other file slice blob).1.pages ≡ file.pages
pages_attached (Some same) other file slice blob = refl
pages_attached None (Some other) file slice blob = refl
pages_attached None None file slice blob = refl

pages_blob : (file : PlainFile) (slice : ℕ) (cdhash : List ℕ) (blob : Option Signature) → (add_given_blob file slice cdhash blob).1.pages ≡ file.pages
pages_blob file slice cdhash None = refl
pages_blob file slice cdhash (Some blob) =
    pages_attached (position (is_same_blob slice cdhash) file.blobs) (position (λ attached. share_a_page file.page_size attached.signature blob) file.blobs) file slice blob

-- ---- writes

take_whole : (bytes : List ℕ) → take (length bytes) bytes ≡ bytes
take_whole bytes = grind (arith, common_steps)

pages_written : (failed : Option ℕ) (file : PlainFile) (at : ℕ) (bytes : List ℕ)
    → (write_by failed file at bytes).1.pages ≡ written_pages file.page_size at (take (count_written (write_by failed file at bytes).0) bytes) 0 file.pages
pages_written None file at bytes = ap (λ piece. written_pages file.page_size at piece 0 file.pages) (sym (take_whole bytes))
pages_written (Some page) file at bytes = refl

pages_write : (past : Bool) (failed : Option ℕ) (file : PlainFile) (at : ℕ) (bytes : List ℕ)
    → (if past then (reply.PastEnd file.length, file) else write_by failed file at bytes).1.pages
    ≡ written_pages file.page_size at (take (count_written (if past then (reply.PastEnd file.length, file) else write_by failed file at bytes).0) bytes) 0 file.pages
pages_write true failed file at bytes = sym (nothing_written file.page_size at 0 file.pages)
pages_write false failed file at bytes = pages_written failed file at bytes

-- ---- stores

-- who may write a page of a file shares it or has a private copy, and not both
module _ (hash : Hash) (file : PlainFile) (id page : ℕ) (keep : Keep hash file) (writes : may_write file id page ≡ true) where
  shared_uncopied : is_shared file.regions id ≡ true → has_copy file id page ≡ true → ⊥
  shared_uncopied shared copy = by_region (region_of file.regions id) shared (keep.private_copies id page copy)
    where
      by_region : (region : Option Region) → option_map_or (λ r. r.shared) region false ≡ true
          → IsSomeAnd region (λ r. IsTrue (has_page page r) × (r.shared ≡ false)) → ⊥
      by_region None e there = there
      by_region (Some region) e there = grind (arith, common_steps, e, there.1)

  pages_stored : (at : ℕ) (bytes : List ℕ) → (stored file id page at bytes).pages ≡ page_stored (is_shared file.regions id) reply.Stored file.pages page at bytes
  pages_stored at bytes = by_both (has_copy file id page) (is_shared file.regions id) refl refl
    where
      by_both : (copy shared : Bool) → has_copy file id page ≡ copy → is_shared file.regions id ≡ shared
          → (if copy then put_copy file id page at bytes else put_page file page at bytes).pages ≡ page_stored shared reply.Stored file.pages page at bytes
      by_both true true e f = absurd (shared_uncopied f e)
      by_both true false e f = refl
      by_both false true e f = refl
      by_both false false e f = absurd (grind (arith, common_steps, e, keep.copied id page writes f))

not_stored : (shared : Bool) (pages : List (List ℕ)) (page at : ℕ) (bytes : List ℕ) → pages ≡ page_stored shared reply.NotMapped pages page at bytes
not_stored true pages page at bytes = refl
not_stored false pages page at bytes = refl

abbrev store_answer : Bool → PlainFile → ℕ → ℕ → ℕ → List ℕ → Answer
store_answer may file id page at bytes = if may then (reply.Stored, stored file id page at bytes) else (reply.NotMapped, file)

pages_store : (hash : Hash) (file : PlainFile) (id page at : ℕ) (bytes : List ℕ) → Keep hash file → (may : Bool) → may_write file id page ≡ may
    → (store_answer may file id page at bytes).1.pages
    ≡ page_stored (is_shared file.regions id) (store_answer may file id page at bytes).0 file.pages page at bytes
pages_store hash file id page at bytes keep true e = pages_stored hash file id page keep e at bytes
pages_store hash file id page at bytes keep false e = not_stored (is_shared file.regions id) file.pages page at bytes

-- ---- each event

pages_evicted : (failed : Option ℕ) (file : PlainFile) (page : ℕ) → (evict_by failed file page).1.pages ≡ file.pages
pages_evicted (Some other) file page = refl
pages_evicted None file page = refl

pub pages_are_content : (hash : Hash) (file : PlainFile) (e : FileEvent) (blob : Option Signature) (outcome : ℕ) → Keep hash file
    → (file_step hash file e blob outcome).1.pages ≡ content_after file.page_size file.regions e (file_step hash file e blob outcome).0 file.pages
pages_are_content hash file (event.ReadSignature slice) blob outcome keep = refl
pages_are_content hash file (event.AddBlob slice cdhash read lookup) blob outcome keep = pages_blob file slice cdhash blob
pages_are_content hash file (event.RefuseBlob read refusal) blob outcome keep = refl
pages_are_content hash file (event.Write at piece) blob outcome keep =
    pages_write (nat_lt file.length (at + length (data_bytes piece))) (failed_page (page_calls hash file (event.Write at piece)) outcome) file at (data_bytes piece)
pages_are_content hash file (event.AddRegion region insert) blob outcome keep = by_there (is_some (region_of file.regions region.id))
  where
    by_there : (there : Bool) → (if there then file else record file { regions = in_order region_before region file.regions }).pages ≡ file.pages
    by_there true = refl
    by_there false = refl
pages_are_content hash file (event.DropRegion id) blob outcome keep =
    pages_either (is_some (region_of file.regions id)) (reply.Dropped, without_regions (λ region. region.id == id) file) (reply.NoRegion id, file) file.pages refl refl
pages_are_content hash file (event.DropPid pid) blob outcome keep = refl
pages_are_content hash file (event.Enter id page access flags resolve) blob outcome keep =
    pages_entered hash (region_with file id page) file id page access (guarded flags) outcome
pages_are_content hash file (event.Store id page at bytes resolve) blob outcome keep = pages_store hash file id page at bytes keep (may_write file id page) refl
pages_are_content hash file (event.Load id page at count resolve) blob outcome keep =
    pages_either (may_read file id page) (reply.Got (take count (drop at (seen_by file id page))), file) (reply.NotMapped, file) file.pages refl refl
pages_are_content hash file (event.Fetch id page at count resolve) blob outcome keep =
    pages_either (may_execute file id page) (reply.Got (take count (drop at (seen_by file id page))), file) (reply.NotMapped, file) file.pages refl refl
pages_are_content hash file (event.Evict page) blob outcome keep =
    pages_either (is_resident file page) (evict_by (failed_page (page_calls hash file (event.Evict page)) outcome) file page) (reply.NotResident, file) file.pages
    (pages_evicted (failed_page (page_calls hash file (event.Evict page)) outcome) file page) refl
