-- What an event does to a file: the reply, and the file after it.
--
-- The outcome is the place, counted from 1, of the first pager call of the event that failed, or 0 where none did. The
-- replies of an event are tried in their order, and where nothing is said of a file, it is as before.
use Rattle.std.specs.Prelude.{ℕ, suc, ◌+◌, ◌-◌, ◌*◌, ◌==◌, ◌&&◌, Bool, true, false, not, nat_lt, List, [], ◌∷◌, ◌++◌, length, map, filter, find, position, take, drop, slice_set, slice_get, count_by, Option, Some, None, is_some, unwrap_or, if◌then◌else◌}
use Rattle.std.specs.Option.{option_map, option_map_or}
use Rattle.std.specs.Str.{bytes_eq}
use Rattle.pg_bytes.specs.Order.{in_order}
use Rattle.pg_digest.specs.Kinds.{Hash}
use Rattle.pg_io.specs.PageBytes.{written_over}
use Rattle.cs_policy.specs.declared.access.Access.{Access}
use Rattle.cs_policy.specs.declared.flags.ProcFlags.{ProcFlags}
use Rattle.cs_policy.specs.declared.region.Region.{Region}
use Rattle.cs_policy.specs.declared.denial.Denial.{Denial}
use Rattle.cs_policy.specs.declared.layout.Layout.{Layout}
use Rattle.cs_policy.specs.declared.layout.Layout.TheVariants as layout
use Rattle.cs_policy.specs.declared.layout.SliceSeat.{SliceSeat}
use Rattle.cs_policy.specs.declared.layout.SliceSeat.TheVariants as seat
use Rattle.cs_policy.specs.declared.file.FileEvent.{FileEvent}
use Rattle.cs_policy.specs.declared.file.FileEvent.TheVariants as event
use Rattle.cs_policy.specs.declared.file.FileReply.{FileReply}
use Rattle.cs_policy.specs.declared.file.FileReply.TheVariants as reply
use Rattle.cs_policy.specs.Data.{data_bytes}
use Rattle.cs_policy.specs.ProcFlags.{guarded}
use Rattle.cs_blob.specs.Signature.{Signature}
use Rattle.pg_regions.specs.Lookups.{region_of, region_before}
use Rattle.pg_plain.specs.PlainFile.{Attached, Resident, PlainFile, page_of, bytes_of_file, region_with, has_copy, may_read, may_write, may_execute, is_page, is_resident}
use Rattle.pg_plain.specs.Covers.{share_a_page}
use Rattle.pg_plain.specs.Verdict.{verdict_without_bytes, rule_of_bytes, verdict}
use Rattle.pg_plain.specs.Given.{put_at, victim, unmapped, unexecuted, without_page, given_page}
use Rattle.pg_plain.specs.Calls.{reached, needs_read, page_calls, failed_page}

-- a reply, and the file after it
abbrev pub Answer : Type 0
Answer = FileReply × PlainFile

-- ---- signatures

-- the bytes that were read, unless the read of a page failed
abbrev pub read_or_fault : Option ℕ → List ℕ → FileReply
read_or_fault None bytes = reply.Read bytes
read_or_fault (Some page) bytes = reply.PagerFault page

-- by the slice, where there are so many
abbrev pub read_slice : PlainFile → ℕ → Option SliceSeat → Option ℕ → FileReply
read_slice file count None failed = reply.NoSlice count
read_slice file count (Some (seat.Refused refusal)) failed = reply.NoImage refusal
read_slice file count (Some (seat.Signed slice sig)) failed = read_or_fault failed (bytes_of_file file sig.at sig.len)

abbrev pub read_of : PlainFile → Layout → ℕ → Option ℕ → FileReply
read_of file (layout.Refused refusal) slice failed = reply.NoSlices refusal
read_of file (layout.Slices seats) slice failed = read_slice file (length seats) (slice_get seats slice) failed

-- The signature of a slice is read: why there is none, or else its present bytes.
abbrev pub read_signature : PlainFile → ℕ → Option ℕ → FileReply
read_signature file slice failed = read_of file file.layout slice failed

-- the attached signature is of the slice and has the cdhash
abbrev pub is_same_blob : ℕ → List ℕ → Attached → Bool
is_same_blob slice cdhash attached = attached.slice == slice && bytes_eq attached.signature.cdhash cdhash

-- the signature is the last of the attached ones
abbrev pub attach : PlainFile → ℕ → Signature → PlainFile
attach file slice blob = record file { blobs = file.blobs ++ record { slice = slice; signature = blob } ∷ [] }

-- by the places of an attached signature that is the same, and of one that covers a page that this one covers
abbrev pub add_blob_by : Option ℕ → Option ℕ → PlainFile → ℕ → Signature → Answer
add_blob_by (Some same) other file slice blob = (reply.Already same, file)
add_blob_by None (Some other) file slice blob = (reply.Overlap other, file)
add_blob_by None None file slice blob = (reply.Attached (length file.blobs), attach file slice blob)

-- A signature is attached, unless it is already, or covers a page that an attached one covers.
abbrev pub add_blob : PlainFile → ℕ → List ℕ → Signature → Answer
add_blob file slice cdhash blob =
    add_blob_by (position (is_same_blob slice cdhash) file.blobs)
    (position (λ attached. share_a_page file.page_size attached.signature blob) file.blobs) file slice blob

-- the signature that is attached; an event that attaches one is never without it
abbrev pub add_given_blob : PlainFile → ℕ → List ℕ → Option Signature → Answer
add_given_blob file slice cdhash None = (reply.Noted, file)
add_given_blob file slice cdhash (Some blob) = add_blob file slice cdhash blob

-- ---- writes

-- the part of the data that lies on a page, put there
abbrev pub written_page : ℕ → ℕ → List ℕ → ℕ → List ℕ → List ℕ
written_page size at bytes page old =
    written_over old (at - page * size) (take (page * size + size - (at + (page * size - at))) (drop (page * size - at) bytes))

-- the data reach the page
abbrev pub is_reached : ℕ → ℕ → ℕ → ℕ → Bool
is_reached size at count page = is_some (find (λ p. p == page) (reached size at count))

-- the pages, from a number on, with the data written over each that they reach
abbrev pub written_pages : ℕ → ℕ → List ℕ → ℕ → List (List ℕ) → List (List ℕ)
written_pages size at bytes page [] = []
written_pages size at bytes page (old ∷ others) =
    (if is_reached size at (length bytes) page then written_page size at bytes page old else old)
    ∷ written_pages size at bytes (suc page) others

-- the resident page is clean, where the data reach it
abbrev pub cleaned : ℕ → ℕ → ℕ → Resident → Resident
cleaned size at count resident = if is_reached size at count resident.page then record resident { dirty = false } else resident

-- the file after these bytes were written: the pages that they reach are clean, and none of them may be executed
abbrev pub written : PlainFile → ℕ → List ℕ → PlainFile
written file at bytes = record file {
  pages = written_pages file.page_size at bytes 0 file.pages;
  residents = map (cleaned file.page_size at (length bytes)) file.residents;
  records = λ id page. if is_reached file.page_size at (length bytes) page then option_map unexecuted (file.records id page) else file.records id page;
}

-- by the page at which the pager fails, if it does: the data before it stand
abbrev pub write_by : Option ℕ → PlainFile → ℕ → List ℕ → Answer
write_by None file at bytes = (reply.Written (length bytes), written file at bytes)
write_by (Some page) file at bytes =
    (reply.Short (page * file.page_size - at), written file at (take (page * file.page_size - at) bytes))

-- Data are written within the file.
abbrev pub write : PlainFile → ℕ → List ℕ → Option ℕ → Answer
write file at bytes failed =
    if nat_lt file.length (at + length bytes) then (reply.PastEnd file.length, file) else write_by failed file at bytes

-- ---- regions

-- A region stands. Where one of its number stands, all is as before.
abbrev pub add_region : PlainFile → Region → Answer
add_region file region =
    (reply.Added, if is_some (region_of file.regions region.id) then file else record file { regions = in_order region_before region file.regions })

-- the region of this number stands and goes
abbrev pub is_gone : (Region → Bool) → PlainFile → ℕ → Bool
is_gone goes file id = option_map_or goes (region_of file.regions id) false

-- regions go with their records and copies
abbrev pub without_regions : (Region → Bool) → PlainFile → PlainFile
without_regions goes file = record file {
  regions = filter (λ region. not (goes region)) file.regions;
  records = λ id page. if is_gone goes file id then None else file.records id page;
  copies = λ id page. if is_gone goes file id then None else file.copies id page;
}

abbrev pub drop_region : PlainFile → ℕ → Answer
drop_region file id =
    if is_some (region_of file.regions id) then (reply.Dropped, without_regions (λ region. region.id == id) file)
    else (reply.NoRegion id, file)

abbrev pub drop_pid : PlainFile → ℕ → Answer
drop_pid file pid =
    (reply.DroppedAll (count_by (λ region. region.pid == pid) file.regions), without_regions (λ region. region.pid == pid) file)

-- ---- faults

-- a broken rule denies, and all else is as it was
abbrev pub denied_or : Option Denial → PlainFile → Answer → Answer
denied_or None file other = other
denied_or (Some denial) file other = (reply.Denied denial, file)

-- a pager call of this page failed, and all is as it was
abbrev pub failed_or : Bool → ℕ → PlainFile → Answer → Answer
failed_or false page file other = other
failed_or true page file other = (reply.PagerFault page, file)

-- the number of the page that leaves for this one
abbrev pub left_for : PlainFile → ℕ → Option ℕ
left_for file page = option_map (λ resident. resident.page) (victim file page)

-- the read of the page failed; the write of the page that leaves for it failed, which is made where that is dirty
abbrev pub read_fails : PlainFile → Region → ℕ → ℕ → Bool
read_fails file region page outcome = needs_read file region page && outcome == 1

abbrev pub write_fails : PlainFile → Region → ℕ → ℕ → Bool
write_fails file region page outcome =
    needs_read file region page && outcome == 2 && option_map_or (λ resident. resident.dirty) (victim file page) false

-- the page is given: which page left for it, and the rule that was broken although it is given
abbrev pub give : PlainFile → Region → ℕ → Access → Bool → Option Denial → Answer
give file region page access guarded noted =
    (reply.Given (if has_copy file region.id page then None else left_for file page) noted, given_page region page access guarded file)

-- What a region asks of one of its pages. A process that is guarded is denied what breaks a rule; another is given it, and
-- the reply notes the rule.
abbrev pub enter_page : Hash → PlainFile → Region → ℕ → Access → Bool → ℕ → Answer
enter_page hash file region page access true outcome =
    denied_or (verdict_without_bytes file region page access) file
    (failed_or (read_fails file region page outcome) page file
    (denied_or (rule_of_bytes hash file page access) file
    (failed_or (write_fails file region page outcome) (unwrap_or (left_for file page) page) file
    (give file region page access true None))))
enter_page hash file region page access false outcome =
    failed_or (read_fails file region page outcome) page file
    (failed_or (write_fails file region page outcome) (unwrap_or (left_for file page) page) file
    (give file region page access false (verdict hash file region page access)))

abbrev pub enter_region : Hash → Option Region → PlainFile → ℕ → ℕ → Access → Bool → ℕ → Answer
enter_region hash None file id page access guarded outcome = (reply.NoRegion id, file)
enter_region hash (Some region) file id page access guarded outcome = enter_page hash file region page access guarded outcome

-- A fault on a page, by the region of this number where it stands and has the page.
abbrev pub enter : Hash → PlainFile → ℕ → ℕ → Access → ProcFlags → ℕ → Answer
enter hash file id page access flags outcome =
    enter_region hash (region_with file id page) file id page access (guarded flags) outcome

-- ---- accesses through a mapping

-- the page as a region sees it: its private copy, or else the page
abbrev pub seen_by : PlainFile → ℕ → ℕ → List ℕ
seen_by file id page = unwrap_or (file.copies id page) (page_of file page)

-- bytes are put into a private copy
abbrev pub put_copy : PlainFile → ℕ → ℕ → ℕ → List ℕ → PlainFile
put_copy file id page at bytes =
    record file { copies = put_at id page (written_over (seen_by file id page) at bytes) file.copies }

-- the resident page is dirty
abbrev pub dirtied : ℕ → Resident → Resident
dirtied page resident = if is_page page resident then record resident { dirty = true } else resident

-- bytes are put into a page, which is dirty then
abbrev pub put_page : PlainFile → ℕ → ℕ → List ℕ → PlainFile
put_page file page at bytes = record file {
  pages = slice_set file.pages page (written_over (page_of file page) at bytes);
  residents = map (dirtied page) file.residents;
}

-- bytes are put into the private copy of a region, or else into the page
abbrev pub stored : PlainFile → ℕ → ℕ → ℕ → List ℕ → PlainFile
stored file id page at bytes =
    if has_copy file id page then put_copy file id page at bytes else put_page file page at bytes

abbrev pub store : PlainFile → ℕ → ℕ → ℕ → List ℕ → Answer
store file id page at bytes =
    if may_write file id page then (reply.Stored, stored file id page at bytes) else (reply.NotMapped, file)

-- the bytes of the page that the region sees, where its record permits it
abbrev pub looked_at : Bool → PlainFile → ℕ → ℕ → ℕ → ℕ → Answer
looked_at permitted file id page at count =
    if permitted then (reply.Got (take count (drop at (seen_by file id page))), file) else (reply.NotMapped, file)

-- ---- pages that leave

-- a resident page leaves, unless its write fails
abbrev pub evict_by : Option ℕ → PlainFile → ℕ → Answer
evict_by (Some other) file page = (reply.PagerFault page, file)
evict_by None file page = (reply.Evicted, record file { residents = without_page page file.residents; records = unmapped page file })

abbrev pub evict : PlainFile → ℕ → Option ℕ → Answer
evict file page failed = if is_resident file page then evict_by failed file page else (reply.NotResident, file)

-- ---- the step

-- The reply to an event and the file after it. `blob` is the signature that an AddBlob attaches.
abbrev pub file_step : Hash → PlainFile → FileEvent → Option Signature → ℕ → Answer
file_step hash file (event.ReadSignature slice) blob outcome =
    (read_signature file slice (failed_page (page_calls hash file (event.ReadSignature slice)) outcome), file)
file_step hash file (event.AddBlob slice cdhash read lookup) blob outcome = add_given_blob file slice cdhash blob
file_step hash file (event.RefuseBlob read refusal) blob outcome = (reply.Noted, file)
file_step hash file (event.Write at piece) blob outcome =
    write file at (data_bytes piece) (failed_page (page_calls hash file (event.Write at piece)) outcome)
file_step hash file (event.AddRegion region insert) blob outcome = add_region file region
file_step hash file (event.DropRegion id) blob outcome = drop_region file id
file_step hash file (event.DropPid pid) blob outcome = drop_pid file pid
file_step hash file (event.Enter id page access flags resolve) blob outcome = enter hash file id page access flags outcome
file_step hash file (event.Store id page at bytes resolve) blob outcome = store file id page at bytes
file_step hash file (event.Load id page at count resolve) blob outcome = looked_at (may_read file id page) file id page at count
file_step hash file (event.Fetch id page at count resolve) blob outcome = looked_at (may_execute file id page) file id page at count
file_step hash file (event.Evict page) blob outcome =
    evict file page (failed_page (page_calls hash file (event.Evict page)) outcome)
