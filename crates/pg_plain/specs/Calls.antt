-- Which pages of a file's pager an event reads and writes, one after another.
--
-- A list of pages is what is called if no call fails: a read, or a write, of each. Where a call fails, those behind it are
-- not made. The outcome of an event is the place, counted from 1, of its first call that failed, or 0.
use Rattle.std.specs.Prelude.{ℕ, zero, suc, ◌+◌, ◌-◌, ◌*◌, ◌/◌, ◌&&◌, ◌||◌, nat_le, nat_lt, Bool, not, List, [], ◌∷◌, length, filter, slice_get, Option, Some, None, is_some, if◌then◌else◌}
use Rattle.std.specs.List.{range_with_len, flat_map}
use Rattle.pg_digest.specs.Kinds.{Hash}
use Rattle.cs_policy.specs.declared.access.Access.{Access}
use Rattle.cs_policy.specs.declared.flags.ProcFlags.{ProcFlags}
use Rattle.cs_policy.specs.declared.region.Region.{Region}
use Rattle.cs_policy.specs.declared.layout.SliceSeat.{SliceSeat}
use Rattle.cs_policy.specs.declared.layout.SliceSeat.TheVariants as seat
use Rattle.cs_policy.specs.declared.file.FileEvent.{FileEvent}
use Rattle.cs_policy.specs.declared.file.FileEvent.TheVariants as event
use Rattle.cs_policy.specs.Data.{data_bytes}
use Rattle.cs_policy.specs.ProcFlags.{guarded}
use Rattle.pg_plain.specs.Slices.{seat_in}
use Rattle.pg_plain.specs.PlainFile.{Resident, PlainFile, region_with, has_copy, is_resident, is_dirty}
use Rattle.pg_plain.specs.Verdict.{verdict_without_bytes, rule_of_bytes}
use Rattle.pg_plain.specs.Given.{victim}

-- the pages that bytes reach, ascending: `count` bytes from the byte `at` of the file on
abbrev pub reached : ℕ → ℕ → ℕ → List ℕ
reached size at zero = []
reached size at count = range_with_len (at / size) ((at + (count - 1)) / size + 1 - at / size)

-- ---- the reading of a signature

-- the slice of this number, where the layout has slices and so many
abbrev pub seat_of : PlainFile → ℕ → Option SliceSeat
seat_of file slice = seat_in slice file.layout

-- one read of each page of the signature that is not resident
abbrev pub signature_calls : PlainFile → Option SliceSeat → List ℕ
signature_calls file None = []
signature_calls file (Some (seat.Refused refusal)) = []
signature_calls file (Some (seat.Signed slice sig)) =
    filter (λ page. not (is_resident file page)) (reached file.page_size sig.at sig.len)

-- ---- a write

-- the data are a whole page there
abbrev pub is_whole : ℕ → ℕ → ℕ → ℕ → Bool
is_whole size at count page = nat_le at (page * size) && nat_le (page * size + size) (at + count)

-- one write of a page that is resident or that the data cover, and of another one read and then one write
abbrev pub calls_of_page : PlainFile → ℕ → ℕ → ℕ → List ℕ
calls_of_page file at count page =
    if is_resident file page || is_whole file.page_size at count page then page ∷ [] else page ∷ page ∷ []

abbrev pub write_calls : PlainFile → ℕ → ℕ → List ℕ
write_calls file at count =
    if nat_lt file.length (at + count) then [] else flat_map (calls_of_page file at count) (reached file.page_size at count)

-- ---- a fault

-- the page has to be read for the region
abbrev pub needs_read : PlainFile → Region → ℕ → Bool
needs_read file region page = not (has_copy file region.id page) && not (is_resident file page)

-- a rule that can be told without the page's bytes denies the access
abbrev pub is_denied_unread : PlainFile → Region → ℕ → Access → ProcFlags → Bool
is_denied_unread file region page access flags =
    guarded flags && is_some (verdict_without_bytes file region page access)

-- the rule on the page's bytes denies it
abbrev pub is_denied_read : Hash → PlainFile → Region → ℕ → Access → ProcFlags → Bool
is_denied_read hash file region page access flags =
    guarded flags && is_some (rule_of_bytes hash file page access)

-- the write of a page that leaves, where it is dirty
abbrev pub victim_calls : Option Resident → List ℕ
victim_calls None = []
victim_calls (Some resident) = if resident.dirty then resident.page ∷ [] else []

-- one read, unless a rule denies before it or the page is at hand; then one write of the victim, unless its bytes deny
abbrev pub enter_calls : Hash → PlainFile → Option Region → ℕ → Access → ProcFlags → List ℕ
enter_calls hash file None page access flags = []
enter_calls hash file (Some region) page access flags =
    if is_denied_unread file region page access flags || not (needs_read file region page) then []
    else page ∷ (if is_denied_read hash file region page access flags then [] else victim_calls (victim file page))

-- ---- each event

abbrev pub page_calls : Hash → PlainFile → FileEvent → List ℕ
page_calls hash file (event.ReadSignature slice) = signature_calls file (seat_of file slice)
page_calls hash file (event.AddBlob slice cdhash read lookup) = []
page_calls hash file (event.RefuseBlob read refusal) = []
page_calls hash file (event.Write at piece) = write_calls file at (length (data_bytes piece))
page_calls hash file (event.AddRegion region insert) = []
page_calls hash file (event.DropRegion id) = []
page_calls hash file (event.DropPid pid) = []
page_calls hash file (event.Enter id page access flags resolve) = enter_calls hash file (region_with file id page) page access flags
page_calls hash file (event.Store id page at bytes resolve) = []
page_calls hash file (event.Load id page at count resolve) = []
page_calls hash file (event.Fetch id page at count resolve) = []
page_calls hash file (event.Evict page) = if is_dirty file page then page ∷ [] else []

-- how many of so many calls are made, by the outcome: none behind one that failed
abbrev pub calls_made : ℕ → ℕ → ℕ
calls_made zero calls = calls
calls_made (suc before) calls = suc before

-- the page of the call that failed, where one did
abbrev pub failed_page : List ℕ → ℕ → Option ℕ
failed_page calls zero = None
failed_page calls (suc before) = slice_get calls before
