-- The opening of a scene: the machine before its first event, for any bytes of the scene's items.
use Rattle.std.specs.Prelude.{ℕ, ◌+◌, ◌==◌, Bool, if◌then◌else◌, max, min, List, [], ◌∷◌, length, map, filter, filter_map, zip, Option, Some, None, Result, Ok, Err}
use Rattle.pg_io.specs.MemPages.{MemPagerNow, whole_pages, pages_of}
use Rattle.cs_policy.specs.declared.flags.ProcFlags.{ProcFlags}
use Rattle.cs_policy.specs.declared.refusal.Refusal.{Refusal}
use Rattle.cs_policy.specs.declared.layout.Layout.{Layout}
use Rattle.cs_trust.specs.declared.refusal.TrustRefusal.{TrustRefusal}
use Rattle.cs_trust.specs.Layout.{entries}
use Rattle.cs_trust.specs.Listed.{Table, listing}
use Rattle.cs_trust.specs.Rules as trust
use Rattle.cs_trust.specs.Refusals.{refusal_of}
use Rattle.pg_plain.specs.PlainFile.{opened}
use Rattle.pg_process.specs.ProcessStep.{PlainProcess, fresh}
use Rattle.pg_trusted.specs.TrustStep.{TrustList}
use Rattle.pg_trusted.specs.Kept as trusted
use Rattle.pg_history.specs.Machine.{FilePart}
use Rattle.pg_history.specs.Opening.{Opening}
use Rattle.scene_text.specs.declared.head.Head.{Head}
use Rattle.scene_text.specs.declared.head.Head.TheVariants as head
use Rattle.scene_text.specs.declared.line.Line.TheVariants as line
use Rattle.scene_text.specs.declared.line.Known.{Known}
use Rattle.scene_text.specs.Known.{known_of, page_bytes, is_file}
use Rattle.scene_open.specs.Layouts.{macho_layout, raw_layout}
use Rattle.scene_open.specs.Items.{Item, heads_of, bytes_of}

-- ---- what the header lines say

-- what header lines declare
abbrev pub declared : List Head → Known
declared heads = known_of (map (λ h. line.Head h) heads)

-- how many bytes a page has: 4,096 where no line says so
abbrev pub page_size_of : List Head → ℕ
page_size_of heads = page_bytes (declared heads).large

-- how many pages of a file are resident, as the last of such lines says; 4,096 where there is none
abbrev pub resident_after : ℕ → Head → ℕ
resident_after before (head.Resident pages) = pages
resident_after before other = before

abbrev pub resident_from : ℕ → List Head → ℕ
resident_from before [] = before
resident_from before (first ∷ others) = resident_from (resident_after before first) others

abbrev pub resident_of : List Head → ℕ
resident_of heads = resident_from 4096 heads

-- the limit in force for a file of so many pages: at most its pages, and at least 1
abbrev pub limit_of : ℕ → ℕ → ℕ
limit_of resident pages = max 1 (min resident pages)

-- the pager call of this file that a line lets fail
abbrev pub fail_of : ℕ → Head → Option ℕ
fail_of number (head.Fail file call) = if file == number then Some call else None
fail_of number other = None

-- all of them, in the order of their lines
abbrev pub fails_of : List Head → ℕ → List ℕ
fails_of heads number = filter_map (fail_of number) heads

-- the flags with which a process is declared
abbrev pub flags_of : Head → Option ProcFlags
flags_of (head.Process flags) = Some flags
flags_of other = None

-- ---- files

-- the line declares a file
abbrev pub declares_file : Head → Bool
declares_file head = is_file (line.Head head)

abbrev pub files_among : List Item → List Item
files_among items = filter (λ item. declares_file item.head) items

-- the layout of a file, by the line that declares it
abbrev pub layout_by : Head → List ℕ → Layout
layout_by (head.Raw path off len) bytes = raw_layout bytes (record { at = off; len = len })
layout_by other bytes = macho_layout bytes

abbrev pub layout_of : Item → Layout
layout_of item = layout_by item.head (bytes_of item)

-- the layouts of the declared files, in the order of their numbers
abbrev pub layouts_of : List Item → List Layout
layouts_of items = map layout_of (files_among items)

-- a pager of these bytes whose calls with these numbers fail, and which has made none
abbrev pub pager_of : ℕ → List ℕ → List ℕ → MemPagerNow
pager_of size fails bytes = record {
  bytes = whole_pages size bytes;
  page_size = size;
  length = length bytes;
  made = 0;
  fails = fails;
  faults = 0;
  reads = 0;
  calls = [];
}

-- the pagers of files, of which the first has this number, where these are the header lines
abbrev pub pagers_from : List Head → ℕ → List Item → List MemPagerNow
pagers_from heads number [] = []
pagers_from heads number (file ∷ files) =
    pager_of (page_size_of heads) (fails_of heads number) (bytes_of file) ∷ pagers_from heads (number + 1) files

-- the pagers of the declared files
abbrev pub pagers_of : List Item → List MemPagerNow
pagers_of items = pagers_from (heads_of items) 0 (files_among items)

-- ---- trust caches

-- a static module
abbrev pub static_by : Head → List ℕ → Option Table
static_by (head.Static path) bytes = Some (entries bytes)
static_by (head.Admit cdhash) bytes = Some (listing cdhash ∷ [])
static_by other bytes = None

-- a trust cache that can be loaded, by the first rule that it breaks
abbrev pub table_by : Option TrustRefusal → List ℕ → Result Table Refusal
table_by (Some refusal) bytes = Err (refusal_of refusal)
table_by None bytes = Ok (entries bytes)

abbrev pub cache_by : Head → List ℕ → Option (Result Table Refusal)
cache_by (head.Cache path) bytes = Some (table_by (trust.broken bytes) bytes)
cache_by other bytes = None

-- the static modules and the trust caches that can be loaded, each in the order of their lines; none is loaded
abbrev pub statics_of : List Item → List Table
statics_of items = filter_map (λ item. static_by item.head (bytes_of item)) items

abbrev pub caches_of : List Item → List (Result Table Refusal)
caches_of items = filter_map (λ item. cache_by item.head (bytes_of item)) items

abbrev pub trust_of : List Item → TrustList
trust_of items = trusted.opened (statics_of items) (caches_of items)

-- ---- the opening

-- a file behind its pager that nobody has mapped
abbrev pub part_of : ℕ → MemPagerNow × Layout → FilePart
part_of resident file = record {
  file = opened file.0.page_size file.0.length
      (limit_of resident (length (pages_of file.0.page_size file.0.bytes))) (pages_of file.0.page_size file.0.bytes) file.1;
  made = file.0.made;
  fails = file.0.fails;
  readings = [];
}

-- processes that were not started, of which the first has this number
abbrev pub processes_from : ℕ → ℕ → List ProcFlags → List PlainProcess
processes_from size number [] = []
processes_from size number (flags ∷ others) = fresh number flags size ∷ processes_from size (number + 1) others

-- the opening by what header lines say, with these pagers, these layouts and this trust list
abbrev pub opening_with : List Head → List MemPagerNow → List Layout → TrustList → Opening
opening_with heads pagers layouts trust = record {
  page_size = page_size_of heads;
  adhoc = (declared heads).adhoc;
  machine = record {
    files = map (part_of (resident_of heads)) (zip pagers layouts);
    processes = processes_from (page_size_of heads) 0 (filter_map flags_of heads);
    trust = trust;
  };
}

-- the opening of a scene whose header lines have these bytes
abbrev pub opening_of : List Item → Opening
opening_of items = opening_with (heads_of items) (pagers_of items) (layouts_of items) (trust_of items)
