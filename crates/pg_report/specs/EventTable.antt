-- The table of events: the columns behind the keyword of each.
use Rattle.std.specs.Prelude.{ℕ, Bool, List}
use Rattle.cs_policy.specs.declared.file.FileEvent.{FileEvent}
use Rattle.cs_policy.specs.declared.file.FileEvent.TheVariants as file
use Rattle.cs_policy.specs.declared.process.ProcEvent.{ProcEvent}
use Rattle.cs_policy.specs.declared.process.ProcEvent.TheVariants as proc
use Rattle.cs_policy.specs.declared.trust.TrustEvent.{TrustEvent}
use Rattle.cs_policy.specs.declared.trust.TrustEvent.TheVariants as trust
use Rattle.cs_policy.specs.declared.access.Access.{Access}
use Rattle.cs_policy.specs.declared.access.Prot.{Prot}
use Rattle.cs_policy.specs.declared.data.Data.{Data}
use Rattle.cs_policy.specs.declared.refusal.Refusal.{Refusal}
use Rattle.cs_policy.specs.declared.flags.ProcFlags.{ProcFlags}
use Rattle.pg_words.specs.Tables.{Row, no_columns, columns1, columns2, columns4, columns5, columns6, columns7}
use Rattle.pg_report.specs.Columns.{long_column, short_column, file_column, process_column, cache_column, address_column, stamp_column, flags_column, access_column, prot_column, share_column, cdhash_column, few_column, data_column, refusal_column}

-- `readsig K`
abbrev pub read_signature : Row ℕ FileEvent
read_signature = columns1 short_column (λ slice. file.ReadSignature slice)

-- `addblob K CDHASH @READ @LOOKUP`
abbrev pub add_blob : Row (ℕ × List ℕ × ℕ × ℕ) FileEvent
add_blob = columns4 short_column cdhash_column stamp_column stamp_column (λ slice cdhash read lookup. file.AddBlob slice cdhash read lookup)

-- `refuse @READ R`
abbrev pub refuse_blob : Row (ℕ × Refusal) FileEvent
refuse_blob = columns2 stamp_column refusal_column (λ read refusal. file.RefuseBlob read refusal)

-- `write OFF DATA`
abbrev pub write : Row (ℕ × Data) FileEvent
write = columns2 long_column data_column (λ at piece. file.Write at piece)

-- `addregion ID pP FIRST PAGES PROT SHARE @INSERT`
abbrev pub region_made : ℕ → ℕ → ℕ → ℕ → Prot → Bool → ℕ → FileEvent
region_made id pid first pages prot shared insert =
    file.AddRegion (record { id = id; pid = pid; first = first; pages = pages; prot = prot; shared = shared }) insert

abbrev pub add_region : Row (ℕ × ℕ × ℕ × ℕ × Prot × Bool × ℕ) FileEvent
add_region =
    columns7 short_column process_column long_column long_column prot_column share_column stamp_column
    (λ id pid first pages prot shared insert. region_made id pid first pages prot shared insert)

-- `dropregion ID`
abbrev pub drop_region : Row ℕ FileEvent
drop_region = columns1 short_column (λ id. file.DropRegion id)

-- `droppid pP`
abbrev pub drop_pid : Row ℕ FileEvent
drop_pid = columns1 process_column (λ pid. file.DropPid pid)

-- `enter ID PAGE A FLAGS @RESOLVE`
abbrev pub enter : Row (ℕ × ℕ × Access × ProcFlags × ℕ) FileEvent
enter = columns5 short_column long_column access_column flags_column stamp_column (λ id page access flags resolve. file.Enter id page access flags resolve)

-- `store ID PAGE AT HEX @RESOLVE`
abbrev pub store : Row (ℕ × ℕ × ℕ × List ℕ × ℕ) FileEvent
store = columns5 short_column long_column short_column (few_column 64) stamp_column (λ id page at bytes resolve. file.Store id page at bytes resolve)

-- `load ID PAGE AT COUNT @RESOLVE`
abbrev pub load : Row (ℕ × ℕ × ℕ × ℕ × ℕ) FileEvent
load = columns5 short_column long_column short_column short_column stamp_column (λ id page at count resolve. file.Load id page at count resolve)

-- `fetch ID PAGE AT COUNT @RESOLVE`
abbrev pub fetch : Row (ℕ × ℕ × ℕ × ℕ × ℕ) FileEvent
fetch = columns5 short_column long_column short_column short_column stamp_column (λ id page at count resolve. file.Fetch id page at count resolve)

-- `evict PAGE`
abbrev pub evict : Row ℕ FileEvent
evict = columns1 long_column (λ page. file.Evict page)

-- `start`, `debug`, `punish`, `clearvalid`, `exit`
abbrev pub alone : ProcEvent → Row (Unit {0}) ProcEvent
alone event = no_columns event

-- `insert ADDR fF FIRST PAGES PROT SHARE`: the number of pages of the file is not printed
abbrev pub insert : Row (ℕ × ℕ × ℕ × ℕ × Prot × Bool) ProcEvent
insert =
    columns6 address_column file_column long_column long_column prot_column share_column
    (λ at file first pages prot shared. proc.Insert at file 0 first pages prot shared)

-- `resolve ADDR A`
abbrev pub resolve : Row (ℕ × Access) ProcEvent
resolve = columns2 address_column access_column (λ addr access. proc.Resolve addr access)

-- `remove ADDR`
abbrev pub remove : Row ℕ ProcEvent
remove = columns1 address_column (λ at. proc.Remove at)

-- `loadmodule cC`
abbrev pub load_module : Row ℕ TrustEvent
load_module = columns1 cache_column (λ cache. trust.LoadModule cache)

-- `lookup CDHASH`
abbrev pub lookup : Row (List ℕ) TrustEvent
lookup = columns1 cdhash_column (λ cdhash. trust.Lookup cdhash)
