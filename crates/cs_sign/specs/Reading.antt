-- The files of a run: how each is read, and what is taken from it.
use Rattle.std.specs.Prelude.{◌≡◌, ℕ, zero, suc, ◌+◌, ◌≤◌, is_none, List, [], ◌∷◌, ◌++◌, length, Option, Some, None, Result, Ok, Err, nat_lt, if◌then◌else◌}
use Rattle.std.specs.List.{filter_map}
use Rattle.std.specs.Global.{Vec}
use Rattle.pg_bytes.specs.Counts.{Rose}
use Rattle.pg_digest.specs.Kinds.{Hash}
use Rattle.pg_io.specs.Files.{Told, next_read, after_read}
use Rattle.macho_slices.specs.Rules as fat
use Rattle.cs_verify.specs.declared.report.SliceReport.{SliceReport}
use Rattle.cs_verify.specs.declared.report.SliceReport.TheVariants as slice
use Rattle.cs_verify.specs.Report.{report, all_match}
use Rattle.cs_sign.specs.declared.early.Early.{Early}
use Rattle.cs_sign.specs.declared.early.Early.TheVariants.{Usage, Unread, TooLarge, NotSealed}
use Rattle.cs_sign.specs.declared.early.Stop.{Stop}
use Rattle.cs_sign.specs.declared.early.Stop.TheVariants as stop
use Rattle.cs_sign.specs.Early.{most}
use Rattle.cs_sign.specs.Words.{Text}

-- what follows where a step does not end the run
abbrev pub and_then : {X Y : Type 0} → Result X Early → (X → Result Y Early) → Result Y Early
and_then (Ok x) next = next x
and_then (Err early) next = Err early

-- the bytes of a file, where it has no more than it may have
abbrev pub limited : List ℕ → Result (List ℕ) Early
limited bytes = if nat_lt most (length bytes) then Err TooLarge else Ok bytes

-- what is found of a file: its bytes, or none where it could not be read
abbrev pub Found : Type 0
Found = Option (List ℕ)

-- the bytes of the file of an item, by what was found of it
abbrev pub read_of : ℕ → Found → Result (List ℕ) Early
read_of item None = Err (Unread item)
read_of item (Some bytes) = limited bytes

-- the cdhash of a slice that is accepted
abbrev pub hash_in : SliceReport → Option (List ℕ)
hash_in (slice.Refused refusal) = None
hash_in (slice.Accepted cputype cpusubtype filetype cdhash kind flags limit slots ident bad pages) = Some cdhash

abbrev pub hashes_in : List SliceReport → List (List ℕ)
hashes_in reports = filter_map hash_in reports

-- those of a report, where there is a slice, and each slice is a signed image whose hash pages below the limit match
abbrev pub matched_hashes : ℕ → List SliceReport → Result (List (List ℕ)) Early
matched_hashes item reports = if all_match reports then Ok (hashes_in reports) else Err (NotSealed item)

-- those of a file, where it breaks no rule on fat files besides
unfoldable pub sealed_hashes : Hash → ℕ → List ℕ → Result (List (List ℕ)) Early
sealed_hashes hash item bytes =
    if is_none (fat.broken bytes) then matched_hashes item (report hash bytes) else Err (NotSealed item)

-- those of several files, by what was found of each, behind other cdhashes; the first file is that of an item
abbrev pub cached : Hash → ℕ → List Found → List (List ℕ) → Result (List (List ℕ)) Early
cached hash item [] hashes = Ok hashes
cached hash item (found ∷ others) hashes =
    and_then (read_of item found) (λ bytes.
    and_then (sealed_hashes hash item bytes) (λ more. cached hash (item + 1) others (hashes ++ more)))

-- what is found of the files of several paths, where this is told
abbrev pub finds : Told → List Text → List Found
finds told [] = []
finds told (path ∷ paths) = next_read told path ∷ finds (after_read told) paths

-- ---- what is told after reads, and how they fail

abbrev pub after_reads : ℕ → Told → Told
after_reads zero told = told
after_reads (suc n) told = after_read (after_reads n told)

-- At most so many reads were made.
pub record ReadsWithin (told : Told) (many : ℕ) (now : Option Told) : Type 0 where
  pub reads : ℕ
  pub few : reads ≤ many
  pub after : now ≡ Some (after_reads reads told)

-- the elements of a vector
abbrev pub items_of : {X : Type 0} → Vec X → List X
items_of found = found.items

-- a call answers as the run goes: with what was found, or with its early end; want of memory is tied to nothing
abbrev pub Answers : {T X : Type 0} → (T → X) → Result X Early → Result T Stop → Type 0
Answers value goes (Ok found) = goes ≡ Ok (value found)
Answers value goes (Err (stop.Early early)) = goes ≡ Err early
Answers value goes (Err stop.NoMemory) = Unit {0}

-- ---- whatever the files tell

-- what a call answers is such a way to go; want of memory is tied to nothing
abbrev pub GoesAs : {T X : Type 0} → (Result X Early → Type 0) → (T → X) → Result T Stop → Type 0
GoesAs Goes value (Ok found) = Goes (Ok (value found))
GoesAs Goes value (Err (stop.Early early)) = Goes (Err early)
GoesAs Goes value (Err stop.NoMemory) = Unit {0}

-- The file of an item could not be read, or has some bytes.
pub record ReadsSome (item : ℕ) (goes : Result (List ℕ) Early) : Type 0 where
  pub found : Found
  pub is : goes ≡ read_of item found

-- The same of so many files, whose cdhashes are taken.
pub record CachedSome (hash : Hash) (many : ℕ) (goes : Result (List (List ℕ)) Early) : Type 0 where
  pub found : List Found
  pub each : length found ≡ many
  pub is : goes ≡ cached hash 0 found []

-- ---- causes

-- a file that could not be read has raised the count of faults, and nothing else does; the words end no run over files
abbrev pub IsCaused : {T : Type 0} → Result T Stop → ℕ → ℕ → Type 0
IsCaused (Err (stop.Early (Unread item))) before now = Rose before now
IsCaused (Err (stop.Early Usage)) before now = ⊥
IsCaused other before now = now ≡ before
