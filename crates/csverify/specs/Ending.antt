-- How a run ends: its status, and the text that it writes.
use Rattle.std.specs.Prelude.{◌≡◌, ◌≢◌, ◌⊎◌, ◌≤◌, ℕ, Bool, true, false, IsTrue, IsFalse, List, ◌++◌, length, codes, Option, Some, None, IsSome, option_map, option_and_then, Result, nat_lt, if◌then◌else◌}
use Rattle.std.specs.Borrow.{Bor}
use Rattle.std.specs.Result.{result_ok}
use Rattle.std.specs.Io.KnownBytes.{append_known}
use Rattle.pg_bytes.specs.Counts.{Rose}
use Rattle.pg_bytes.specs.declared.Status.{Status}
use Rattle.pg_bytes.specs.declared.Status.TheVariants as status
use Rattle.pg_bytes.specs.declared.Which.TheVariants.{FileBytes}
use Rattle.pg_io.specs.Files.{Told, next_read, after_read}
use Rattle.pg_io.specs.Sink.{SentPart}
use Rattle.cs_policy.specs.declared.refusal.Refusal.{Refusal}
use Rattle.cs_policy.specs.Refusal.{refusal_text}
use Rattle.macho_slices.specs.declared.refusal.FatRefusal.{FatRefusal}
use Rattle.macho_slices.specs.Rules as fat
use Rattle.macho_slices.specs.Refusals.{refusal_of}
use Rattle.cs_verify.specs.declared.report.SliceReport.{SliceReport}
use Rattle.pg_digest.specs.Kinds.{Hash}
use Rattle.cs_verify.specs.Report.{report, all_match}
use Rattle.cs_verify.specs.Text.{verify_text}
use Rattle.clap.specs.declared.error.Error.{Error}
use Rattle.csverify.specs.Words.{path_of}

-- a status, and the whole text that goes with it
pub record Ending : Type 0 where
  pub status : Status
  pub text : List ℕ

-- the command line is not that of this program
abbrev pub usage : Ending
usage = record { status = status.Usage; text = codes "usage: csverify PATH\n" }

-- the file, which is item 0, could not be read
abbrev pub unread : Ending
unread = record { status = status.FileFault 0; text = codes "csverify: cannot read\n" }

-- the most bytes that a file may have
abbrev pub most : ℕ
most = 67108864

-- the file has more
abbrev pub too_large : Ending
too_large = record { status = status.Limit FileBytes most; text = codes "csverify: limit filebytes 67108864\n" }

-- the file breaks the grammar of fat files
abbrev pub refused : Refusal → Ending
refused refusal = record { status = status.NotSealed; text = codes "file refused " ++ (refusal_text refusal ++ codes "\n") }

-- the file has a report
abbrev pub reported : List SliceReport → Ending
reported reports = record { status = if all_match reports then status.Done else status.NotSealed; text = verify_text reports }

-- a file's bytes, by the first rule of the grammar of fat files that they break
abbrev pub judged : Hash → List ℕ → Option FatRefusal → Ending
judged hash bytes (Some refusal) = refused (refusal_of refusal)
judged hash bytes None = reported (report hash bytes)

-- a file that is within the limit
unfoldable pub verified : Hash → List ℕ → Ending
verified hash bytes = judged hash bytes (fat.broken bytes)

-- a file, or none where it could not be read
abbrev pub of_file : Hash → Option (List ℕ) → Ending
of_file hash None = unread
of_file hash (Some bytes) = if nat_lt most (length bytes) then too_large else verified hash bytes

-- the file of a path, by what the files tell
abbrev pub of_path : Hash → Told → Option (List ℕ) → Ending
of_path hash told None = usage
of_path hash told (Some path) = of_file hash (next_read told path)

-- how the run of these words ends
abbrev pub ending_of : Hash → List (List ℕ) → Told → Ending
ending_of hash words told = of_path hash told (path_of words)

-- what the files tell after a run: one file is read, and none where there is no path
abbrev pub told_beside : Option (List ℕ) → Told → Told
told_beside None told = told
told_beside (Some path) told = after_read told

-- the same by the words, which name the path
abbrev pub told_after : List (List ℕ) → Told → Told
told_after words told = told_beside (path_of words) told

-- what is told after a run that gave up: what was told before it, or what is told after it has read
abbrev pub TellsEither : Told → Told → Option Told → Type 0
TellsEither before after now = (now ≡ Some before) ⊎ (now ≡ Some after)

-- the bytes of the file that the words name, where it can be read
abbrev pub file_of : List (List ℕ) → Told → Option (List ℕ)
file_of words told = option_and_then (next_read told) (path_of words)

-- A file was read, it is within the limit and breaks no rule on fat files, and all of it matches: there is a slice,
-- and each slice is a signed image whose hash pages below the limit match.
pub record IsSealed (hash : Hash) (found : Option (List ℕ)) : Type 0 where
  pub bytes : List ℕ
  pub read : found ≡ Some bytes
  pub within : length bytes ≤ most
  pub unbroken : fat.broken bytes ≡ None
  pub matching : IsTrue (all_match (report hash bytes))

-- A file was read, it is within the limit, and it breaks a rule on fat files, or not all of it matches.
pub record IsNotSealed (hash : Hash) (found : Option (List ℕ)) : Type 0 where
  pub bytes : List ℕ
  pub read : found ≡ Some bytes
  pub within : length bytes ≤ most
  pub fault : IsSome (fat.broken bytes) ⊎ IsFalse (all_match (report hash bytes))

-- what the two verdicts say of the file; the other statuses are no verdict on it
abbrev pub IsVerdictOf : Hash → Option (List ℕ) → Status → Type 0
IsVerdictOf hash found status.Done = IsSealed hash found
IsVerdictOf hash found status.NotSealed = IsNotSealed hash found
IsVerdictOf hash found other = Unit {0}

-- The run has this status and this text. Where the sink faults, its text is cut short; where memory runs out,
-- nothing is written.
abbrev pub Ends : Ending → Status → Option (List ℕ) → Option (List ℕ) → Type 0
Ends ending status.NoMemory before now = now ≡ before
Ends ending status.SinkFault before now = SentPart before now ending.text
Ends ending other before now = (other ≡ ending.status) × (now ≡ append_known before ending.text)

-- Words in which the command finds a fault end the run by the usage line, and no others do. A fault of the sink or
-- want of memory may come in its place.
abbrev pub EndsByWords : Bool → Status → Option (List ℕ) → Option (List ℕ) → Type 0
EndsByWords true s before now = Ends usage s before now
EndsByWords false s before now = s ≢ status.Usage

-- the path that the command line gave
abbrev pub named : Result (Bor (List ℕ)) Error → Option (List ℕ)
named path = option_map (λ p. p.now) (result_ok path)

-- What each status before the first write comes by, and its line: whether the words were refused, and the count of
-- the files' faults before and now. The others do not come.
abbrev pub IsCaused : Bool → ℕ → ℕ → Status → List ℕ → Type 0
IsCaused refused before now status.Done text = refused ≡ false
IsCaused refused before now status.NotSealed text = refused ≡ false
IsCaused refused before now status.Usage text = (refused ≡ true) × (text ≡ usage.text)
IsCaused refused before now (status.FileFault item) text = (refused ≡ false) × (item ≡ 0) × (text ≡ unread.text) × Rose before now
IsCaused refused before now (status.Limit which number) text = (refused ≡ false) × (which ≡ FileBytes) × (number ≡ most) × (text ≡ too_large.text)
IsCaused refused before now (status.SceneBad line kind) text = ⊥
IsCaused refused before now status.SinkFault text = ⊥
IsCaused refused before now (status.TrustBad item number arg) text = ⊥
IsCaused refused before now status.NoMemory text = ⊥

-- where a run ends early, its one line went out
abbrev pub Says : Status → Option (List ℕ) → Option (List ℕ) → Type 0
Says status.Usage before now = now ≡ append_known before usage.text
Says (status.FileFault item) before now = now ≡ append_known before unread.text
Says (status.Limit which number) before now = now ≡ append_known before too_large.text
Says other before now = Unit {0}
