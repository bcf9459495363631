-- What a run of the program is, whichever way the report of its file is made.
use Rattle.std.specs.Prelude.{◌≡◌, ◌≢◌, ℕ, List, Option, Some, None}
use Rattle.pg_bytes.specs.Counts.{Rose}
use Rattle.pg_bytes.specs.declared.Status.{Status}
use Rattle.pg_bytes.specs.declared.Status.TheVariants as status
use Rattle.pg_bytes.specs.declared.Which.{Which}
use Rattle.pg_bytes.specs.declared.Which.TheVariants.{FileBytes}
use Rattle.pg_digest.specs.Digests.{sha_hash}
use Rattle.pg_io.specs.Files.{Told}
use Rattle.csverify.specs.Words.{path_of, is_refused}
use Rattle.csverify.specs.Ending.{most, ending_of, file_of, told_after, IsVerdictOf, TellsEither, Ends, EndsByWords, Says}

-- What is seen of files and of a sink: what the files tell and how many reads have failed, what was written and how
-- many writes have failed.
pub record Outside : Type 0 where
  pub told : Option Told
  pub read_faults : ℕ
  pub written : Option (List ℕ)
  pub write_faults : ℕ

abbrev pub outside : Option Told → ℕ → Option (List ℕ) → ℕ → Outside
outside told read_faults written write_faults =
    record { told = told; read_faults = read_faults; written = written; write_faults = write_faults }

-- A run of these words that ended with this status, by the files and by what is seen before it and now.
pub record IsRun {F : Type 0} (words : List (List ℕ)) (files files_now : F) (before now : Outside) (ended : Status) : Type 0 where
  -- status and output are those that the words and the file's bytes fix
  pub output : (told : Told) → before.told ≡ Some told → Ends (ending_of sha_hash words told) ended before.written now.written
  -- the verdict is that of the file's bytes
  pub verdict : (told : Told) → before.told ≡ Some told → IsVerdictOf sha_hash (file_of words told) ended
  -- Usage comes exactly where the command line refuses the words, whatever the files are; there a fault of the sink or
  -- want of memory may come in its place
  pub usage : EndsByWords (is_refused words) ended before.written now.written
  -- each other status has its cause, and two do not come
  pub read_fault : (item : ℕ) → ended ≡ status.FileFault item → (item ≡ 0) × Rose before.read_faults now.read_faults
  pub limit : (which : Which) (number : ℕ) → ended ≡ status.Limit which number → (which ≡ FileBytes) × (number ≡ most)
  pub early_text : Says ended before.written now.written
  pub no_bad_line : (line kind : ℕ) → ended ≢ status.SceneBad line kind
  pub no_cache : (item number arg : ℕ) → ended ≢ status.TrustBad item number arg
  -- one file is read, and for other words none; where memory runs out, it may be unread
  pub reads : (told : Told) → before.told ≡ Some told → ended ≢ status.NoMemory → now.told ≡ Some (told_after words told)
  pub reads_short : (told : Told) → before.told ≡ Some told → ended ≡ status.NoMemory → TellsEither told (told_after words told) now.told
  pub quiet : path_of words ≡ None → files_now ≡ files
  -- a fault of the sink ends the run with its status and no other
  pub sound : ended ≢ status.SinkFault → now.write_faults ≡ before.write_faults
  pub sink_fault : ended ≡ status.SinkFault → Rose before.write_faults now.write_faults
  -- want of memory hides no fault of the files, and writes nothing
  pub no_memory : ended ≡ status.NoMemory → (now.written ≡ before.written) × (now.read_faults ≡ before.read_faults)
