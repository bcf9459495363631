-- What is known of the machine after a history, by which each further event keeps the sealing.
use Rattle.std.proofs.Common.{◌≡◌, ◌<◌, ◌≤◌, ◌/◌, ℕ, true, false, List, [], length, Some}
use Rattle.std.specs.Prelude.{slice_get}
use Rattle.std.specs.List.{AllByRecursion}
use Rattle.pg_digest.specs.Kinds.{Hash}
use Rattle.cs_policy.specs.declared.access.Access.{Access}
use Rattle.cs_policy.specs.declared.access.Prot.{Prot}
use Rattle.std.proofs.Common.{Bool}
use Rattle.cs_policy.specs.declared.flags.ProcFlags.{ProcFlags}
use Rattle.cs_policy.specs.declared.region.Region.{Region}
use Rattle.cs_policy.specs.declared.file.FileEvent.TheVariants as file
use Rattle.cs_policy.specs.declared.file.FileReply.TheVariants as file_reply
use Rattle.cs_policy.specs.declared.process.ProcEvent.TheVariants as process
use Rattle.cs_policy.specs.declared.process.ProcReply.TheVariants as process_reply
use Rattle.cs_policy.specs.declared.entry.Event.TheVariants as event
use Rattle.cs_policy.specs.declared.entry.Reply.TheVariants as reply
use Rattle.cs_policy.specs.declared.entry.Place.TheVariants as place
use Rattle.cs_policy.specs.ProcFlags.{guarded}
use Rattle.pg_plain.specs.PlainFile.{Attached}
use Rattle.pg_plain.specs.Keep.{Keep}
use Rattle.pg_process.specs.ProcessStep.{PlainProcess}
use Rattle.pg_process.proofs.GuardFacts.{IsUnguarded}
use Rattle.pg_history.specs.Machine.{Line, FilePart, Machine, reading_at, signed_range}
use Rattle.pg_history.specs.Opening.{Opening, numbers_of, range_of, seat_in}
use Rattle.pg_history.specs.Content.{Told, opening_pages, told_over}
use Rattle.pg_history.specs.Sealing.{Admitted}
use Rattle.pg_sealing.proofs.UnguardedFacts.{executes_unguarded}
use Rattle.pg_sealing.proofs.ProcessFacts.{HasNumber}

-- what is told of a file before its first event
abbrev pub untold : Opening → ℕ → Told
untold o number = record { pages = opening_pages o number; regions = [] }

-- the region's number names its process
abbrev pub IsOwned : Region → Type 0
IsOwned region = region.id / 4096 ≡ region.pid

-- of a file, by its number
pub record FileHolds (hash : Hash) (o : Opening) (history : List Line) (m : Machine) (number : ℕ) (part : FilePart) : Type 0 where
  pub keep : Keep hash part.file
  pub page_size : part.file.page_size ≡ o.page_size
  pub ranges : (slice : ℕ) → range_of (numbers_of o) number slice ≡ signed_range (seat_in slice part.file.layout)
  -- its pages are the content, and its regions those that events tell
  pub content : told_over o.page_size number history (untold o number) ≡ record { pages = part.file.pages; regions = part.file.regions }
  -- each signature that was read is found by its stamp, and no other stamp is ahead
  pub readings : (k : ℕ) (e : Line) (slice : ℕ) (bytes : List ℕ) → slice_get history k ≡ Some e → e.entry.place ≡ place.File number
      → e.entry.event ≡ event.File (file.ReadSignature slice) → e.entry.reply ≡ reply.File (file_reply.Read bytes)
      → reading_at part.readings k ≡ Some (record { stamp = k; slice = slice; bytes = bytes })
  pub early : AllByRecursion (λ reading. reading.stamp < length history) part.readings
  -- each attached signature is admitted
  pub admitted : (k : ℕ) (attached : Attached) → slice_get part.file.blobs k ≡ Some attached → Admitted o history number k attached
  -- regions name their processes
  pub owned : AllByRecursion IsOwned part.file.regions
  -- what may be executed and was given to no guarded process is of a process that is not guarded now
  pub unguarded : (id page : ℕ) → executes_unguarded part.file id page ≡ true → (p : PlainProcess) → slice_get m.processes (id / 4096) ≡ Some p → IsUnguarded p

-- a Resolve that found a region: it is the process's, and where that was not guarded then, it is not now
pub record WasResolved (m : Machine) (pid id : ℕ) (flags : ProcFlags) : Type 0 where
  pub owner : id / 4096 ≡ pid
  pub unguarded : guarded flags ≡ false → (p : PlainProcess) → slice_get m.processes pid ≡ Some p → IsUnguarded p

pub record Holds (hash : Hash) (o : Opening) (history : List Line) (m : Machine) : Type 0 where
  pub files : (number : ℕ) (part : FilePart) → slice_get m.files number ≡ Some part → FileHolds hash o history m number part
  pub processes : (number : ℕ) (p : PlainProcess) → slice_get m.processes number ≡ Some p → HasNumber number p
  pub resolved : (k : ℕ) (e : Line) (pid addr : ℕ) (access : Access) (id number page : ℕ) (flags : ProcFlags) → slice_get history k ≡ Some e
      → e.entry.place ≡ place.Process pid → e.entry.event ≡ event.Proc (process.Resolve addr access)
      → e.entry.reply ≡ reply.Proc (process_reply.Region id number page flags) → WasResolved m pid id flags
  pub inserted : (k : ℕ) (e : Line) (pid at number file_pages first pages : ℕ) (prot : Prot) (shared : Bool) (id : ℕ) → slice_get history k ≡ Some e
      → e.entry.place ≡ place.Process pid → e.entry.event ≡ event.Proc (process.Insert at number file_pages first pages prot shared)
      → e.entry.reply ≡ reply.Proc (process_reply.Inserted id) → id / 4096 ≡ pid

-- no process has made more regions than there are numbers of regions
abbrev pub FewRegions : Machine → Type 0
FewRegions m = (number : ℕ) (p : PlainProcess) → slice_get m.processes number ≡ Some p → p.made ≤ 4096
