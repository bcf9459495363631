-- The sealing invariant: what is mapped for execution by a guarded process is signed, admitted and unchanged.
use Rattle.std.specs.Prelude.{ℕ, ◌≡◌, ◌≤◌, true, false, IsTrue, List, [], length, take, slice_get, slice_index_or, Some}
use Rattle.pg_digest.specs.Kinds.{Hash}
use Rattle.cs_policy.specs.declared.region.Region.{Region}
use Rattle.cs_policy.specs.declared.file.FileEvent.TheVariants as file
use Rattle.cs_policy.specs.declared.file.FileReply.TheVariants as file_reply
use Rattle.cs_policy.specs.declared.trust.TrustReply.{TrustReply}
use Rattle.cs_policy.specs.declared.entry.Event.TheVariants as event
use Rattle.cs_policy.specs.declared.entry.Reply.TheVariants as reply
use Rattle.cs_policy.specs.declared.entry.Place.TheVariants as place
use Rattle.cs_policy.specs.ProcFlags.{guarded}
use Rattle.pg_regions.specs.Lookups.{region_of}
use Rattle.pg_plain.specs.PlainFile.{Attached, PlainFile, has_copy, may_execute}
use Rattle.pg_plain.specs.Covers.{Sealed}
use Rattle.pg_plain.specs.Keep.{Keep}
use Rattle.pg_process.specs.ProcessStep.{PlainProcess}
use Rattle.pg_history.specs.Machine.{Line, FilePart, Machine, replay}
use Rattle.pg_history.specs.Opening.{Opening}
use Rattle.pg_history.specs.Calls.{admits}
use Rattle.pg_history.specs.Links.{NamesLookup}
use Rattle.pg_history.specs.Content.{content}

-- The signature with this number was attached to the file in this history, after the same call had looked up its cdhash,
-- and the answer admits it.
pub record Admitted (o : Opening) (history : List Line) (number : ℕ) (blob : ℕ) (attached : Attached) : Type 0 where
  pub adding : Line
  pub read : ℕ
  pub lookup : ℕ
  pub answer : TrustReply
  pub here : slice_get history adding.stamp ≡ Some adding
  pub place : adding.entry.place ≡ place.File number
  pub event : adding.entry.event ≡ event.File (file.AddBlob attached.slice attached.signature.cdhash read lookup)
  pub reply : adding.entry.reply ≡ reply.File (file_reply.Attached blob)
  pub looked_up : NamesLookup history adding lookup attached.signature.cdhash answer
  pub admitted : IsTrue (admits o.adhoc attached.signature answer)

-- A page of a file is sealed after a history: by the bytes that it has then, in an attached and admitted signature.
pub record IsSealedIn (hash : Hash) (o : Opening) (history : List Line) (number : ℕ) (file : PlainFile) (page : ℕ) : Type 0 where
  pub blob : ℕ
  pub attached : Attached
  pub kept : slice_get file.blobs blob ≡ Some attached
  pub admitted : Admitted o history number blob attached
  pub is_sealed : Sealed hash o.page_size attached.signature page (slice_index_or (content o number history) page [])

-- a region of a process that is guarded now may execute the page
pub record IsExecutable (m : Machine) (file : PlainFile) (id page : ℕ) : Type 0 where
  pub region : Region
  pub process : PlainProcess
  pub given : may_execute file id page ≡ true
  pub stands : region_of file.regions id ≡ Some region
  pub owner : slice_get m.processes region.pid ≡ Some process
  pub is_guarded : guarded process.flags ≡ true

-- After a history, each page that a guarded process may execute is sealed, and the region sees the page itself and no
-- private copy.
pub record SealInv (hash : Hash) (o : Opening) (history : List Line) : Type 0 where
  pub is_sealed : (number : ℕ) (part : FilePart) (id page : ℕ)
      → slice_get (replay hash o.machine history).files number ≡ Some part
      → IsExecutable (replay hash o.machine history) part.file id page
      → IsSealedIn hash o history number part.file page
  pub uncopied : (number : ℕ) (part : FilePart) (id page : ℕ)
      → slice_get (replay hash o.machine history).files number ≡ Some part
      → IsExecutable (replay hash o.machine history) part.file id page
      → has_copy part.file id page ≡ false

-- at the opening and after each entry
abbrev pub SealedThroughout : Hash → Opening → List Line → Type 0
SealedThroughout hash o history = (k : ℕ) → k ≤ length history → SealInv hash o (take k history)

-- every file keeps what files keep, at the opening and after each entry
abbrev pub KeptThroughout : Hash → Opening → List Line → Type 0
KeptThroughout hash o history = (k : ℕ) → k ≤ length history → (number : ℕ) (part : FilePart)
    → slice_get (replay hash o.machine (take k history)).files number ≡ Some part → Keep hash part.file

-- no process has ever made more regions than it has numbers for them
abbrev pub FewThroughout : Hash → Opening → List Line → Type 0
FewThroughout hash o history = (k : ℕ) → k ≤ length history → (number : ℕ) (p : PlainProcess)
    → slice_get (replay hash o.machine (take k history)).processes number ≡ Some p → p.made ≤ 4096
