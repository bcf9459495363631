-- What lies behind the lock of a part: the part, and its spine.
use Rattle.std.specs.Prelude.{ℕ, ◌≡◌, ◌≤◌, IsTrue, length, slice_get, Some}
use Rattle.pg_digest.specs.Kinds.{Hash}
use Rattle.pg_book.specs.declared.receipt.Receipt.{Receipt}
use Rattle.pg_book.specs.Lists.{Among}
use Rattle.pg_book.specs.Views.{list_at}
use Rattle.pg_book.specs.Models.{SpineOf}
use Rattle.cs_policy.specs.declared.trust.TrustEvent.TheVariants as trust
use Rattle.cs_policy.specs.declared.trust.TrustReply.{TrustReply}
use Rattle.cs_policy.specs.declared.entry.Event.TheVariants as event
use Rattle.cs_policy.specs.declared.entry.Reply.TheVariants as reply
use Rattle.cs_policy.specs.declared.entry.Place.TheVariants as place
use Rattle.cs_policy.specs.declared.entry.Entry.{Entry}
use Rattle.pg_plain.specs.PlainFile.{Attached}
use Rattle.pg_object.specs.Object.{ObjectNow}
use Rattle.pg_process.specs.ProcessStep.{PlainProcess}
use Rattle.pg_trusted.specs.TrustStep.{TrustList}
use Rattle.pg_history.specs.Calls.{admits}
use Rattle.pg_parts.specs.Opened.{numbers_in, needs_at, IsFreshFile, HasSpare, HasNumbers}
use Rattle.pg_parts.specs.Replays.{FileWent, ProcessWent, TrustWent}
use Rattle.pg_shared.specs.Plan.{Plan}
use Rattle.pg_shared.specs.Drawn.{drawn_on}
use Rattle.pg_shared.specs.Spines.{IsSpineOf}

-- ---- a process

pub record ProcessCellNow : Type 0 where
  pub process : PlainProcess
  pub spine : SpineOf Entry

-- The process with this number in the run, as the entries on its spine leave it.
pub record IsProcessKept (plan : Plan) (pid : ℕ) (cell : ProcessCellNow) : Type 0 where
  pub opened : PlainProcess
  pub here : slice_get plan.start.processes pid ≡ Some opened
  pub few_files : length plan.start.files ≤ 16
  -- it was opened with a number for each region that workers may make
  pub numbers : HasNumbers opened (needs_at plan.start (place.Process pid))
  pub spine : IsSpineOf plan (place.Process pid) cell.spine
  pub went : ProcessWent (length (numbers_in plan.start).files) opened (drawn_on cell.spine) cell.process

-- some process of the run
pub record IsProcessOf (plan : Plan) (cell : ProcessCellNow) : Type 0 where
  pub pid : ℕ
  pub kept : IsProcessKept plan pid cell

-- ---- the trust list

pub record TrustCellNow : Type 0 where
  pub trust : TrustList
  pub spine : SpineOf Entry

-- The trust list of the run, as the entries on its spine leave it.
pub record IsTrustOf (plan : Plan) (cell : TrustCellNow) : Type 0 where
  pub spine : IsSpineOf plan place.Trust cell.spine
  pub went : TrustWent plan.start.trust (drawn_on cell.spine) cell.trust

-- ---- a file

pub record FileCellNow : Type 0 where
  pub object : ObjectNow
  pub spine : SpineOf Entry

-- The spine knows a lookup of the signature's cdhash whose answer admits the signature.
pub record IsAdmittedBy (plan : Plan) (spine : SpineOf Entry) (attached : Attached) : Type 0 where
  pub lookup : Receipt Entry
  pub name : ℕ
  pub answer : TrustReply
  pub known : Among lookup (list_at spine.view name)
  pub place : lookup.entry.place ≡ place.Trust
  pub event : lookup.entry.event ≡ event.Trust (trust.Lookup attached.signature.cdhash)
  pub reply : lookup.entry.reply ≡ reply.Trust answer
  pub admitted : IsTrue (admits plan.start.adhoc attached.signature answer)

-- The file with this number in the run, as the entries on its spine leave it, where its pager told at the opening; its
-- object keeps the sealing, and each attached signature was admitted.
pub record IsFileKept (hash : Hash) (plan : Plan) (number : ℕ) (cell : FileCellNow) : Type 0 where
  pub opened : ObjectNow
  pub here : slice_get plan.start.files number ≡ Some opened
  pub fresh : IsFreshFile hash plan.start.page_size opened
  -- it was opened with room for all that workers may use of it
  pub spare : HasSpare opened (needs_at plan.start (place.File number))
  pub spine : IsSpineOf plan (place.File number) cell.spine
  pub went : FileWent hash opened (drawn_on cell.spine) cell.object
  pub admitted : (blob : ℕ) (attached : Attached) → slice_get cell.object.blobs blob ≡ Some attached
      → IsAdmittedBy plan cell.spine attached

-- some file of the run
pub record IsFileOf (hash : Hash) (plan : Plan) (cell : FileCellNow) : Type 0 where
  pub number : ℕ
  pub kept : IsFileKept hash plan number cell
