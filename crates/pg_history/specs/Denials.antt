-- What a denial says.
use Rattle.std.specs.Prelude.{ℕ, ◌≡◌, true, List, take, slice_get, Some}
use Rattle.pg_digest.specs.Kinds.{Hash}
use Rattle.cs_policy.specs.declared.access.Access.{Access}
use Rattle.cs_policy.specs.declared.flags.ProcFlags.{ProcFlags}
use Rattle.cs_policy.specs.declared.region.Region.{Region}
use Rattle.cs_policy.specs.declared.denial.Denial.{Denial}
use Rattle.cs_policy.specs.declared.file.FileEvent.TheVariants as file
use Rattle.cs_policy.specs.declared.file.FileReply.TheVariants as file_reply
use Rattle.cs_policy.specs.declared.entry.Event.TheVariants as event
use Rattle.cs_policy.specs.declared.entry.Reply.TheVariants as reply
use Rattle.cs_policy.specs.declared.entry.Place.TheVariants as place
use Rattle.cs_policy.specs.ProcFlags.{guarded}
use Rattle.pg_plain.specs.PlainFile.{region_with}
use Rattle.pg_plain.specs.Verdict.{verdict}
use Rattle.pg_history.specs.Machine.{Line, FilePart, Machine, replay}
use Rattle.pg_history.specs.Opening.{Opening}

-- the access was asked with flags of a guarded process, and this is the first rule that it breaks in the file as it was
pub record IsVerdictIn (hash : Hash) (m : Machine) (number id page : ℕ) (access : Access) (flags : ProcFlags) (denial : Denial) : Type 0 where
  pub part : FilePart
  pub region : Region
  pub here : slice_get m.files number ≡ Some part
  pub stands : region_with part.file id page ≡ Some region
  pub is_guarded : guarded flags ≡ true
  pub first : verdict hash part.file region page access ≡ Some denial

-- every denial of a history states it
abbrev pub DenialsAreVerdicts : Hash → Opening → List Line → Type 0
DenialsAreVerdicts hash o history = (k : ℕ) (e : Line) (number id page : ℕ) (access : Access) (flags : ProcFlags) (resolve : ℕ) (denial : Denial)
    → slice_get history k ≡ Some e → e.entry.place ≡ place.File number
    → e.entry.event ≡ event.File (file.Enter id page access flags resolve) → e.entry.reply ≡ reply.File (file_reply.Denied denial)
    → IsVerdictIn hash (replay hash o.machine (take k history)) number id page access flags denial
