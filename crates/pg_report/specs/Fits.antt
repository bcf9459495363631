-- Lines whose numbers are of their types, with replies that their events can have.
use Rattle.std.specs.Prelude.{◌≡◌, ℕ, ◌+◌, ◌^◌, ◌<◌, ◌≤◌, List, [], ◌∷◌, length, Option, Some, None}
use Rattle.hex.specs.Hex.{IsBytes}
use Rattle.cs_policy.specs.declared.denial.Denial.{Denial}
use Rattle.cs_policy.specs.declared.denial.Denial.TheVariants as denial
use Rattle.cs_policy.specs.declared.file.FileEvent.{FileEvent}
use Rattle.cs_policy.specs.declared.file.FileEvent.TheVariants as file
use Rattle.cs_policy.specs.declared.file.FileReply.{FileReply}
use Rattle.cs_policy.specs.declared.file.FileReply.TheVariants as told
use Rattle.cs_policy.specs.declared.process.ProcEvent.{ProcEvent}
use Rattle.cs_policy.specs.declared.process.ProcEvent.TheVariants as proc
use Rattle.cs_policy.specs.declared.process.ProcReply.{ProcReply}
use Rattle.cs_policy.specs.declared.process.ProcReply.TheVariants as answer
use Rattle.cs_policy.specs.declared.trust.TrustEvent.{TrustEvent}
use Rattle.cs_policy.specs.declared.trust.TrustEvent.TheVariants as trust
use Rattle.cs_policy.specs.declared.trust.TrustReply.{TrustReply}
use Rattle.cs_policy.specs.declared.trust.TrustReply.TheVariants as listed
use Rattle.cs_policy.specs.declared.entry.Event.{Event}
use Rattle.cs_policy.specs.declared.entry.Event.TheVariants as event
use Rattle.cs_policy.specs.declared.entry.Reply.{Reply}
use Rattle.cs_policy.specs.declared.entry.Reply.TheVariants as reply
use Rattle.cs_policy.specs.declared.entry.Place.{Place}
use Rattle.cs_policy.specs.declared.entry.Place.TheVariants as place
use Rattle.cs_policy.specs.declared.refusal.Refusal.{Refusal}
use Rattle.cs_policy.specs.declared.flags.ProcFlags.{ProcFlags}
use Rattle.cs_policy.specs.ProcFlags.{number_of}
use Rattle.pg_words.specs.Data.{CanWrite}
use Rattle.pg_report.specs.declared.line.Line.{Line}

abbrev pub Is64 : ℕ → Type 0
Is64 n = n < 2 ^ 64

abbrev pub Is32 : ℕ → Type 0
Is32 n = n < 2 ^ 32

abbrev pub AreFlags : ProcFlags → Type 0
AreFlags f = Is32 (number_of f)

-- a refusal of a family that has a name
pub record RefusalFits (r : Refusal) : Type 0 where
  pub family : 1 ≤ r.family
  pub named : r.family ≤ 6
  pub number : r.number < 2 ^ 8
  pub a : Is64 r.a
  pub b : Is64 r.b

-- bytes, one or more and at most so many
pub record FewBytes (most : ℕ) (bytes : List ℕ) : Type 0 where
  pub are : IsBytes bytes
  pub some : 0 < length bytes
  pub few : length bytes ≤ most

pub record IsCdhash (bytes : List ℕ) : Type 0 where
  pub are : IsBytes bytes
  pub count : length bytes ≡ 20

abbrev pub PlaceFits : Place → Type 0
PlaceFits (place.File f) = Is32 f
PlaceFits (place.Process p) = Is32 p
PlaceFits place.Trust = Unit {0}

abbrev pub FileEventFits : FileEvent → Type 0
FileEventFits (file.ReadSignature slice) = Is32 slice
FileEventFits (file.AddBlob slice cdhash read lookup) = Is32 slice × IsCdhash cdhash × Is64 read × Is64 lookup
FileEventFits (file.RefuseBlob read refusal) = Is64 read × RefusalFits refusal
FileEventFits (file.Write at piece) = Is64 at × CanWrite (2 ^ 32) piece
FileEventFits (file.AddRegion region insert) = Is32 region.id × Is32 region.pid × Is64 region.first × Is64 region.pages × Is64 insert
FileEventFits (file.DropRegion id) = Is32 id
FileEventFits (file.DropPid pid) = Is32 pid
FileEventFits (file.Enter id page access flags resolve) = Is32 id × Is64 page × AreFlags flags × Is64 resolve
FileEventFits (file.Store id page at bytes resolve) = Is32 id × Is64 page × Is32 at × FewBytes 64 bytes × Is64 resolve
FileEventFits (file.Load id page at count resolve) = Is32 id × Is64 page × Is32 at × Is32 count × Is64 resolve
FileEventFits (file.Fetch id page at count resolve) = Is32 id × Is64 page × Is32 at × Is32 count × Is64 resolve
FileEventFits (file.Evict page) = Is64 page

-- the text does not keep the number of pages of a file that is mapped
abbrev pub ProcEventFits : ProcEvent → Type 0
ProcEventFits (proc.Insert at file file_pages first pages prot shared) = Is64 at × Is32 file × Is64 first × Is64 pages × (file_pages ≡ 0)
ProcEventFits (proc.Resolve addr access) = Is64 addr
ProcEventFits (proc.Remove at) = Is64 at
ProcEventFits proc.Start = Unit {0}
ProcEventFits proc.Debug = Unit {0}
ProcEventFits proc.Punish = Unit {0}
ProcEventFits proc.ClearValid = Unit {0}
ProcEventFits proc.Exit = Unit {0}

abbrev pub TrustEventFits : TrustEvent → Type 0
TrustEventFits (trust.LoadModule cache) = Is32 cache
TrustEventFits (trust.Lookup cdhash) = IsCdhash cdhash

-- an event of the place
abbrev pub EventFits : Place → Event → Type 0
EventFits (place.File f) (event.File e) = FileEventFits e
EventFits (place.Process p) (event.Proc e) = ProcEventFits e
EventFits place.Trust (event.Trust e) = TrustEventFits e
EventFits _ _ = ⊥

abbrev pub DenialFits : Denial → Type 0
DenialFits (denial.PrivateCopy page) = Is64 page
DenialFits (denial.Unsigned page) = Is64 page
DenialFits (denial.BeyondLimit page) = Is64 page
DenialFits (denial.WritableShared page region) = Is64 page × Is32 region
DenialFits (denial.Mismatch page slot found wanted) = Is64 page × Is64 slot × FewBytes 48 found × FewBytes 48 wanted
DenialFits (denial.SealedWrite page) = Is64 page

-- a reply that a file gives to its event, and how many bytes of a signature it tells of
abbrev pub SignatureFits : FileReply → ℕ → Type 0
SignatureFits (told.NoSlices r) n = RefusalFits r × (n ≡ 0)
SignatureFits (told.NoSlice count) n = Is32 count × (n ≡ 0)
SignatureFits (told.NoImage r) n = RefusalFits r × (n ≡ 0)
SignatureFits (told.PagerFault page) n = Is64 page × (n ≡ 0)
SignatureFits (told.Read bytes) n = (bytes ≡ []) × Is64 n
SignatureFits _ n = ⊥

abbrev pub BlobFits : FileReply → Type 0
BlobFits (told.Already blob) = Is32 blob
BlobFits (told.Overlap blob) = Is32 blob
BlobFits (told.Attached blob) = Is32 blob
BlobFits _ = ⊥

abbrev pub RefuseFits : FileReply → Type 0
RefuseFits told.Noted = Unit {0}
RefuseFits _ = ⊥

abbrev pub WriteFits : FileReply → Type 0
WriteFits (told.PastEnd n) = Is64 n
WriteFits (told.Short n) = Is64 n
WriteFits (told.Written n) = Is64 n
WriteFits _ = ⊥

abbrev pub AddFits : FileReply → Type 0
AddFits told.Added = Unit {0}
AddFits _ = ⊥

abbrev pub DropFits : FileReply → Type 0
DropFits (told.NoRegion id) = Is32 id
DropFits told.Dropped = Unit {0}
DropFits _ = ⊥

abbrev pub DropAllFits : FileReply → Type 0
DropAllFits (told.DroppedAll count) = Is32 count
DropAllFits _ = ⊥

abbrev pub VictimFits : Option ℕ → Type 0
VictimFits None = Unit {0}
VictimFits (Some page) = Is64 page

abbrev pub ViolationFits : Option Denial → Type 0
ViolationFits None = Unit {0}
ViolationFits (Some d) = DenialFits d

abbrev pub EnterFits : FileReply → Type 0
EnterFits (told.NoRegion id) = Is32 id
EnterFits (told.Denied d) = DenialFits d
EnterFits (told.PagerFault page) = Is64 page
EnterFits (told.Given victim violation) = VictimFits victim × ViolationFits violation
EnterFits _ = ⊥

abbrev pub StoreFits : FileReply → Type 0
StoreFits told.NotMapped = Unit {0}
StoreFits told.Stored = Unit {0}
StoreFits _ = ⊥

abbrev pub LoadFits : FileReply → Type 0
LoadFits told.NotMapped = Unit {0}
LoadFits (told.Got bytes) = FewBytes 64 bytes
LoadFits _ = ⊥

abbrev pub EvictFits : FileReply → Type 0
EvictFits told.NotResident = Unit {0}
EvictFits (told.PagerFault page) = Is64 page
EvictFits told.Evicted = Unit {0}
EvictFits _ = ⊥

abbrev pub FileReplyFits : FileEvent → FileReply → ℕ → Type 0
FileReplyFits (file.ReadSignature slice) r n = SignatureFits r n
FileReplyFits (file.AddBlob slice cdhash read lookup) r n = BlobFits r × (n ≡ 0)
FileReplyFits (file.RefuseBlob read refusal) r n = RefuseFits r × (n ≡ 0)
FileReplyFits (file.Write at piece) r n = WriteFits r × (n ≡ 0)
FileReplyFits (file.AddRegion region insert) r n = AddFits r × (n ≡ 0)
FileReplyFits (file.DropRegion id) r n = DropFits r × (n ≡ 0)
FileReplyFits (file.DropPid pid) r n = DropAllFits r × (n ≡ 0)
FileReplyFits (file.Enter id page access flags resolve) r n = EnterFits r × (n ≡ 0)
FileReplyFits (file.Store id page at bytes resolve) r n = StoreFits r × (n ≡ 0)
FileReplyFits (file.Load id page at count resolve) r n = LoadFits r × (n ≡ 0)
FileReplyFits (file.Fetch id page at count resolve) r n = LoadFits r × (n ≡ 0)
FileReplyFits (file.Evict page) r n = EvictFits r × (n ≡ 0)

-- files as the bits of a number of 16 bits
abbrev pub AreFiles : ℕ → Type 0
AreFiles files = files < 2 ^ 16

-- a reply that a process gives to its event
abbrev pub IdleFits : ProcReply → Type 0
IdleFits answer.Dead = Unit {0}
IdleFits answer.Killed = Unit {0}
IdleFits _ = ⊥

abbrev pub StartFits : ProcReply → Type 0
StartFits (answer.Started pid) = Is32 pid
StartFits (answer.Began flags) = AreFlags flags
StartFits _ = ⊥

abbrev pub InsertFits : ProcReply → Type 0
InsertFits (answer.OutOfFile pages) = Is64 pages
InsertFits (answer.Overlap id) = Is32 id
InsertFits (answer.Full limit) = limit ≡ 256
InsertFits (answer.Inserted id) = Is32 id
InsertFits other = IdleFits other

abbrev pub ResolveFits : ProcReply → Type 0
ResolveFits answer.NoMap = Unit {0}
ResolveFits (answer.Prot id) = Is32 id
ResolveFits (answer.Region id file page flags) = Is32 id × Is32 file × Is64 page × AreFlags flags
ResolveFits other = IdleFits other

abbrev pub RemoveFits : ProcReply → Type 0
RemoveFits answer.NoMap = Unit {0}
RemoveFits (answer.Removed id file) = Is32 id × Is32 file
RemoveFits other = IdleFits other

abbrev pub DebugFits : ProcReply → Type 0
DebugFits (answer.Debugged flags) = AreFlags flags
DebugFits other = IdleFits other

abbrev pub PunishFits : ProcReply → Type 0
PunishFits answer.Kill = Unit {0}
PunishFits answer.Spare = Unit {0}
PunishFits other = IdleFits other

abbrev pub ClearFits : ProcReply → Type 0
ClearFits (answer.Cleared flags) = AreFlags flags
ClearFits other = IdleFits other

abbrev pub ExitFits : ProcReply → Type 0
ExitFits (answer.Exited files) = AreFiles files
ExitFits answer.Dead = Unit {0}
ExitFits _ = ⊥

abbrev pub ProcReplyFits : ProcEvent → ProcReply → Type 0
ProcReplyFits proc.Start r = StartFits r
ProcReplyFits (proc.Insert at file file_pages first pages prot shared) r = InsertFits r
ProcReplyFits (proc.Resolve addr access) r = ResolveFits r
ProcReplyFits (proc.Remove at) r = RemoveFits r
ProcReplyFits proc.Debug r = DebugFits r
ProcReplyFits proc.Punish r = PunishFits r
ProcReplyFits proc.ClearValid r = ClearFits r
ProcReplyFits proc.Exit r = ExitFits r

-- a reply that the trust list gives to its event
abbrev pub LoadedFits : TrustReply → Type 0
LoadedFits (listed.Refused r) = RefusalFits r
LoadedFits (listed.Full limit) = limit ≡ 64
LoadedFits (listed.Loaded m) = Is32 m
LoadedFits _ = ⊥

abbrev pub LookedUpFits : TrustReply → Type 0
LookedUpFits (listed.Listed m place) = Is32 m × Is64 place
LookedUpFits listed.Unlisted = Unit {0}
LookedUpFits _ = ⊥

abbrev pub TrustReplyFits : TrustEvent → TrustReply → Type 0
TrustReplyFits (trust.LoadModule cache) r = LoadedFits r
TrustReplyFits (trust.Lookup cdhash) r = LookedUpFits r

-- a reply that the event can have, and how many bytes of a signature it tells of
abbrev pub ReplyFits : Event → Reply → ℕ → Type 0
ReplyFits (event.File e) (reply.File r) n = FileReplyFits e r n
ReplyFits (event.Proc e) (reply.Proc r) n = ProcReplyFits e r × (n ≡ 0)
ReplyFits (event.Trust e) (reply.Trust r) n = TrustReplyFits e r × (n ≡ 0)
ReplyFits _ _ n = ⊥

-- a line with this stamp
pub record LineFits (due : ℕ) (l : Line) : Type 0 where
  pub stamp : l.stamp ≡ due
  pub few : Is64 due
  pub worker : Is32 l.entry.who.worker
  pub call : Is32 l.entry.who.call
  pub place : PlaceFits l.entry.place
  pub event : EventFits l.entry.place l.entry.event
  pub reply : ReplyFits l.entry.event l.entry.reply l.read

-- lines with their places as their stamps, from a place on
abbrev pub LinesFit : ℕ → List Line → Type 0
LinesFit due [] = Unit {0}
LinesFit due (l ∷ lines) = LineFits due l × LinesFit (due + 1) lines
