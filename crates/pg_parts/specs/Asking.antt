-- What may be asked of an object, a process and the trust list.
use Rattle.std.specs.Prelude.{ℕ, ◌≡◌, ◌<◌, Option, Some, None, length}
use Rattle.pg_digest.specs.Kinds.{Hash}
use Rattle.cs_policy.specs.declared.file.FileEvent.{FileEvent}
use Rattle.cs_policy.specs.declared.file.FileEvent.TheVariants as file
use Rattle.cs_policy.specs.declared.process.ProcEvent.{ProcEvent}
use Rattle.cs_policy.specs.declared.process.ProcEvent.TheVariants as process
use Rattle.cs_policy.specs.declared.trust.TrustEvent.{TrustEvent}
use Rattle.cs_policy.specs.declared.trust.TrustEvent.TheVariants as trust
use Rattle.cs_blob.specs.Signature.{Signature}
use Rattle.cs_blob.specs.Signed.{IsSignature}
use Rattle.pg_object.specs.Object.{ObjectNow}
use Rattle.pg_object.specs.Acts.{Acts}
use Rattle.pg_plain.specs.Slices.{slice_range}
use Rattle.pg_object.specs.Kept.{IsInside}
use Rattle.pg_process.specs.ProcessStep.{PlainProcess}
use Rattle.pg_trusted.specs.TrustStep.{TrustList}
use Rattle.pg_calls.specs.declared.file_call.FileCall.{FileCall}
use Rattle.pg_calls.specs.declared.file_call.FileCall.TheVariants as asked
use Rattle.pg_calls.specs.Asking.{event_of, StaysInPage}
use Rattle.pg_parts.specs.declared.asking.FileAnswer.{FileAnswer}

-- An event that attaches no signature: a region that is added lies in the file, and bytes stay in their page.
abbrev pub MayAskPlain : ObjectNow → FileEvent → Type 0
MayAskPlain object (file.AddBlob slice cdhash read lookup) = ⊥
MayAskPlain object (file.AddRegion region insert) = IsInside object.pages.cache.pager.pages region
MayAskPlain object (file.Store id page at bytes resolve) = StaysInPage object.pages.cache.pager.page_size at (length bytes)
MayAskPlain object (file.Load id page at count resolve) = StaysInPage object.pages.cache.pager.page_size at count
MayAskPlain object (file.Fetch id page at count resolve) = StaysInPage object.pages.cache.pager.page_size at count
MayAskPlain object e = Unit {0}

-- A signature that may be attached: it is one of the slice's range, and accepted for pages as large as the file's.
pub record MayAttach (hash : Hash) (object : ObjectNow) (slice : ℕ) (blob : Signature) : Type 0 where
  pub range : slice_range object.layout slice ≡ Some blob.slice
  pub signed : IsSignature hash blob.bytes blob.slice (Some object.pages.cache.pager.page_size) blob

-- an event that attaches none, or a signature that may be attached
abbrev pub MayAskFile : Hash → ObjectNow → FileCall → Type 0
MayAskFile hash object (asked.Plain e) = MayAskPlain object e
MayAskFile hash object (asked.Attach slice blob read lookup) = MayAttach hash object slice blob

-- the signature that is attached
abbrev pub signature_in : FileCall → Option Signature
signature_in (asked.Plain e) = None
signature_in (asked.Attach slice blob read lookup) = Some blob

-- The file answered the event that was asked.
pub record AsksFile (hash : Hash) (old : ObjectNow) (asked : FileCall) (answer : FileAnswer) (new : ObjectNow) : Type 0 where
  pub event : answer.event ≡ event_of asked
  pub acts : Acts hash old (event_of asked) (signature_in asked) answer.reply new

-- An Insert is of at least one page of one of 16 files, and the process has a number left for its region.
abbrev pub MayAskProcess : PlainProcess → ProcEvent → Type 0
MayAskProcess p (process.Insert at number file_pages first pages prot shared) = (number < 16) × (0 < pages) × (p.made < 4096)
MayAskProcess p e = Unit {0}

-- a cache that is loaded is declared
abbrev pub MayAskTrust : TrustList → TrustEvent → Type 0
MayAskTrust list (trust.LoadModule cache) = cache < length list.caches
MayAskTrust list e = Unit {0}
