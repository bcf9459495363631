-- The stamps that an event names: each is of an earlier entry of the same call, on which the event rests.
use Rattle.std.specs.Prelude.{ℕ, ◌≡◌, ◌<◌, IsTrue, List, slice_get, Some, None}
use Rattle.pg_bytes.specs.declared.fields.Range.{Range}
use Rattle.pg_digest.specs.Kinds.{Hash}
use Rattle.cs_policy.specs.declared.access.Access.{Access}
use Rattle.cs_policy.specs.declared.flags.ProcFlags.{ProcFlags}
use Rattle.cs_policy.specs.declared.region.Region.{Region}
use Rattle.cs_policy.specs.declared.refusal.Refusal.{Refusal}
use Rattle.cs_policy.specs.declared.file.FileEvent.TheVariants as file
use Rattle.cs_policy.specs.declared.file.FileReply.TheVariants as file_reply
use Rattle.cs_policy.specs.declared.process.ProcEvent.TheVariants as process
use Rattle.cs_policy.specs.declared.process.ProcReply.TheVariants as process_reply
use Rattle.cs_policy.specs.declared.trust.TrustEvent.TheVariants as trust
use Rattle.cs_policy.specs.declared.trust.TrustReply.{TrustReply}
use Rattle.cs_policy.specs.declared.entry.Event.{Event}
use Rattle.cs_policy.specs.declared.entry.Event.TheVariants as event
use Rattle.cs_policy.specs.declared.entry.Reply.TheVariants as reply
use Rattle.cs_policy.specs.declared.entry.Place.{Place}
use Rattle.cs_policy.specs.declared.entry.Place.TheVariants as place
use Rattle.cs_blob.specs.declared.refusal.BlobRefusal.{BlobRefusal}
use Rattle.cs_blob.specs.Refusals.{refusal_of}
use Rattle.cs_blob.specs.Rules.{broken}
use Rattle.cs_blob.specs.Signed.{signature}
use Rattle.pg_history.specs.Machine.{Line}
use Rattle.pg_history.specs.Opening.{Numbers, pages_of, range_of}
use Rattle.pg_history.specs.Calls.{admits}

-- the line at this stamp stands before the other, and is of the same worker and call
pub record IsNamed (history : List Line) (e : Line) (stamp : ℕ) (named : Line) : Type 0 where
  pub here : slice_get history stamp ≡ Some named
  pub earlier : stamp < e.stamp
  pub same_call : named.entry.who ≡ e.entry.who

-- the bytes of the slice's signature were read there
pub record NamesReading (history : List Line) (e : Line) (stamp number slice : ℕ) (bytes : List ℕ) : Type 0 where
  pub reading : Line
  pub named : IsNamed history e stamp reading
  pub place : reading.entry.place ≡ place.File number
  pub event : reading.entry.event ≡ event.File (file.ReadSignature slice)
  pub reply : reading.entry.reply ≡ reply.File (file_reply.Read bytes)

-- the cdhash was looked up there, with this answer
pub record NamesLookup (history : List Line) (e : Line) (stamp : ℕ) (cdhash : List ℕ) (answer : TrustReply) : Type 0 where
  pub lookup : Line
  pub named : IsNamed history e stamp lookup
  pub place : lookup.entry.place ≡ place.Trust
  pub event : lookup.entry.event ≡ event.Trust (trust.Lookup cdhash)
  pub reply : lookup.entry.reply ≡ reply.Trust answer

-- an AddBlob: the bytes that were read are a signature of the slice with this cdhash, and what was answered of the cdhash
-- admits it
pub record LinksBlob (hash : Hash) (numbers : Numbers) (history : List Line) (e : Line) (number slice : ℕ) (cdhash : List ℕ) (read lookup : ℕ) : Type 0 where
  pub bytes : List ℕ
  pub range : Range
  pub answer : TrustReply
  pub is_read : NamesReading history e read number slice bytes
  pub signed : range_of numbers number slice ≡ Some range
  pub unbroken : broken hash bytes range (Some numbers.page_size) ≡ None
  pub same : cdhash ≡ (signature hash bytes range (Some numbers.page_size)).cdhash
  pub looked_up : NamesLookup history e lookup cdhash answer
  pub admitted : IsTrue (admits numbers.adhoc (signature hash bytes range (Some numbers.page_size)) answer)

-- a RefuseBlob: the refusal is that of the first rule that the bytes break
pub record LinksRefusal (hash : Hash) (numbers : Numbers) (history : List Line) (e : Line) (number read : ℕ) (refusal : Refusal) : Type 0 where
  pub slice : ℕ
  pub bytes : List ℕ
  pub range : Range
  pub rule : BlobRefusal
  pub is_read : NamesReading history e read number slice bytes
  pub signed : range_of numbers number slice ≡ Some range
  pub is_broken : broken hash bytes range (Some numbers.page_size) ≡ Some rule
  pub same : refusal ≡ refusal_of rule

-- an AddRegion: the region is what an Insert asked for and was given
pub record LinksRegion (history : List Line) (e : Line) (number : ℕ) (region : Region) (stamp : ℕ) : Type 0 where
  pub insert : Line
  pub at : ℕ
  pub file_pages : ℕ
  pub named : IsNamed history e stamp insert
  pub place : insert.entry.place ≡ place.Process region.pid
  pub event : insert.entry.event ≡ event.Proc (process.Insert at number file_pages region.first region.pages region.prot region.shared)
  pub reply : insert.entry.reply ≡ reply.Proc (process_reply.Inserted region.id)

-- an Enter: region, page and flags are those that a Resolve found; a Store, Load or Fetch: so are region and page
pub record LinksResolved (history : List Line) (e : Line) (number id page : ℕ) (flags : ProcFlags) (stamp : ℕ) : Type 0 where
  pub resolve : Line
  pub pid : ℕ
  pub addr : ℕ
  pub access : Access
  pub named : IsNamed history e stamp resolve
  pub place : resolve.entry.place ≡ place.Process pid
  pub event : resolve.entry.event ≡ event.Proc (process.Resolve addr access)
  pub reply : resolve.entry.reply ≡ reply.Proc (process_reply.Region id number page flags)

-- the same, whatever the flags were
pub record LinksFound (history : List Line) (e : Line) (number id page stamp : ℕ) : Type 0 where
  pub flags : ProcFlags
  pub resolved : LinksResolved history e number id page flags stamp

-- what the event of a line at a place rests on
abbrev pub IsLinkedAt : Hash → Numbers → List Line → Line → Place → Event → Type 0
IsLinkedAt hash numbers history e (place.File number) (event.File (file.AddBlob slice cdhash read lookup)) =
    LinksBlob hash numbers history e number slice cdhash read lookup
IsLinkedAt hash numbers history e (place.File number) (event.File (file.RefuseBlob read refusal)) =
    LinksRefusal hash numbers history e number read refusal
IsLinkedAt hash numbers history e (place.File number) (event.File (file.AddRegion region insert)) =
    LinksRegion history e number region insert
IsLinkedAt hash numbers history e (place.File number) (event.File (file.Enter id page access flags resolve)) =
    LinksResolved history e number id page flags resolve
IsLinkedAt hash numbers history e (place.File number) (event.File (file.Store id page at bytes resolve)) =
    LinksFound history e number id page resolve
IsLinkedAt hash numbers history e (place.File number) (event.File (file.Load id page at count resolve)) =
    LinksFound history e number id page resolve
IsLinkedAt hash numbers history e (place.File number) (event.File (file.Fetch id page at count resolve)) =
    LinksFound history e number id page resolve
IsLinkedAt hash numbers history e (place.Process pid) (event.Proc (process.Insert at number file_pages first pages prot shared)) =
    file_pages ≡ pages_of numbers number
IsLinkedAt hash numbers history e _ _ = Unit {0}

abbrev pub IsLinked : Hash → Numbers → List Line → Line → Type 0
IsLinked hash numbers history e = IsLinkedAt hash numbers history e e.entry.place e.entry.event
