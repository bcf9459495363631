-- What may be asked of the parts of a run.
use Rattle.std.specs.Prelude.{ℕ, ◌≡◌, ◌+◌, ◌<◌, ◌≤◌, IsTrue, List, length, Contains, Some}
use Rattle.pg_book.specs.declared.receipt.Receipt.{Receipt}
use Rattle.pg_book.specs.Closing.{stamped}
use Rattle.pg_digest.specs.Kinds.{Hash}
use Rattle.cs_policy.specs.declared.file.FileEvent.{FileEvent}
use Rattle.cs_policy.specs.declared.file.FileEvent.TheVariants as file
use Rattle.cs_policy.specs.declared.file.FileReply.TheVariants as file_reply
use Rattle.cs_policy.specs.declared.process.ProcEvent.{ProcEvent}
use Rattle.cs_policy.specs.declared.process.ProcEvent.TheVariants as process
use Rattle.cs_policy.specs.declared.trust.TrustEvent.{TrustEvent}
use Rattle.cs_policy.specs.declared.trust.TrustEvent.TheVariants as trust
use Rattle.cs_policy.specs.declared.trust.TrustReply.{TrustReply}
use Rattle.cs_policy.specs.declared.entry.Event.TheVariants as event
use Rattle.cs_policy.specs.declared.entry.Reply.TheVariants as reply
use Rattle.cs_policy.specs.declared.entry.Place.TheVariants as place
use Rattle.cs_policy.specs.declared.entry.Who.{Who}
use Rattle.cs_policy.specs.declared.entry.Entry.{Entry}
use Rattle.cs_policy.specs.Entry.{part_number}
use Rattle.cs_blob.specs.Signature.{Signature}
use Rattle.cs_blob.specs.Signed.{IsSignature}
use Rattle.pg_history.specs.Opening.{Numbers, pages_of, range_of}
use Rattle.pg_history.specs.Calls.{admits}
use Rattle.pg_calls.specs.declared.file_call.FileCall.{FileCall}
use Rattle.pg_calls.specs.declared.file_call.FileCall.TheVariants as asked
use Rattle.pg_calls.specs.Parts.{PartsNow}

-- ---- a file

-- the event that is asked for
abbrev pub event_of : FileCall → FileEvent
event_of (asked.Plain e) = e
event_of (asked.Attach slice blob read lookup) = file.AddBlob slice blob.cdhash read.stamp lookup.stamp

-- so many bytes from this one on, 1 to 64, stay in a page
pub record StaysInPage (size at count : ℕ) : Type 0 where
  pub some : 0 < count
  pub most : count ≤ 64
  pub fits : at + count ≤ size

-- An event that attaches no signature: a region that is added lies in the file, and bytes stay in their page.
abbrev pub IsProperPlain : Numbers → ℕ → FileEvent → Type 0
IsProperPlain numbers number (file.AddBlob slice cdhash read lookup) = ⊥
IsProperPlain numbers number (file.AddRegion region insert) = region.first + region.pages ≤ pages_of numbers number
IsProperPlain numbers number (file.Store id page at bytes resolve) = StaysInPage numbers.page_size at (length bytes)
IsProperPlain numbers number (file.Load id page at count resolve) = StaysInPage numbers.page_size at count
IsProperPlain numbers number (file.Fetch id page at count resolve) = StaysInPage numbers.page_size at count
IsProperPlain numbers number e = Unit {0}

-- the receipt is of the reading that gave these bytes of the slice's signature
pub record IsReadingOf (numbers : Numbers) (who : Who) (number slice : ℕ) (bytes : List ℕ) (read : Receipt Entry) : Type 0 where
  pub by_whom : read.entry.who ≡ who
  pub part : read.part ≡ part_number (length numbers.files) numbers.processes (place.File number)
  pub place : read.entry.place ≡ place.File number
  pub event : read.entry.event ≡ event.File (file.ReadSignature slice)
  pub reply : read.entry.reply ≡ reply.File (file_reply.Read bytes)

-- the receipt is of a lookup of the signature's cdhash, whose answer admits the signature
pub record IsLookupOf (numbers : Numbers) (who : Who) (blob : Signature) (lookup : Receipt Entry) : Type 0 where
  pub answer : TrustReply
  pub by_whom : lookup.entry.who ≡ who
  pub place : lookup.entry.place ≡ place.Trust
  pub event : lookup.entry.event ≡ event.Trust (trust.Lookup blob.cdhash)
  pub reply : lookup.entry.reply ≡ reply.Trust answer
  pub admitted : IsTrue (admits numbers.adhoc blob answer)

-- A signature that may be attached: it is of the slice's range, its bytes were read by the same call, and its cdhash was
-- looked up by it.
pub record IsProperBlob (hash : Hash) (now : PartsNow) (who : Who) (number slice : ℕ) (blob : Signature)
    (read lookup : Receipt Entry) : Type 0 where
  pub signed : IsSignature hash blob.bytes blob.slice (Some now.numbers.page_size) blob
  pub range : range_of now.numbers number slice ≡ Some blob.slice
  pub reading : IsReadingOf now.numbers who number slice blob.bytes read
  pub looked_up : IsLookupOf now.numbers who blob lookup
  pub read_here : Contains now.made (stamped read)
  pub looked_up_here : Contains now.made (stamped lookup)

abbrev pub IsProper : Hash → PartsNow → Who → ℕ → FileCall → Type 0
IsProper hash now who number (asked.Plain e) = IsProperPlain now.numbers number e
IsProper hash now who number (asked.Attach slice blob read lookup) = IsProperBlob hash now who number slice blob read lookup

-- the events that may want memory: those that take bytes out of a file or into it
abbrev pub TakesMemory : FileEvent → Type 0
TakesMemory (file.ReadSignature slice) = Unit {0}
TakesMemory (file.Write at piece) = Unit {0}
TakesMemory e = ⊥

-- ---- a process, and the trust list

-- pages are mapped of a declared file, and at least one
abbrev pub IsProperOf : Numbers → ProcEvent → Type 0
IsProperOf numbers (process.Insert at number file_pages first pages prot shared) = (number < length numbers.files) × (0 < pages)
IsProperOf numbers e = Unit {0}

-- the cache that is loaded is declared
abbrev pub IsProperTrust : Numbers → TrustEvent → Type 0
IsProperTrust numbers (trust.LoadModule cache) = cache < numbers.caches
IsProperTrust numbers e = Unit {0}
