-- The plain machine: its files, its processes and its trust list, and what happens to it.
--
-- One event changes one part, which the entry's place names. A part is what the plain steps of files, processes and the
-- trust list make of its own events, in the order of the stamps.
use Rattle.std.specs.Prelude.{ℕ, ◌≡◌, ◌==◌, List, [], ◌∷◌, ◌++◌, length, find, slice_get, slice_set, Option, Some, None, unwrap_or}
use Rattle.std.specs.Option.{option_map}
use Rattle.pg_bytes.specs.declared.fields.Range.{Range}
use Rattle.pg_digest.specs.Kinds.{Hash}
use Rattle.pg_io.specs.Calls.{first_failing, count_after}
use Rattle.pg_book.specs.declared.receipt.Stamped.{Stamped}
pub use Rattle.pg_plain.specs.Slices.{signed_range}
use Rattle.cs_policy.specs.declared.file.FileEvent.{FileEvent}
use Rattle.cs_policy.specs.declared.file.FileEvent.TheVariants as file_event
use Rattle.cs_policy.specs.declared.file.FileReply.{FileReply}
use Rattle.cs_policy.specs.declared.file.FileReply.TheVariants as file_reply
use Rattle.cs_policy.specs.declared.process.ProcReply.{ProcReply}
use Rattle.cs_policy.specs.declared.trust.TrustReply.{TrustReply}
use Rattle.cs_policy.specs.declared.entry.Event.{Event}
use Rattle.cs_policy.specs.declared.entry.Event.TheVariants as event
use Rattle.cs_policy.specs.declared.entry.Reply.{Reply}
use Rattle.cs_policy.specs.declared.entry.Reply.TheVariants as reply
use Rattle.cs_policy.specs.declared.entry.Place.{Place}
use Rattle.cs_policy.specs.declared.entry.Place.TheVariants as place
use Rattle.cs_policy.specs.declared.entry.Entry.{Entry}
use Rattle.cs_blob.specs.Signature.{Signature}
use Rattle.cs_blob.specs.Signed.{signature}
use Rattle.pg_plain.specs.PlainFile.{PlainFile}
use Rattle.pg_plain.specs.Calls.{seat_of, page_calls, calls_made}
use Rattle.pg_plain.specs.Steps.{file_step}
use Rattle.pg_process.specs.ProcessStep.{PlainProcess, process_step}
use Rattle.pg_trusted.specs.TrustStep.{TrustList, trust_step}

-- an entry of a history: what happened, with its stamp, its part and its caller
abbrev pub Line : Type 0
Line = Stamped Entry

-- bytes of a slice's signature, as an entry with this stamp read them
pub record Reading : Type 0 where
  pub stamp : ℕ
  pub slice : ℕ
  pub bytes : List ℕ

-- A file with its pager.
pub record FilePart : Type 0 where
  pub file : PlainFile
  -- how many calls its pager has answered, and the numbers of the calls that fail
  pub made : ℕ
  pub fails : List ℕ
  -- the signatures that were read of it, in the order of their stamps
  pub readings : List Reading

-- The files and the processes by their numbers, and the trust list.
pub record Machine : Type 0 where
  pub files : List FilePart
  pub processes : List PlainProcess
  pub trust : TrustList

-- ---- a file

-- the reading that has the stamp
abbrev pub reading_at : List Reading → ℕ → Option Reading
reading_at readings stamp = find (λ reading. reading.stamp == stamp) readings

-- the signature that bytes are, for a slice of this range and pages of this size
abbrev pub signature_read : Hash → ℕ → Option Reading → Option Range → Option Signature
signature_read hash size (Some reading) (Some range) = Some (signature hash reading.bytes range (Some size))
signature_read hash size _ _ = None

-- the signature that an event attaches: that of the bytes that it names
abbrev pub blob_of : Hash → FilePart → FileEvent → Option Signature
blob_of hash part (file_event.AddBlob slice cdhash read lookup) =
    signature_read hash part.file.page_size (reading_at part.readings read) (signed_range (seat_of part.file slice))
blob_of hash part _ = None

-- which of the event's pager calls fails first, counted from 1, or 0
abbrev pub outcome_of : Hash → FilePart → FileEvent → ℕ
outcome_of hash part e = first_failing part.made part.fails (length (page_calls hash part.file e))

-- the slice whose signature the event reads, and the bytes that a reply gives of it
abbrev pub slice_read : FileEvent → Option ℕ
slice_read (file_event.ReadSignature slice) = Some slice
slice_read _ = None

abbrev pub bytes_read : FileReply → Option (List ℕ)
bytes_read (file_reply.Read bytes) = Some bytes
bytes_read _ = None

-- the readings after an event of this stamp: one more where a signature was read
abbrev pub with_reading : ℕ → Option ℕ → Option (List ℕ) → List Reading → List Reading
with_reading stamp (Some slice) (Some bytes) readings = readings ++ record { stamp = stamp; slice = slice; bytes = bytes } ∷ []
with_reading stamp _ _ readings = readings

-- the part after the plain step of its file
abbrev pub with_answer : Hash → ℕ → FilePart → FileEvent → FileReply × PlainFile → FileReply × FilePart
with_answer hash stamp part e answer = (
  answer.0,
  record part {
    file = answer.1;
    made = count_after part.made (calls_made (outcome_of hash part e) (length (page_calls hash part.file e)));
    readings = with_reading stamp (slice_read e) (bytes_read answer.0) part.readings;
  },
)

-- what a file replies to an event with this stamp, and what it is then
abbrev pub part_step : Hash → ℕ → FilePart → FileEvent → FileReply × FilePart
part_step hash stamp part e =
    with_answer hash stamp part e (file_step hash part.file e (blob_of hash part e) (outcome_of hash part e))

-- ---- the machine

abbrev pub with_file : Machine → ℕ → FileReply × FilePart → Reply × Machine
with_file m number answer = (reply.File answer.0, record m { files = slice_set m.files number answer.1 })

abbrev pub with_process : Machine → ℕ → ProcReply × PlainProcess → Reply × Machine
with_process m number answer = (reply.Proc answer.0, record m { processes = slice_set m.processes number answer.1 })

abbrev pub with_trust : Machine → TrustReply × TrustList → Reply × Machine
with_trust m answer = (reply.Trust answer.0, record m { trust = answer.1 })

-- What the machine replies to an event with this stamp at a place, and what it is then. There is no reply where the
-- place is none of the machine's, or the event is of another kind of part.
abbrev pub step : Hash → Machine → ℕ → Place → Event → Option (Reply × Machine)
step hash m stamp (place.File number) (event.File e) =
    option_map (λ part. with_file m number (part_step hash stamp part e)) (slice_get m.files number)
step hash m stamp (place.Process number) (event.Proc e) =
    option_map (λ p. with_process m number (process_step p e)) (slice_get m.processes number)
step hash m stamp place.Trust (event.Trust e) = Some (with_trust m (trust_step m.trust e))
step hash m stamp _ _ = None

-- the reply to the event of a line
abbrev pub reply_to : Hash → Machine → Line → Option Reply
reply_to hash m e = option_map (λ answer. answer.0) (step hash m e.stamp e.entry.place e.entry.event)

-- the machine after it
abbrev pub after : Hash → Machine → Line → Machine
after hash m e = unwrap_or (option_map (λ answer. answer.1) (step hash m e.stamp e.entry.place e.entry.event)) m

-- ---- histories

-- the machine after the events of these lines
abbrev pub replay : Hash → Machine → List Line → Machine
replay hash m [] = m
replay hash m (e ∷ es) = replay hash (after hash m e) es

-- each line's reply is what the machine replies then
abbrev pub Answered : Hash → Machine → List Line → Type 0
Answered hash m [] = Unit {0}
Answered hash m (e ∷ es) = (reply_to hash m e ≡ Some e.entry.reply) × Answered hash (after hash m e) es
