-- The events that a call makes, each with the arguments that the replies before it determine.
use Rattle.std.specs.Prelude.{ℕ, ◌%◌, ◌==◌, ◌&&◌, Bool, true, false, List, [], ◌∷◌, length, filter, slice_get, Option, Some, None, bit_and}
use Rattle.std.specs.List.{range_with_len}
use Rattle.std.specs.Int.{bit_at}
use Rattle.std.specs.Option.{option_map, option_and_then}
use Rattle.pg_bytes.specs.declared.fields.Range.{Range}
use Rattle.pg_digest.specs.Kinds.{Hash}
use Rattle.cs_policy.specs.declared.access.Access.TheVariants.{Read, Write, Execute}
use Rattle.cs_policy.specs.declared.access.Access.{Access}
use Rattle.cs_policy.specs.declared.access.Prot.{Prot}
use Rattle.cs_policy.specs.declared.flags.ProcFlags.{ProcFlags}
use Rattle.cs_policy.specs.declared.file.FileEvent.TheVariants as file
use Rattle.cs_policy.specs.declared.file.FileReply.{FileReply}
use Rattle.cs_policy.specs.declared.file.FileReply.TheVariants as file_reply
use Rattle.cs_policy.specs.declared.process.ProcEvent.{ProcEvent}
use Rattle.cs_policy.specs.declared.process.ProcReply.{ProcReply}
use Rattle.cs_policy.specs.declared.process.ProcEvent.TheVariants as process
use Rattle.cs_policy.specs.declared.process.ProcReply.TheVariants as process_reply
use Rattle.cs_policy.specs.declared.trust.TrustEvent.TheVariants as trust
use Rattle.cs_policy.specs.declared.trust.TrustReply.{TrustReply}
use Rattle.cs_policy.specs.declared.trust.TrustReply.TheVariants as trust_reply
use Rattle.cs_policy.specs.declared.entry.Event.{Event}
use Rattle.cs_policy.specs.declared.entry.Event.TheVariants as event
use Rattle.cs_policy.specs.declared.entry.Reply.{Reply}
use Rattle.cs_policy.specs.declared.entry.Reply.TheVariants as reply
use Rattle.cs_policy.specs.declared.entry.Place.{Place}
use Rattle.cs_policy.specs.declared.entry.Place.TheVariants as place
use Rattle.cs_policy.specs.declared.call.Call.{Call}
use Rattle.cs_policy.specs.declared.call.Call.TheVariants as call
use Rattle.cs_blob.specs.declared.refusal.BlobRefusal.{BlobRefusal}
use Rattle.cs_blob.specs.Refusals.{refusal_of}
use Rattle.cs_blob.specs.Rules.{broken}
use Rattle.cs_blob.specs.Signature.{Signature}
use Rattle.cs_blob.specs.Signed.{signature}
use Rattle.pg_history.specs.Machine.{Line, bytes_read}
use Rattle.pg_history.specs.Opening.{Numbers, pages_of, range_of}

-- an event, and the place of the part to which it happens
abbrev pub Asked : Type 0
Asked = Place × Event

-- ---- what lets a signature be attached

-- the flag ADHOC of a code directory, in the numbers of XNU's `cs_blobs.h`
abbrev pub adhoc_flag : ℕ
adhoc_flag = 0x2

-- the best code directory has the flag ADHOC
abbrev pub is_adhoc : Signature → Bool
is_adhoc blob = bit_and blob.best.flags adhoc_flag == adhoc_flag

-- The trust list's answer lets the signature be attached: it lists the cdhash, or the policy lets signatures with ADHOC
-- go unlisted and this is one.
abbrev pub admits : Bool → Signature → TrustReply → Bool
admits adhoc blob (trust_reply.Listed number spot) = true
admits adhoc blob trust_reply.Unlisted = adhoc && is_adhoc blob
admits adhoc blob _ = false

-- ---- what a reply tells

abbrev pub of_file : Reply → Option FileReply
of_file (reply.File answer) = Some answer
of_file (reply.Proc answer) = None
of_file (reply.Trust answer) = None

abbrev pub of_process : Reply → Option ProcReply
of_process (reply.File answer) = None
of_process (reply.Proc answer) = Some answer
of_process (reply.Trust answer) = None

abbrev pub of_trust : Reply → Option TrustReply
of_trust (reply.File answer) = None
of_trust (reply.Proc answer) = None
of_trust (reply.Trust answer) = Some answer

-- the number of the region that was inserted
abbrev pub inserted : ProcReply → Option ℕ
inserted (process_reply.Inserted id) = Some id
inserted _ = None

-- the region that was removed, and its file
abbrev pub removed : ProcReply → Option (ℕ × ℕ)
removed (process_reply.Removed id number) = Some (id, number)
removed _ = None

-- what an address was found to mean
pub record Found : Type 0 where
  pub id : ℕ
  pub number : ℕ
  pub page : ℕ
  pub flags : ProcFlags

abbrev pub found : ProcReply → Option Found
found (process_reply.Region id number page flags) = Some (record { id = id; number = number; page = page; flags = flags })
found _ = None

-- the files of the regions of a process that ended, one bit a file
abbrev pub exited : ProcReply → Option ℕ
exited (process_reply.Exited files) = Some files
exited _ = None

-- what the process of a fault meets: a denial has it punished, and a violation clears VALID
abbrev pub judged : FileReply → Option ProcEvent
judged (file_reply.Denied denial) = Some process.Punish
judged (file_reply.Given left (Some violation)) = Some process.ClearValid
judged _ = None

-- ---- the events behind the first

-- after an Insert: its region is made known to the file
abbrev pub after_insert : ℕ → ℕ → ℕ → ℕ → Prot → Bool → Line → Option Asked
after_insert pid number first pages prot shared insert =
    option_map (λ id. (
      place.File number,
      event.File (file.AddRegion
          (record { id = id; pid = pid; first = first; pages = pages; prot = prot; shared = shared }) insert.stamp),
    ))
    (option_and_then inserted (of_process insert.entry.reply))

-- after a Remove: the region is dropped from the file
abbrev pub after_remove : Line → Option Asked
after_remove remove =
    option_map (λ gone. (place.File gone.1, event.File (file.DropRegion gone.0))) (option_and_then removed (of_process remove.entry.reply))

-- bytes that were read for a slice of this range: where they break the grammar of signatures they are refused, and else
-- the cdhash is looked up
abbrev pub tried_by : Option BlobRefusal → ℕ → ℕ → Signature → Asked
tried_by (Some refusal) number stamp blob = (place.File number, event.File (file.RefuseBlob stamp (refusal_of refusal)))
tried_by None number stamp blob = (place.Trust, event.Trust (trust.Lookup blob.cdhash))

abbrev pub tried : Hash → ℕ → ℕ → ℕ → List ℕ → Range → Asked
tried hash size number stamp bytes range =
    tried_by (broken hash bytes range (Some size)) number stamp (signature hash bytes range (Some size))

-- the bytes that a ReadSignature gave
abbrev pub bytes_of : Line → Option (List ℕ)
bytes_of read = option_and_then bytes_read (of_file read.entry.reply)

-- after a ReadSignature that gave bytes
abbrev pub after_read : Hash → Numbers → ℕ → ℕ → Line → Option Asked
after_read hash numbers number slice read =
    option_and_then (λ bytes. option_map (tried hash numbers.page_size number read.stamp bytes) (range_of numbers number slice)) (bytes_of read)

-- the signature that was read is attached, where the answer admits it
abbrev pub attached_if : Bool → ℕ → ℕ → ℕ → ℕ → Signature → Option Asked
attached_if true number slice read lookup blob = Some (place.File number, event.File (file.AddBlob slice blob.cdhash read lookup))
attached_if false number slice read lookup blob = None

-- by the bytes, the slice's range and the answer
abbrev pub attached_by : Hash → Numbers → ℕ → ℕ → ℕ → ℕ → Option (List ℕ) → Option Range → Option TrustReply → Option Asked
attached_by hash numbers number slice read lookup (Some bytes) (Some range) (Some answer) =
    attached_if (admits numbers.adhoc (signature hash bytes range (Some numbers.page_size)) answer) number slice read lookup
    (signature hash bytes range (Some numbers.page_size))
attached_by hash numbers number slice read lookup _ _ _ = None

-- after a Lookup, behind the ReadSignature before it
abbrev pub after_lookup : Hash → Numbers → ℕ → ℕ → Line → Line → Option Asked
after_lookup hash numbers number slice read lookup =
    attached_by hash numbers number slice read.stamp lookup.stamp (bytes_of read) (range_of numbers number slice) (of_trust lookup.entry.reply)

-- what a Resolve found
abbrev pub found_by : Line → Option Found
found_by resolve = option_and_then found (of_process resolve.entry.reply)

-- after the Resolve of a fault: the page is asked for
abbrev pub faulted : Access → ℕ → Found → Asked
faulted access stamp x = (place.File x.number, event.File (file.Enter x.id x.page access x.flags stamp))

-- after an Enter
abbrev pub after_enter : ℕ → Line → Option Asked
after_enter pid enter = option_map (λ e. (place.Process pid, event.Proc e)) (option_and_then judged (of_file enter.entry.reply))

-- the files of an Exited, ascending: those whose bit is set
abbrev pub files_in : ℕ → List ℕ
files_in bits = filter (λ number. bit_at bits number == 1) (range_with_len 0 16)

-- after an Exit, and after so many of the files dropped the regions of the process: the next file drops them
abbrev pub after_exit : ℕ → Line → ℕ → Option Asked
after_exit pid exit dropped =
    option_and_then (λ files. option_map (λ number. (place.File number, event.File (file.DropPid pid))) (slice_get (files_in files) dropped))
    (option_and_then exited (of_process exit.entry.reply))

-- ---- each call

-- The event that a call makes next, after these entries of its own, or none where it is complete.
abbrev pub next_event : Hash → Numbers → Call → List Line → Option Asked
next_event hash numbers (call.Spawn pid) [] = Some (place.Process pid, event.Proc process.Start)
next_event hash numbers (call.Map pid addr number first pages prot shared) [] =
    Some (place.Process pid, event.Proc (process.Insert addr number (pages_of numbers number) first pages prot shared))
next_event hash numbers (call.Map pid addr number first pages prot shared) (insert ∷ []) =
    after_insert pid number first pages prot shared insert
next_event hash numbers (call.Unmap pid addr) [] = Some (place.Process pid, event.Proc (process.Remove addr))
next_event hash numbers (call.Unmap pid addr) (remove ∷ []) = after_remove remove
next_event hash numbers (call.Attach number slice) [] = Some (place.File number, event.File (file.ReadSignature slice))
next_event hash numbers (call.Attach number slice) (read ∷ []) = after_read hash numbers number slice read
next_event hash numbers (call.Attach number slice) (read ∷ lookup ∷ []) =
    after_lookup hash numbers number slice read lookup
next_event hash numbers (call.LoadTrust cache) [] = Some (place.Trust, event.Trust (trust.LoadModule cache))
next_event hash numbers (call.Fault pid addr access) [] = Some (place.Process pid, event.Proc (process.Resolve addr access))
next_event hash numbers (call.Fault pid addr access) (resolve ∷ []) = option_map (faulted access resolve.stamp) (found_by resolve)
next_event hash numbers (call.Fault pid addr access) (resolve ∷ enter ∷ []) = after_enter pid enter
next_event hash numbers (call.Store pid addr bytes) [] = Some (place.Process pid, event.Proc (process.Resolve addr Write))
next_event hash numbers (call.Store pid addr bytes) (resolve ∷ []) =
    option_map (λ x. (place.File x.number, event.File (file.Store x.id x.page (addr % numbers.page_size) bytes resolve.stamp))) (found_by resolve)
next_event hash numbers (call.Load pid addr count) [] = Some (place.Process pid, event.Proc (process.Resolve addr Read))
next_event hash numbers (call.Load pid addr count) (resolve ∷ []) =
    option_map (λ x. (place.File x.number, event.File (file.Load x.id x.page (addr % numbers.page_size) count resolve.stamp))) (found_by resolve)
next_event hash numbers (call.Fetch pid addr count) [] = Some (place.Process pid, event.Proc (process.Resolve addr Execute))
next_event hash numbers (call.Fetch pid addr count) (resolve ∷ []) =
    option_map (λ x. (place.File x.number, event.File (file.Fetch x.id x.page (addr % numbers.page_size) count resolve.stamp))) (found_by resolve)
next_event hash numbers (call.Write number at piece) [] = Some (place.File number, event.File (file.Write at piece))
next_event hash numbers (call.Evict number page) [] = Some (place.File number, event.File (file.Evict page))
next_event hash numbers (call.Debug pid) [] = Some (place.Process pid, event.Proc process.Debug)
next_event hash numbers (call.Exit pid) [] = Some (place.Process pid, event.Proc process.Exit)
next_event hash numbers (call.Exit pid) (exit ∷ drops) = after_exit pid exit (length drops)
next_event hash numbers _ _ = None
