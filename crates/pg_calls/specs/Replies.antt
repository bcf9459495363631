-- What the parts of a run may answer: a reply of the event, which says only what is so of the opening.
use Rattle.std.specs.Prelude.{ℕ, ◌≡◌, ◌+◌, ◌<◌, ◌≤◌, Bool, true, false, IsTrue, IsSome, length}
use Rattle.std.specs.Int.{bit_at}
use Rattle.cs_policy.specs.declared.file.FileEvent.{FileEvent}
use Rattle.cs_policy.specs.declared.file.FileEvent.TheVariants as file_event
use Rattle.cs_policy.specs.declared.file.FileReply.{FileReply}
use Rattle.cs_policy.specs.declared.file.FileReply.TheVariants as file
use Rattle.cs_policy.specs.declared.process.ProcEvent.{ProcEvent}
use Rattle.cs_policy.specs.declared.process.ProcEvent.TheVariants as process_event
use Rattle.cs_policy.specs.declared.process.ProcReply.{ProcReply}
use Rattle.cs_policy.specs.declared.process.ProcReply.TheVariants as process
use Rattle.cs_policy.specs.declared.trust.TrustEvent.{TrustEvent}
use Rattle.cs_policy.specs.declared.trust.TrustEvent.TheVariants as trust_event
use Rattle.cs_policy.specs.declared.trust.TrustReply.{TrustReply}
use Rattle.cs_policy.specs.declared.trust.TrustReply.TheVariants as trust
use Rattle.cs_policy.specs.declared.entry.Event.{Event}
use Rattle.cs_policy.specs.declared.entry.Event.TheVariants as event
use Rattle.cs_policy.specs.declared.entry.Reply.{Reply}
use Rattle.cs_policy.specs.declared.entry.Reply.TheVariants as reply
use Rattle.cs_policy.specs.declared.entry.Place.{Place}
use Rattle.cs_policy.specs.declared.entry.Place.TheVariants as place
use Rattle.pg_plain.specs.Replies.{is_reply_to}
use Rattle.pg_history.specs.Opening.{Numbers, range_of}

-- ---- the replies of each event

-- the reply is one of those that a process has to the event
abbrev pub is_process_reply_to : ProcEvent → ProcReply → Bool
is_process_reply_to process_event.Start (process.Started pid) = true
is_process_reply_to process_event.Start (process.Began flags) = true
is_process_reply_to process_event.Start _ = false
is_process_reply_to process_event.Exit process.Dead = true
is_process_reply_to process_event.Exit (process.Exited files) = true
is_process_reply_to process_event.Exit _ = false
is_process_reply_to _ process.Dead = true
is_process_reply_to _ process.Killed = true
is_process_reply_to (process_event.Insert at number file_pages first pages prot shared) (process.OutOfFile count) = true
is_process_reply_to (process_event.Insert at number file_pages first pages prot shared) (process.Overlap id) = true
is_process_reply_to (process_event.Insert at number file_pages first pages prot shared) (process.Full limit) = true
is_process_reply_to (process_event.Insert at number file_pages first pages prot shared) (process.Inserted id) = true
is_process_reply_to (process_event.Resolve addr access) process.NoMap = true
is_process_reply_to (process_event.Resolve addr access) (process.Prot id) = true
is_process_reply_to (process_event.Resolve addr access) (process.Region id number page flags) = true
is_process_reply_to (process_event.Remove at) process.NoMap = true
is_process_reply_to (process_event.Remove at) (process.Removed id number) = true
is_process_reply_to process_event.Debug (process.Debugged flags) = true
is_process_reply_to process_event.Punish process.Kill = true
is_process_reply_to process_event.Punish process.Spare = true
is_process_reply_to process_event.ClearValid (process.Cleared flags) = true
is_process_reply_to _ _ = false

-- the reply is one of those that the trust list has to the event
abbrev pub is_trust_reply_to : TrustEvent → TrustReply → Bool
is_trust_reply_to (trust_event.LoadModule cache) (trust.Refused refusal) = true
is_trust_reply_to (trust_event.LoadModule cache) (trust.Full limit) = true
is_trust_reply_to (trust_event.LoadModule cache) (trust.Loaded number) = true
is_trust_reply_to (trust_event.Lookup cdhash) (trust.Listed number spot) = true
is_trust_reply_to (trust_event.Lookup cdhash) trust.Unlisted = true
is_trust_reply_to _ _ = false

-- ---- what replies say of the opening

-- bytes are read only of a slice that is a signed image
abbrev pub FileAgrees : Numbers → ℕ → FileEvent → FileReply → Type 0
FileAgrees numbers number (file_event.ReadSignature slice) (file.Read bytes) = IsSome (range_of numbers number slice)
FileAgrees numbers number _ _ = Unit {0}

-- a region lies within the pages that were said to be the file's, and the files that are named are declared
abbrev pub ProcessAgrees : Numbers → ProcEvent → ProcReply → Type 0
ProcessAgrees numbers (process_event.Insert at number file_pages first pages prot shared) (process.Inserted id) = first + pages ≤ file_pages
ProcessAgrees numbers (process_event.Resolve addr access) (process.Region id number page flags) = number < length numbers.files
ProcessAgrees numbers (process_event.Remove at) (process.Removed id number) = number < length numbers.files
ProcessAgrees numbers process_event.Exit (process.Exited files) = (number : ℕ) → bit_at files number ≡ 1 → number < length numbers.files
ProcessAgrees numbers _ _ = Unit {0}

-- ---- a reply to an event at a place

abbrev pub Answers : Numbers → Place → Event → Reply → Type 0
Answers numbers (place.File number) (event.File e) (reply.File answer) = IsTrue (is_reply_to e answer) × FileAgrees numbers number e answer
Answers numbers (place.Process pid) (event.Proc e) (reply.Proc answer) = IsTrue (is_process_reply_to e answer) × ProcessAgrees numbers e answer
Answers numbers place.Trust (event.Trust e) (reply.Trust answer) = IsTrue (is_trust_reply_to e answer)
Answers numbers _ _ _ = ⊥
