-- What a journal tells of a history.
use Rattle.std.specs.Prelude.{◌≡◌, ℕ, ◌<◌, ◌^◌, List, [], length, map}
use Rattle.pg_digest.specs.Kinds.{Hash}
use Rattle.cs_policy.specs.declared.call.Call.{Call}
use Rattle.cs_policy.specs.declared.file.FileReply.{FileReply}
use Rattle.cs_policy.specs.declared.file.FileReply.TheVariants as file_reply
use Rattle.cs_policy.specs.declared.process.ProcEvent.{ProcEvent}
use Rattle.cs_policy.specs.declared.process.ProcEvent.TheVariants as proc
use Rattle.cs_policy.specs.declared.entry.Event.{Event}
use Rattle.cs_policy.specs.declared.entry.Event.TheVariants as event
use Rattle.cs_policy.specs.declared.entry.Reply.{Reply}
use Rattle.cs_policy.specs.declared.entry.Reply.TheVariants as reply
use Rattle.cs_policy.specs.declared.entry.Entry.{Entry}
use Rattle.pg_book.specs.declared.receipt.Stamped.{Stamped}
use Rattle.pg_report.specs.declared.line.Line.{Line}
use Rattle.pg_report.specs.Replies.{read_count}
use Rattle.pg_report.specs.Fits.{LinesFit}
use Rattle.pg_report.specs.Journal.{journal}
use Rattle.pg_history.specs.Opening.{Opening}
use Rattle.pg_history.specs.Legal.{Legal}

-- an event without the number of pages of a file that it maps
abbrev pub proc_event_told : ProcEvent → ProcEvent
proc_event_told (proc.Insert at file file_pages first pages prot shared) = proc.Insert at file 0 first pages prot shared
proc_event_told other = other

abbrev pub event_told : Event → Event
event_told (event.Proc e) = event.Proc (proc_event_told e)
event_told other = other

-- a reply without the bytes of a signature
abbrev pub file_reply_told : FileReply → FileReply
file_reply_told (file_reply.Read bytes) = file_reply.Read []
file_reply_told other = other

abbrev pub reply_told : Reply → Reply
reply_told (reply.File r) = reply.File (file_reply_told r)
reply_told other = other

-- the line of a journal that tells of an entry
abbrev pub line_told : Stamped Entry → Line
line_told e = record {
  stamp = e.stamp;
  entry = record e.entry { event = event_told e.entry.event; reply = reply_told e.entry.reply };
  read = read_count e.entry.reply;
}

-- each number of the history is one of its type, and each entry has a reply of a kind that its event can have
pub record IsHeld (history : List (Stamped Entry)) (calls : ℕ) : Type 0 where
  pub entries : length history < 2 ^ 64
  pub counted : calls < 2 ^ 64
  pub lines : LinesFit 0 (map line_told history)

-- two legal histories of one opening are equal where their journals are
abbrev pub JournalsTellHistories : Type 0
JournalsTellHistories =
    (hash : Hash) (o : Opening) (scripts others : List (List Call)) (one other : List (Stamped Entry)) (calls more : ℕ)
    → Legal hash o scripts one → Legal hash o others other → IsHeld one calls → IsHeld other more
    → journal one calls ≡ journal other more → (one ≡ other) × (calls ≡ more)

-- Two legal histories of the same scripts from one opening are equal where their journals are: the scripts and the order of
-- the workers fix each entry.
abbrev pub ScriptsTellHistories : Type 0
ScriptsTellHistories =
    (hash : Hash) (o : Opening) (scripts : List (List Call)) (one other : List (Stamped Entry)) (calls more : ℕ) → length scripts < 2 ^ 64
    → Legal hash o scripts one → Legal hash o scripts other → journal one calls ≡ journal other more → one ≡ other
