-- Entries of a history: which of them hold bytes in memory of their own, and the numbers of parts.
use Rattle.std.specs.Prelude.{ℕ, ◌+◌, ◌⊎◌}
use Rattle.cs_policy.specs.declared.file.FileEvent.{FileEvent}
use Rattle.cs_policy.specs.declared.file.FileEvent.TheVariants as event
use Rattle.cs_policy.specs.declared.file.FileReply.{FileReply}
use Rattle.cs_policy.specs.declared.file.FileReply.TheVariants as reply
use Rattle.cs_policy.specs.declared.entry.Event.{Event}
use Rattle.cs_policy.specs.declared.entry.Event.TheVariants as any_event
use Rattle.cs_policy.specs.declared.entry.Reply.{Reply}
use Rattle.cs_policy.specs.declared.entry.Reply.TheVariants as any_reply
use Rattle.cs_policy.specs.declared.entry.Place.{Place}
use Rattle.cs_policy.specs.declared.entry.Place.TheVariants.{File, Process, Trust}
use Rattle.cs_policy.specs.declared.entry.Entry.{Entry}
use Rattle.cs_policy.specs.Data.{IsHex}

-- the event is a write of bytes that were given one by one
abbrev pub HoldsEventBytes : FileEvent → Type 0
HoldsEventBytes (event.Write at piece) = IsHex piece
HoldsEventBytes other = ⊥

-- the reply has the bytes of a signature
abbrev pub HoldsReplyBytes : FileReply → Type 0
HoldsReplyBytes (reply.Read bytes) = Unit {0}
HoldsReplyBytes other = ⊥

-- the same of any part
abbrev pub HoldsAnyEventBytes : Event → Type 0
HoldsAnyEventBytes (any_event.File e) = HoldsEventBytes e
HoldsAnyEventBytes (any_event.Proc e) = ⊥
HoldsAnyEventBytes (any_event.Trust e) = ⊥

abbrev pub HoldsAnyReplyBytes : Reply → Type 0
HoldsAnyReplyBytes (any_reply.File r) = HoldsReplyBytes r
HoldsAnyReplyBytes (any_reply.Proc r) = ⊥
HoldsAnyReplyBytes (any_reply.Trust r) = ⊥

abbrev pub HoldsBytes : Entry → Type 0
HoldsBytes entry = HoldsAnyEventBytes entry.event ⊎ HoldsAnyReplyBytes entry.reply

-- the number of a part, where there are so many files and processes: files first, then processes, then the trust list
abbrev pub part_number : ℕ → ℕ → Place → ℕ
part_number files processes (File file) = file
part_number files processes (Process pid) = files + pid
part_number files processes Trust = files + processes
