-- What the words of replies say, each behind its event: event and keyword tell the row of the table.
use Rattle.std.specs.Prelude.{ℕ, List, [], ◌∷◌, Option, None, option_map, option_and_then}
use Rattle.cs_policy.specs.declared.file.FileEvent.{FileEvent}
use Rattle.cs_policy.specs.declared.file.FileEvent.TheVariants as file_event
use Rattle.cs_policy.specs.declared.file.FileReply.{FileReply}
use Rattle.cs_policy.specs.declared.file.FileReply.TheVariants as file
use Rattle.cs_policy.specs.declared.process.ProcEvent.{ProcEvent}
use Rattle.cs_policy.specs.declared.process.ProcEvent.TheVariants as proc_event
use Rattle.cs_policy.specs.declared.process.ProcReply.{ProcReply}
use Rattle.cs_policy.specs.declared.process.ProcReply.TheVariants as proc
use Rattle.cs_policy.specs.declared.trust.TrustEvent.{TrustEvent}
use Rattle.cs_policy.specs.declared.trust.TrustEvent.TheVariants as trust_event
use Rattle.cs_policy.specs.declared.trust.TrustReply.{TrustReply}
use Rattle.cs_policy.specs.declared.trust.TrustReply.TheVariants as trust
use Rattle.cs_policy.specs.declared.entry.Event.{Event}
use Rattle.cs_policy.specs.declared.entry.Event.TheVariants as event
use Rattle.cs_policy.specs.declared.entry.Reply.{Reply}
use Rattle.cs_policy.specs.declared.entry.Reply.TheVariants as reply
use Rattle.pg_report.specs.declared.words.ReplyWord.{ReplyWord}
use Rattle.pg_report.specs.declared.words.ReplyWord.TheVariants as key
use Rattle.pg_report.specs.Words.{reply_word}
use Rattle.pg_report.specs.ReplyTable.{Told}
use Rattle.pg_report.specs.ReplyTable as row

-- a reply that tells of no bytes of a signature
abbrev pub plainly : FileReply → Told
plainly r = (r, 0)

-- what a file answers to each of its events: the words behind the first one
abbrev pub signature_row : ReplyWord → List (List ℕ) → Option Told
signature_row key.NoSlices words = option_map plainly (row.no_slices.says words)
signature_row key.NoSlice words = option_map plainly (row.no_slice.says words)
signature_row key.NoImage words = option_map plainly (row.no_image.says words)
signature_row key.PagerFault words = option_map plainly (row.pager_fault.says words)
signature_row key.Read words = row.read.says words
signature_row other words = None

abbrev pub blob_row : ReplyWord → List (List ℕ) → Option FileReply
blob_row key.Already words = row.already.says words
blob_row key.Overlap words = row.overlap.says words
blob_row key.Attached words = row.attached.says words
blob_row other words = None

abbrev pub refuse_row : ReplyWord → List (List ℕ) → Option FileReply
refuse_row key.Noted words = (row.alone file.Noted).says words
refuse_row other words = None

abbrev pub write_row : ReplyWord → List (List ℕ) → Option FileReply
write_row key.PastEnd words = row.past_end.says words
write_row key.Short words = row.short.says words
write_row key.Written words = row.written.says words
write_row other words = None

abbrev pub region_row : ReplyWord → List (List ℕ) → Option FileReply
region_row key.Added words = (row.alone file.Added).says words
region_row other words = None

abbrev pub drop_row : ReplyWord → List (List ℕ) → Option FileReply
drop_row key.NoRegion words = row.no_region.says words
drop_row key.Dropped words = (row.alone file.Dropped).says words
drop_row other words = None

abbrev pub drop_all_row : ReplyWord → List (List ℕ) → Option FileReply
drop_all_row key.Dropped words = row.dropped_all.says words
drop_all_row other words = None

abbrev pub enter_row : ReplyWord → List (List ℕ) → Option FileReply
enter_row key.NoRegion words = row.no_region.says words
enter_row key.Denied words = row.denied.says words
enter_row key.PagerFault words = row.pager_fault.says words
enter_row key.Given words = row.given.says words
enter_row other words = None

abbrev pub store_row : ReplyWord → List (List ℕ) → Option FileReply
store_row key.NotMapped words = (row.alone file.NotMapped).says words
store_row key.Stored words = (row.alone file.Stored).says words
store_row other words = None

abbrev pub load_row : ReplyWord → List (List ℕ) → Option FileReply
load_row key.NotMapped words = (row.alone file.NotMapped).says words
load_row key.Bytes words = row.got.says words
load_row other words = None

abbrev pub evict_row : ReplyWord → List (List ℕ) → Option FileReply
evict_row key.NotResident words = (row.alone file.NotResident).says words
evict_row key.PagerFault words = row.pager_fault.says words
evict_row key.Evicted words = (row.alone file.Evicted).says words
evict_row other words = None

abbrev pub file_reply_row : FileEvent → ReplyWord → List (List ℕ) → Option Told
file_reply_row (file_event.ReadSignature slice) key words = signature_row key words
file_reply_row (file_event.AddBlob slice cdhash read lookup) key words = option_map plainly (blob_row key words)
file_reply_row (file_event.RefuseBlob read refusal) key words = option_map plainly (refuse_row key words)
file_reply_row (file_event.Write at piece) key words = option_map plainly (write_row key words)
file_reply_row (file_event.AddRegion region insert) key words = option_map plainly (region_row key words)
file_reply_row (file_event.DropRegion id) key words = option_map plainly (drop_row key words)
file_reply_row (file_event.DropPid pid) key words = option_map plainly (drop_all_row key words)
file_reply_row (file_event.Enter id page access flags resolve) key words = option_map plainly (enter_row key words)
file_reply_row (file_event.Store id page at bytes resolve) key words = option_map plainly (store_row key words)
file_reply_row (file_event.Load id page at count resolve) key words = option_map plainly (load_row key words)
file_reply_row (file_event.Fetch id page at count resolve) key words = option_map plainly (load_row key words)
file_reply_row (file_event.Evict page) key words = option_map plainly (evict_row key words)

-- what a process answers: of a process that was not started, has ended or was killed too
abbrev pub dead_row : ReplyWord → List (List ℕ) → Option ProcReply
dead_row key.Dead words = (row.alone proc.Dead).says words
dead_row other words = None

abbrev pub idle_row : ReplyWord → List (List ℕ) → Option ProcReply
idle_row key.Dead words = (row.alone proc.Dead).says words
idle_row key.Killed words = (row.alone proc.Killed).says words
idle_row other words = None

abbrev pub start_row : ReplyWord → List (List ℕ) → Option ProcReply
start_row key.Started words = row.started.says words
start_row key.Began words = row.began.says words
start_row other words = None

abbrev pub insert_row : ReplyWord → List (List ℕ) → Option ProcReply
insert_row key.OutOfFile words = row.out_of_file.says words
insert_row key.Overlap words = row.overlapped.says words
insert_row key.Full words = row.regions_full.says words
insert_row key.Inserted words = row.inserted.says words
insert_row other words = idle_row other words

abbrev pub resolve_row : ReplyWord → List (List ℕ) → Option ProcReply
resolve_row key.NoMap words = (row.alone proc.NoMap).says words
resolve_row key.Prot words = row.prot.says words
resolve_row key.Region words = row.region.says words
resolve_row other words = idle_row other words

abbrev pub remove_row : ReplyWord → List (List ℕ) → Option ProcReply
remove_row key.NoMap words = (row.alone proc.NoMap).says words
remove_row key.Removed words = row.removed.says words
remove_row other words = idle_row other words

abbrev pub debug_row : ReplyWord → List (List ℕ) → Option ProcReply
debug_row key.Debugged words = row.debugged.says words
debug_row other words = idle_row other words

abbrev pub punish_row : ReplyWord → List (List ℕ) → Option ProcReply
punish_row key.Kill words = (row.alone proc.Kill).says words
punish_row key.Spare words = (row.alone proc.Spare).says words
punish_row other words = idle_row other words

abbrev pub clear_row : ReplyWord → List (List ℕ) → Option ProcReply
clear_row key.Cleared words = row.cleared.says words
clear_row other words = idle_row other words

abbrev pub exit_row : ReplyWord → List (List ℕ) → Option ProcReply
exit_row key.Exited words = row.exited.says words
exit_row other words = dead_row other words

abbrev pub proc_reply_row : ProcEvent → ReplyWord → List (List ℕ) → Option ProcReply
proc_reply_row proc_event.Start key words = start_row key words
proc_reply_row (proc_event.Insert at file file_pages first pages prot shared) key words = insert_row key words
proc_reply_row (proc_event.Resolve addr access) key words = resolve_row key words
proc_reply_row (proc_event.Remove at) key words = remove_row key words
proc_reply_row proc_event.Debug key words = debug_row key words
proc_reply_row proc_event.Punish key words = punish_row key words
proc_reply_row proc_event.ClearValid key words = clear_row key words
proc_reply_row proc_event.Exit key words = exit_row key words

-- what the trust list answers
abbrev pub load_module_row : ReplyWord → List (List ℕ) → Option TrustReply
load_module_row key.Refused words = row.refused.says words
load_module_row key.Full words = row.modules_full.says words
load_module_row key.Loaded words = row.loaded.says words
load_module_row other words = None

abbrev pub lookup_row : ReplyWord → List (List ℕ) → Option TrustReply
lookup_row key.Listed words = row.listed.says words
lookup_row key.Unlisted words = (row.alone trust.Unlisted).says words
lookup_row other words = None

abbrev pub trust_reply_row : TrustEvent → ReplyWord → List (List ℕ) → Option TrustReply
trust_reply_row (trust_event.LoadModule cache) key words = load_module_row key words
trust_reply_row (trust_event.Lookup cdhash) key words = lookup_row key words

-- a reply and how many bytes it tells of, behind an event
abbrev pub reply_row : Event → ReplyWord → List (List ℕ) → Option (Reply × ℕ)
reply_row (event.File e) key words = option_map (λ told. (reply.File told.0, told.1)) (file_reply_row e key words)
reply_row (event.Proc e) key words = option_map (λ r. (reply.Proc r, 0)) (proc_reply_row e key words)
reply_row (event.Trust e) key words = option_map (λ r. (reply.Trust r, 0)) (trust_reply_row e key words)

unfoldable pub reply_of : Event → List (List ℕ) → Option (Reply × ℕ)
reply_of event [] = None
reply_of event (word ∷ words) = option_and_then (λ key. reply_row event key words) (reply_word word)
