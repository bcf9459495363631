-- How replies are printed: the keyword of each, and the words of its row of the table. Of the bytes of a signature the number
-- is printed, which is given beside.
use Rattle.std.specs.Prelude.{ℕ, List, [], ◌∷◌, length}
use Rattle.cs_policy.specs.declared.file.FileReply.{FileReply}
use Rattle.cs_policy.specs.declared.file.FileReply.TheVariants as file
use Rattle.cs_policy.specs.declared.process.ProcReply.{ProcReply}
use Rattle.cs_policy.specs.declared.process.ProcReply.TheVariants as proc
use Rattle.cs_policy.specs.declared.trust.TrustReply.{TrustReply}
use Rattle.cs_policy.specs.declared.trust.TrustReply.TheVariants as trust
use Rattle.cs_policy.specs.declared.entry.Reply.{Reply}
use Rattle.cs_policy.specs.declared.entry.Reply.TheVariants as reply
use Rattle.pg_report.specs.declared.words.ReplyWord.TheVariants as word
use Rattle.pg_report.specs.Words.{reply_keyword}
use Rattle.pg_report.specs.ReplyTable as row

-- replies of files
abbrev pub file_reply_words : ℕ → FileReply → List (List ℕ)
file_reply_words read (file.NoSlices refusal) = reply_keyword word.NoSlices ∷ row.no_slices.words refusal
file_reply_words read (file.NoSlice count) = reply_keyword word.NoSlice ∷ row.no_slice.words count
file_reply_words read (file.NoImage refusal) = reply_keyword word.NoImage ∷ row.no_image.words refusal
file_reply_words read (file.PagerFault page) = reply_keyword word.PagerFault ∷ row.pager_fault.words page
file_reply_words read (file.Read bytes) = reply_keyword word.Read ∷ row.read.words read
file_reply_words read (file.Already blob) = reply_keyword word.Already ∷ row.already.words blob
file_reply_words read (file.Overlap blob) = reply_keyword word.Overlap ∷ row.overlap.words blob
file_reply_words read (file.Attached blob) = reply_keyword word.Attached ∷ row.attached.words blob
file_reply_words read file.Noted = reply_keyword word.Noted ∷ (row.alone file.Noted).words tt
file_reply_words read (file.PastEnd length) = reply_keyword word.PastEnd ∷ row.past_end.words length
file_reply_words read (file.Short written) = reply_keyword word.Short ∷ row.short.words written
file_reply_words read (file.Written count) = reply_keyword word.Written ∷ row.written.words count
file_reply_words read file.Added = reply_keyword word.Added ∷ (row.alone file.Added).words tt
file_reply_words read (file.NoRegion id) = reply_keyword word.NoRegion ∷ row.no_region.words id
file_reply_words read file.Dropped = reply_keyword word.Dropped ∷ (row.alone file.Dropped).words tt
file_reply_words read (file.DroppedAll count) = reply_keyword word.Dropped ∷ row.dropped_all.words count
file_reply_words read (file.Denied denial) = reply_keyword word.Denied ∷ row.denied.words denial
file_reply_words read (file.Given victim violation) = reply_keyword word.Given ∷ row.given.words (victim, violation)
file_reply_words read file.NotMapped = reply_keyword word.NotMapped ∷ (row.alone file.NotMapped).words tt
file_reply_words read file.Stored = reply_keyword word.Stored ∷ (row.alone file.Stored).words tt
file_reply_words read (file.Got bytes) = reply_keyword word.Bytes ∷ row.got.words bytes
file_reply_words read file.NotResident = reply_keyword word.NotResident ∷ (row.alone file.NotResident).words tt
file_reply_words read file.Evicted = reply_keyword word.Evicted ∷ (row.alone file.Evicted).words tt

-- replies of processes
abbrev pub proc_reply_words : ProcReply → List (List ℕ)
proc_reply_words proc.Dead = reply_keyword word.Dead ∷ (row.alone proc.Dead).words tt
proc_reply_words proc.Killed = reply_keyword word.Killed ∷ (row.alone proc.Killed).words tt
proc_reply_words (proc.Started pid) = reply_keyword word.Started ∷ row.started.words pid
proc_reply_words (proc.Began flags) = reply_keyword word.Began ∷ row.began.words flags
proc_reply_words (proc.OutOfFile pages) = reply_keyword word.OutOfFile ∷ row.out_of_file.words pages
proc_reply_words (proc.Overlap id) = reply_keyword word.Overlap ∷ row.overlapped.words id
proc_reply_words (proc.Full limit) = reply_keyword word.Full ∷ row.regions_full.words limit
proc_reply_words (proc.Inserted id) = reply_keyword word.Inserted ∷ row.inserted.words id
proc_reply_words proc.NoMap = reply_keyword word.NoMap ∷ (row.alone proc.NoMap).words tt
proc_reply_words (proc.Prot id) = reply_keyword word.Prot ∷ row.prot.words id
proc_reply_words (proc.Region id file page flags) = reply_keyword word.Region ∷ row.region.words (id, file, page, flags)
proc_reply_words (proc.Removed id file) = reply_keyword word.Removed ∷ row.removed.words (id, file)
proc_reply_words (proc.Debugged flags) = reply_keyword word.Debugged ∷ row.debugged.words flags
proc_reply_words proc.Kill = reply_keyword word.Kill ∷ (row.alone proc.Kill).words tt
proc_reply_words proc.Spare = reply_keyword word.Spare ∷ (row.alone proc.Spare).words tt
proc_reply_words (proc.Cleared flags) = reply_keyword word.Cleared ∷ row.cleared.words flags
proc_reply_words (proc.Exited files) = reply_keyword word.Exited ∷ row.exited.words files

-- replies of the trust list
abbrev pub trust_reply_words : TrustReply → List (List ℕ)
trust_reply_words (trust.Refused refusal) = reply_keyword word.Refused ∷ row.refused.words refusal
trust_reply_words (trust.Full limit) = reply_keyword word.Full ∷ row.modules_full.words limit
trust_reply_words (trust.Loaded m) = reply_keyword word.Loaded ∷ row.loaded.words m
trust_reply_words (trust.Listed m place) = reply_keyword word.Listed ∷ row.listed.words (m, place)
trust_reply_words trust.Unlisted = reply_keyword word.Unlisted ∷ (row.alone trust.Unlisted).words tt

abbrev pub reply_words : ℕ → Reply → List (List ℕ)
reply_words read (reply.File r) = file_reply_words read r
reply_words read (reply.Proc r) = proc_reply_words r
reply_words read (reply.Trust r) = trust_reply_words r

-- how many bytes of a signature the reply has
abbrev pub file_read_count : FileReply → ℕ
file_read_count (file.Read bytes) = length bytes
file_read_count other = 0

abbrev pub read_count : Reply → ℕ
read_count (reply.File r) = file_read_count r
read_count (reply.Proc r) = 0
read_count (reply.Trust r) = 0
