-- The words of a process's reply as it is printed say the reply.
use Rattle.std.proofs.Common.{ℕ, ◌^◌, ◌<◌, refl, arith}
use Rattle.cs_policy.specs.declared.process.ProcEvent.{ProcEvent}
use Rattle.cs_policy.specs.declared.process.ProcEvent.TheVariants as proc
use Rattle.cs_policy.specs.declared.process.ProcReply.{ProcReply}
use Rattle.cs_policy.specs.declared.process.ProcReply.TheVariants as answer
use Rattle.pg_words.specs.Names.{name_word}
use Rattle.pg_report.specs.declared.words.ReplyWord.TheVariants as key
use Rattle.pg_report.specs.Forms.{long, short, only, file_form, process_form, flags_form, files_form, bits_form}
use Rattle.pg_report.specs.Replies.{proc_reply_words}
use Rattle.pg_report.specs.Forms.{bit_files, files_text}
use Rattle.pg_report.specs.ReplyRows.{start_row, insert_row, resolve_row, remove_row, debug_row, punish_row, clear_row, exit_row, proc_reply_row}
use Rattle.pg_report.specs.Fits.{StartFits, InsertFits, ResolveFits, RemoveFits, DebugFits, PunishFits, ClearFits, ExitFits, ProcReplyFits}
use Rattle.pg_report.proofs.RowAgain.{Col, col, row0_of, row1_of, row2_of, row4_of, long_col, short_col, file_col, process_col, flags_col}
use Rattle.pg_report.proofs.FilesAgain.{files_again, files_is_word}
use Rattle.pg_report.proofs.AnswerAgain.{Answered, only_col}

files_col : (files : ℕ) → files < 2 ^ 16 → Col files_form (files_text (bit_files 16 0 files)) files
unfolding files_form bits_form name_word
files_col files lt = col files_form _ files refl (files_again files lt) (files_is_word files)

start_again : (r : ProcReply) → StartFits r → Answered start_row (proc_reply_words r) r
start_again answer.Dead f = elim f [ ]
start_again answer.Killed f = elim f [ ]
start_again (answer.Started pid) f = record { key = key.Started; rest = _; is = refl; reads = row1_of process_form (λ x. answer.Started x) (process_col pid f) }
start_again (answer.Began flags) f = record { key = key.Began; rest = _; is = refl; reads = row1_of flags_form (λ x. answer.Began x) (flags_col flags f) }
start_again (answer.OutOfFile pages) f = elim f [ ]
start_again (answer.Overlap id) f = elim f [ ]
start_again (answer.Full limit) f = elim f [ ]
start_again (answer.Inserted id) f = elim f [ ]
start_again answer.NoMap f = elim f [ ]
start_again (answer.Prot id) f = elim f [ ]
start_again (answer.Region id file page flags) f = elim f [ ]
start_again (answer.Removed id file) f = elim f [ ]
start_again (answer.Debugged flags) f = elim f [ ]
start_again answer.Kill f = elim f [ ]
start_again answer.Spare f = elim f [ ]
start_again (answer.Cleared flags) f = elim f [ ]
start_again (answer.Exited files) f = elim f [ ]

insert_again : (r : ProcReply) → InsertFits r → Answered insert_row (proc_reply_words r) r
insert_again answer.Dead f = record { key = key.Dead; rest = _; is = refl; reads = row0_of answer.Dead }
insert_again answer.Killed f = record { key = key.Killed; rest = _; is = refl; reads = row0_of answer.Killed }
insert_again (answer.Started pid) f = elim f [ ]
insert_again (answer.Began flags) f = elim f [ ]
insert_again (answer.OutOfFile pages) f = record { key = key.OutOfFile; rest = _; is = refl; reads = row1_of long (λ x. answer.OutOfFile x) (long_col pages f) }
insert_again (answer.Overlap id) f = record { key = key.Overlap; rest = _; is = refl; reads = row1_of short (λ x. answer.Overlap x) (short_col id f) }
insert_again (answer.Full limit) f = record { key = key.Full; rest = _; is = refl; reads = row1_of (only 256) (λ x. answer.Full x) (only_col 256 limit (omega arith) f) }
insert_again (answer.Inserted id) f = record { key = key.Inserted; rest = _; is = refl; reads = row1_of short (λ x. answer.Inserted x) (short_col id f) }
insert_again answer.NoMap f = elim f [ ]
insert_again (answer.Prot id) f = elim f [ ]
insert_again (answer.Region id file page flags) f = elim f [ ]
insert_again (answer.Removed id file) f = elim f [ ]
insert_again (answer.Debugged flags) f = elim f [ ]
insert_again answer.Kill f = elim f [ ]
insert_again answer.Spare f = elim f [ ]
insert_again (answer.Cleared flags) f = elim f [ ]
insert_again (answer.Exited files) f = elim f [ ]

resolve_again : (r : ProcReply) → ResolveFits r → Answered resolve_row (proc_reply_words r) r
resolve_again answer.Dead f = record { key = key.Dead; rest = _; is = refl; reads = row0_of answer.Dead }
resolve_again answer.Killed f = record { key = key.Killed; rest = _; is = refl; reads = row0_of answer.Killed }
resolve_again (answer.Started pid) f = elim f [ ]
resolve_again (answer.Began flags) f = elim f [ ]
resolve_again (answer.OutOfFile pages) f = elim f [ ]
resolve_again (answer.Overlap id) f = elim f [ ]
resolve_again (answer.Full limit) f = elim f [ ]
resolve_again (answer.Inserted id) f = elim f [ ]
resolve_again answer.NoMap f = record { key = key.NoMap; rest = _; is = refl; reads = row0_of answer.NoMap }
resolve_again (answer.Prot id) f = record { key = key.Prot; rest = _; is = refl; reads = row1_of short (λ x. answer.Prot x) (short_col id f) }
resolve_again (answer.Region id file page flags) f = record { key = key.Region; rest = _; is = refl; reads = row4_of short file_form long flags_form (λ x y z w. answer.Region x y z w) (short_col id f.0) (file_col file f.1) (long_col page f.2) (flags_col flags f.3) }
resolve_again (answer.Removed id file) f = elim f [ ]
resolve_again (answer.Debugged flags) f = elim f [ ]
resolve_again answer.Kill f = elim f [ ]
resolve_again answer.Spare f = elim f [ ]
resolve_again (answer.Cleared flags) f = elim f [ ]
resolve_again (answer.Exited files) f = elim f [ ]

remove_again : (r : ProcReply) → RemoveFits r → Answered remove_row (proc_reply_words r) r
remove_again answer.Dead f = record { key = key.Dead; rest = _; is = refl; reads = row0_of answer.Dead }
remove_again answer.Killed f = record { key = key.Killed; rest = _; is = refl; reads = row0_of answer.Killed }
remove_again (answer.Started pid) f = elim f [ ]
remove_again (answer.Began flags) f = elim f [ ]
remove_again (answer.OutOfFile pages) f = elim f [ ]
remove_again (answer.Overlap id) f = elim f [ ]
remove_again (answer.Full limit) f = elim f [ ]
remove_again (answer.Inserted id) f = elim f [ ]
remove_again answer.NoMap f = record { key = key.NoMap; rest = _; is = refl; reads = row0_of answer.NoMap }
remove_again (answer.Prot id) f = elim f [ ]
remove_again (answer.Region id file page flags) f = elim f [ ]
remove_again (answer.Removed id file) f = record { key = key.Removed; rest = _; is = refl; reads = row2_of short file_form (λ x y. answer.Removed x y) (short_col id f.0) (file_col file f.1) }
remove_again (answer.Debugged flags) f = elim f [ ]
remove_again answer.Kill f = elim f [ ]
remove_again answer.Spare f = elim f [ ]
remove_again (answer.Cleared flags) f = elim f [ ]
remove_again (answer.Exited files) f = elim f [ ]

debug_again : (r : ProcReply) → DebugFits r → Answered debug_row (proc_reply_words r) r
debug_again answer.Dead f = record { key = key.Dead; rest = _; is = refl; reads = row0_of answer.Dead }
debug_again answer.Killed f = record { key = key.Killed; rest = _; is = refl; reads = row0_of answer.Killed }
debug_again (answer.Started pid) f = elim f [ ]
debug_again (answer.Began flags) f = elim f [ ]
debug_again (answer.OutOfFile pages) f = elim f [ ]
debug_again (answer.Overlap id) f = elim f [ ]
debug_again (answer.Full limit) f = elim f [ ]
debug_again (answer.Inserted id) f = elim f [ ]
debug_again answer.NoMap f = elim f [ ]
debug_again (answer.Prot id) f = elim f [ ]
debug_again (answer.Region id file page flags) f = elim f [ ]
debug_again (answer.Removed id file) f = elim f [ ]
debug_again (answer.Debugged flags) f = record { key = key.Debugged; rest = _; is = refl; reads = row1_of flags_form (λ x. answer.Debugged x) (flags_col flags f) }
debug_again answer.Kill f = elim f [ ]
debug_again answer.Spare f = elim f [ ]
debug_again (answer.Cleared flags) f = elim f [ ]
debug_again (answer.Exited files) f = elim f [ ]

punish_again : (r : ProcReply) → PunishFits r → Answered punish_row (proc_reply_words r) r
punish_again answer.Dead f = record { key = key.Dead; rest = _; is = refl; reads = row0_of answer.Dead }
punish_again answer.Killed f = record { key = key.Killed; rest = _; is = refl; reads = row0_of answer.Killed }
punish_again (answer.Started pid) f = elim f [ ]
punish_again (answer.Began flags) f = elim f [ ]
punish_again (answer.OutOfFile pages) f = elim f [ ]
punish_again (answer.Overlap id) f = elim f [ ]
punish_again (answer.Full limit) f = elim f [ ]
punish_again (answer.Inserted id) f = elim f [ ]
punish_again answer.NoMap f = elim f [ ]
punish_again (answer.Prot id) f = elim f [ ]
punish_again (answer.Region id file page flags) f = elim f [ ]
punish_again (answer.Removed id file) f = elim f [ ]
punish_again (answer.Debugged flags) f = elim f [ ]
punish_again answer.Kill f = record { key = key.Kill; rest = _; is = refl; reads = row0_of answer.Kill }
punish_again answer.Spare f = record { key = key.Spare; rest = _; is = refl; reads = row0_of answer.Spare }
punish_again (answer.Cleared flags) f = elim f [ ]
punish_again (answer.Exited files) f = elim f [ ]

clear_again : (r : ProcReply) → ClearFits r → Answered clear_row (proc_reply_words r) r
clear_again answer.Dead f = record { key = key.Dead; rest = _; is = refl; reads = row0_of answer.Dead }
clear_again answer.Killed f = record { key = key.Killed; rest = _; is = refl; reads = row0_of answer.Killed }
clear_again (answer.Started pid) f = elim f [ ]
clear_again (answer.Began flags) f = elim f [ ]
clear_again (answer.OutOfFile pages) f = elim f [ ]
clear_again (answer.Overlap id) f = elim f [ ]
clear_again (answer.Full limit) f = elim f [ ]
clear_again (answer.Inserted id) f = elim f [ ]
clear_again answer.NoMap f = elim f [ ]
clear_again (answer.Prot id) f = elim f [ ]
clear_again (answer.Region id file page flags) f = elim f [ ]
clear_again (answer.Removed id file) f = elim f [ ]
clear_again (answer.Debugged flags) f = elim f [ ]
clear_again answer.Kill f = elim f [ ]
clear_again answer.Spare f = elim f [ ]
clear_again (answer.Cleared flags) f = record { key = key.Cleared; rest = _; is = refl; reads = row1_of flags_form (λ x. answer.Cleared x) (flags_col flags f) }
clear_again (answer.Exited files) f = elim f [ ]

exit_again : (r : ProcReply) → ExitFits r → Answered exit_row (proc_reply_words r) r
exit_again answer.Dead f = record { key = key.Dead; rest = _; is = refl; reads = row0_of answer.Dead }
exit_again answer.Killed f = elim f [ ]
exit_again (answer.Started pid) f = elim f [ ]
exit_again (answer.Began flags) f = elim f [ ]
exit_again (answer.OutOfFile pages) f = elim f [ ]
exit_again (answer.Overlap id) f = elim f [ ]
exit_again (answer.Full limit) f = elim f [ ]
exit_again (answer.Inserted id) f = elim f [ ]
exit_again answer.NoMap f = elim f [ ]
exit_again (answer.Prot id) f = elim f [ ]
exit_again (answer.Region id file page flags) f = elim f [ ]
exit_again (answer.Removed id file) f = elim f [ ]
exit_again (answer.Debugged flags) f = elim f [ ]
exit_again answer.Kill f = elim f [ ]
exit_again answer.Spare f = elim f [ ]
exit_again (answer.Cleared flags) f = elim f [ ]
exit_again (answer.Exited files) f = record { key = key.Exited; rest = _; is = refl; reads = row1_of files_form (λ x. answer.Exited x) (files_col files f) }

pub proc_again : (e : ProcEvent) (r : ProcReply) → ProcReplyFits e r → Answered (proc_reply_row e) (proc_reply_words r) r
proc_again proc.Start r f = start_again r f
proc_again (proc.Insert at file file_pages first pages prot shared) r f = insert_again r f
proc_again (proc.Resolve addr access) r f = resolve_again r f
proc_again (proc.Remove at) r f = remove_again r f
proc_again proc.Debug r f = debug_again r f
proc_again proc.Punish r f = punish_again r f
proc_again proc.ClearValid r f = clear_again r f
proc_again proc.Exit r f = exit_again r f
