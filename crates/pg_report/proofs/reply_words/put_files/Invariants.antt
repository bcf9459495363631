use Rattle.std.proofs.Common.{◌≡◌, ◌++◌, ◌-◌}
use Rattle.pg_report.specs.Forms.{bit_files, files_text}
use Rattle.pg_report.specs.ReplyParts.{listed}
use Rattle.pg_report.proofs.reply_words.put_files.Given as goal

abbrev pub invariant-loop-file : goal.invariant-loop-file
invariant-loop-file l = l.text.items ++ listed l.first (bit_files (16 - l.file) l.file l.rest) ≡ l.fn.text.items ++ files_text (bit_files 16 0 l.files)
