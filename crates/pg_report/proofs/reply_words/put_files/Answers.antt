use Rattle.std.proofs.Common.{◌++◌}
use Rattle.pg_report.specs.Forms.{bit_files, files_text}
use Rattle.pg_report.proofs.FileFacts.{one_listed, none_listed}
use Rattle.pg_report.proofs.reply_words.put_files.Goals as goal
use Rattle.pg_report.proofs.reply_words.put_files.Goals.{then-rest-eq1+in_ok-put_file, else-rest-eq1}

pub loop-file-preserved : goal.loop-file-preserved
loop-file-preserved c =
    let loop = c.loop-file in
    let total = c.args.text.now.items ++ files_text (bit_files 16 0 c.args.files) in
    elim c.if-rest-eq1.branch [
      | then-rest-eq1+in_ok-put_file w ↦
          rw (w.text-is, w.first-is) (one_listed loop.text.items total loop.first loop.file loop.rest c.loop-file-test.true w.put_file.new.text.items w.if-rest-eq1.true w.in_ok-put_file.ensures loop.invariant)
      | else-rest-eq1 w ↦
          rw (w.text-is, w.first-is) (none_listed loop.text.items total loop.first loop.file loop.rest c.loop-file-test.true w.if-rest-eq1.false loop.invariant)
    ]
