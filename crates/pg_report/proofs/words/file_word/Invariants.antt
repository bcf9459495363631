use Rattle.std.proofs.Common.{◌≡◌, drop}
use Rattle.pg_words.specs.Rows.{named}
use Rattle.pg_report.specs.Words.{file_keyword, file_word}
use Rattle.pg_report.proofs.words.file_word.Given as goal

abbrev pub invariant-loop-key : goal.invariant-loop-key
invariant-loop-key l = named file_keyword (drop l.key-index l.key-items) l.word ≡ file_word l.word
