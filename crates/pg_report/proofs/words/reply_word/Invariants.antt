use Rattle.std.proofs.Common.{◌≡◌, drop}
use Rattle.pg_words.specs.Rows.{named}
use Rattle.pg_report.specs.Words.{reply_keyword, reply_word}
use Rattle.pg_report.proofs.words.reply_word.Given as goal

abbrev pub invariant-loop-key : goal.invariant-loop-key
invariant-loop-key l = named reply_keyword (drop l.key-index l.key-items) l.word ≡ reply_word l.word
