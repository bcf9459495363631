use Rattle.std.proofs.Common.{◌≡◌, drop}
use Rattle.pg_words.specs.Rows.{named}
use Rattle.pg_report.specs.Words.{proc_keyword, proc_word}
use Rattle.pg_report.proofs.words.proc_word.Given as goal

abbrev pub invariant-loop-key : goal.invariant-loop-key
invariant-loop-key l = named proc_keyword (drop l.key-index l.key-items) l.word ≡ proc_word l.word
