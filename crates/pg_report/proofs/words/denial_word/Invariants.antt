use Rattle.std.proofs.Common.{◌≡◌, drop}
use Rattle.pg_words.specs.Rows.{named}
use Rattle.pg_report.specs.Words.{denial_keyword, denial_word}
use Rattle.pg_report.proofs.words.denial_word.Given as goal

abbrev pub invariant-loop-key : goal.invariant-loop-key
invariant-loop-key l = named denial_keyword (drop l.key-index l.key-items) l.word ≡ denial_word l.word
