use Rattle.std.proofs.Common.{◌≡◌, drop}
use Rattle.pg_words.specs.Rows.{named}
use Rattle.pg_report.specs.Words.{trust_keyword, trust_word}
use Rattle.pg_report.proofs.words.trust_word.Given as goal

abbrev pub invariant-loop-key : goal.invariant-loop-key
invariant-loop-key l = named trust_keyword (drop l.key-index l.key-items) l.word ≡ trust_word l.word
