use Rattle.std.proofs.Common.{◌≡◌, drop}
use Rattle.pg_words.specs.Rows.{named}
use Rattle.scene_text.specs.Keywords.{call_text, call_word}
use Rattle.scene_text.proofs.keywords.call_word.Given as goal

abbrev pub invariant-loop-key : goal.invariant-loop-key
invariant-loop-key l = named call_text (drop l.key-index l.key-items) l.word ≡ call_word l.word
