use Rattle.std.proofs.Common.{◌≡◌, drop}
use Rattle.pg_words.specs.Rows.{named}
use Rattle.scene_text.specs.Keywords.{head_text, head_word}
use Rattle.scene_text.proofs.keywords.head_word.Given as goal

abbrev pub invariant-loop-key : goal.invariant-loop-key
invariant-loop-key l = named head_text (drop l.key-index l.key-items) l.word ≡ head_word l.word
