use Rattle.std.proofs.Common.{sym, ap, ◌∙◌}
use Rattle.std.specs.Prelude.{bytes_eq}
use Rattle.pg_words.proofs.NamedFacts.{passes}
use Rattle.pg_report.specs.Words.{proc_keyword, proc_words, proc_word}
use Rattle.pg_report.proofs.words.proc_word.Goals as goal

pub loop-key-preserved : goal.loop-key-preserved
loop-key-preserved c =
    passes proc_keyword proc_words c.args.word.now c.loop-key.key-index _ (proc_word c.args.word.now) c.loop-key-test.true
    (sym (c.if-is_text.ensures ∙ ap (bytes_eq c.args.word.now) (c.as_bytes.ensures.value ∙ c.text.ensures))) c.loop-key.invariant
