use Rattle.std.proofs.Common.{◌==◌, rules, tests}
use Rattle.std.proofs.lemmas.Iterator.Splits.{YieldsList-from_slice_split}
use Rattle.pg_words.specs.Lines.{words_of}
use Rattle.pg_words.proofs.CollectFacts.{read_from_collect}
use Rattle.pg_words.proofs.lines.words_of.Goals as goal

pub returns : goal.returns
unfolding words_of
returns c =
    read_from_collect (λ v. v.items) _ c.collect.ensures.ran (YieldsList-from_slice_split _ (λ b. b == 32) c.args.line.now c.split.ensures.rest c.split.ensures.done c.split.ensures.closure (λ x b q k. search (rules, tests)))
