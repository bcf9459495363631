use Rattle.std.proofs.Common.{[], ◌∷◌, ◌++◌, ap, ◌∙◌}
use Rattle.pg_book.specs.declared.needs.Needs.{Needs}
use Rattle.pg_book.specs.Trials.{evenly}
use Rattle.pg_book.proofs.Trials.{replicate_push}
use Rattle.pg_book.proofs.tests.row_of.Goals as goal

pub loop-part-preserved : goal.loop-part-preserved
loop-part-preserved c =
    c.in_ok-push.ensures.items
    ∙ ap (λ (n : Needs). c.loop-part.row.items ++ n ∷ []) c.of_entries.ensures
    ∙ ap (λ l. l ++ evenly c.args.entries ∷ []) c.loop-part.invariant
    ∙ replicate_push c.loop-part._part (evenly c.args.entries)
