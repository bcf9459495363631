use Rattle.std.proofs.Common.{ℕ, List, [], ◌∷◌, ◌++◌, ap, ◌∙◌, append_assoc, codes}
use Rattle.std.specs.Fmt.{decimal}
use Rattle.std.proofs.lemmas.Result.{IfOk-equal}
use Rattle.pg_words.specs.Lines.{spaced}
use Rattle.pg_report.proofs.reply_words.add_writable.Goals as goal

pub returns : goal.returns
returns c =
    let front = spaced (codes "writableshared" ∷ decimal c.args.page ∷ []) in
    IfOk-equal c.add_number.result _ _ _ c.add_number.ensures
    (ap (λ (t : List ℕ). t ++ 32 ∷ decimal c.from.result) c.in_ok-add_count.ensures
    ∙ ap (λ (n : ℕ). (c.args.text.now.items ++ front) ++ 32 ∷ decimal n) c.from.ensures
    ∙ append_assoc c.args.text.now.items front (32 ∷ decimal c.args.region))
