use Rattle.std.proofs.Common.{◌++◌, [], ◌∷◌, ℕ, map, sym, ap, ◌∙◌, arith}
use Rattle.std.specs.List.{range_with_len}
use Rattle.std.proofs.lemmas.List.FromFn.{map-range_with_len_more}
use Rattle.pg_book.specs.declared.needs.Needs.{Needs}
use Rattle.pg_calls.specs.Scripts.{calls_use}
use Rattle.scene_run.specs.Needs.{place_of}
use Rattle.scene_run.proofs.needs.row.Goals as goal

pub loop-part-preserved : goal.loop-part-preserved
loop-part-preserved c =
    c.in_ok-push.ensures.items
    ∙ ap (λ xs. xs ++ c.script_uses.result ∷ []) c.loop-part.invariant
    ∙ ap (λ n. map f (range_with_len 0 c.loop-part.part) ++ n ∷ []) (c.script_uses.ensures.uses ∙ ap (λ p. calls_use c.args.script.now p) c.place_of.ensures)
    ∙ sym (map-range_with_len_more f 0 c.loop-part.part c.loop-part.part (omega arith))
  where
    f : ℕ → Needs
    f part = calls_use c.args.script.now (place_of c.args.files c.args.processes part)
