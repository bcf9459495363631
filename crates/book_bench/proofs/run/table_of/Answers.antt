use Rattle.std.proofs.Common.{List, [], ◌∷◌, ◌++◌, map, ap, ◌∙◌, sym, arith}
use Rattle.std.specs.Global.{Vec}
use Rattle.std.specs.List.{range_with_len}
use Rattle.std.proofs.lemmas.List.FromFn.{map-range_with_len_more}
use Rattle.pg_book.specs.declared.needs.Needs.{Needs}
use Rattle.pg_book.specs.Needs.{rows_of}
use Rattle.pg_book.proofs.Gathering.{map_push}
use Rattle.book_bench.specs.OwnParts.{own_row}
use Rattle.book_bench.proofs.run.table_of.Goals as goal

pub loop-caller-preserved : goal.loop-caller-preserved
loop-caller-preserved c =
    let row = c.in_ok-row_of.field-0 in
    ap rows_of c.in_ok-push.ensures.items ∙ map_push (λ (r : Vec Needs). r.items) c.loop-caller.all.items row
    ∙ ap (λ l. l ++ row.items ∷ []) c.loop-caller.invariant
    ∙ ap (λ (r : List Needs). map (own_row c.args.callers c.args.draws) (range_with_len 0 c.loop-caller.caller) ++ r ∷ []) c.in_ok-row_of.ensures
    ∙ sym (map-range_with_len_more (own_row c.args.callers c.args.draws) 0 c.loop-caller.caller c.loop-caller.caller (omega arith))
