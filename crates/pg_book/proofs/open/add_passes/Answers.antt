use Rattle.std.proofs.Common.{◌∙◌, subst}
use Rattle.atomic_table.specs.Seated.{TableId}
use Rattle.atomic_table.specs.Table.{Me}
use Rattle.pg_book.specs.declared.view.View.{View}
use Rattle.pg_book.specs.Opening.{IsNewPass}
use Rattle.pg_book.proofs.Placing.{so_far_push}
use Rattle.pg_book.proofs.open.add_passes.Goals as goal

pub loop-caller-preserved : goal.loop-caller-preserved
loop-caller-preserved g c =
    let v = c.loop-caller.invariant in
    let same = c.pass_of.ensures.same in
    let p = c.in-Ok.ensures in
    let made : IsNewPass c.args.seat.now.me.0.needs c.args.seat.now.table_id c.loop-caller.caller c.in_ok-pass_of.field-0 =
    subst (λ (y : TableId × Me (Unit {0}) (View g.row.E.Denot)). IsNewPass y.1.0.needs y.0 c.loop-caller.caller c.in_ok-pass_of.field-0) (λ i. (v.0 i, v.1 i)) c.in_ok-pass_of.ensures.ok in
    (same.0 ∙ v.0, same.1 ∙ v.1, so_far_push _ _ _ _ _ _ v.2 made p.items p.len c.push.ensures.capacity)
