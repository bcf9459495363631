use Rattle.std.proofs.Common.{ℕ, ◌+◌, [], ◌∷◌, length, length-append, sym, ap, ◌∙◌, subst, arith}
use Rattle.std.specs.Arc.{arc_value}
use Rattle.pg_book.specs.declared.open.PartRoom.{PartRoom}
use Rattle.pg_book.specs.Needs.{rows_of, part_entries}
use Rattle.pg_book.specs.Opening.{EachFrom}
use Rattle.pg_book.specs.Prepared.{IsPartRoom}
use Rattle.pg_book.proofs.Placing.{each_push}
use Rattle.pg_book.proofs.open.part_rooms.Goals as goal

pub loop-part-preserved : goal.loop-part-preserved
loop-part-preserved g c =
    let i = c.loop-part.invariant in
    let x = c.in_ok-part_room.field-0 in
    let P : ℕ → PartRoom g.row.E.Denot → Type 0 = λ k s. IsPartRoom (arc_value c.args.table.now).shared.table_id (part_entries (rows_of c.args.needs.now) k) s in
    let p = c.in_ok-push.ensures.items in
    let here : P c.loop-part.part x = subst (λ (n : ℕ). IsPartRoom (arc_value c.args.table.now).shared.table_id n x) c.room_of.ensures c.in_ok-part_room.ensures in (
      ap length p ∙ length-append c.loop-part.all.items (x ∷ []) ∙ ap (λ (n : ℕ). n + 1) i.0,
      subst (EachFrom P 0) (sym p) (each_push P 0 c.loop-part.part c.loop-part.all.items x i.1 (omega (arith, i.0)) here),
    )
