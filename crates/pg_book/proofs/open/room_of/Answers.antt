use Rattle.std.proofs.Common.{◌≡◌, ap, ◌∙◌, get_or, arith}
use Rattle.pg_book.specs.Needs.{rows_of, nothing_needed}
use Rattle.pg_book.proofs.SumFacts.{part_le}
use Rattle.pg_book.proofs.Placing.{room_step}
use Rattle.pg_book.proofs.open.room_of.Goals as goal

pub overflow_add-room : goal.overflow_add-room
overflow_add-room c =
    let e : c.entries_of-room.result ≡ (get_or c.row-item.result.items c.args.part nothing_needed).entries = c.entries_of-room.ensures ∙ ap (λ row. (get_or row c.args.part nothing_needed).entries) c.as_slice.ensures.value in
    let s = room_step c.args.needs.now c.loop-row.row-index c.args.part c.row-item.result c.loop-row-test.true c.row-item.is in
    let p = part_le (rows_of c.args.needs.now) c.args.part in
    omega (arith, e, s, p, c.loop-row.invariant, c.requires)
