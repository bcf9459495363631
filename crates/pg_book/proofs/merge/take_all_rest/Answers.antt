use Rattle.std.proofs.Common.{List, ap, subst, deque_items, flat_map}
use Rattle.std.specs.Vec.Iter.{into_iter_items}
use Rattle.pg_book.specs.declared.receipt.Stamped.{Stamped}
use Rattle.pg_book.specs.Merging.{Moves}
use Rattle.pg_book.proofs.Merging.{moves_on, moves_beside}
use Rattle.pg_book.proofs.merge.take_all_rest.Goals as goal

pub loop-list-preserved : goal.loop-list-preserved
loop-list-preserved g c =
    let before = subst (λ (l : List (Stamped g.row.E.Denot)). Moves c.args.entries.now (flat_map deque_items c.args.lists.items) c.loop-list.entries l) (ap (flat_map deque_items) c.in-Some.ensures.steps.0) c.loop-list.invariant in
    moves_on _ _ _ _ _ _ before (moves_beside _ _ _ _ (flat_map deque_items (into_iter_items c.next.new.self)) c.take_rest.ensures)
