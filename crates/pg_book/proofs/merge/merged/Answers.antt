use Rattle.std.proofs.Common.{◌≡◌, [], length, drop, sym, ◌∙◌, subst, deque_items, flat_map}
use Rattle.pg_book.specs.Merging.{Moves}
use Rattle.pg_book.proofs.Placing.{take_front}
use Rattle.pg_book.proofs.Merging.{moves_on, moved_all}
use Rattle.pg_book.proofs.merge.merged.Goals as goal

pub returns : goal.returns
returns g c =
    let new = c.take_in_order.new.lists in
    let e : c.args.lists.len ≡ length new = sym (c.take_in_order.auto.lists ∙ c.as_mut_slice.ensures.len) in
    let first = subst (λ l. Moves c.args.entries (flat_map deque_items l) c.take_in_order.new.entries (flat_map deque_items new)) c.as_mut_slice.ensures.value c.take_in_order.ensures in
    let rest = subst (λ l. Moves c.take_in_order.new.entries (flat_map deque_items l) c.take_all_rest.new.entries []) (take_front c.args.lists.len new (drop (length new) c.args.lists.items) e) c.take_all_rest.ensures in
    moved_all _ _ _ c.requires.empty.0 (moves_on _ _ _ _ _ _ first rest)
