use Rattle.std.proofs.Common.{get_or, length-append, arith, deque_items}
use Rattle.std.proofs.lemmas.List.Sorted.{length_permutation}
use Rattle.pg_book.proofs.Merging.{others, part_first, moves_at}
use Rattle.pg_book.proofs.merge.take_from.Goals as goal

pub take_first-requires : goal.take_first-requires
take_first-requires g c = record {
  room =
      let d = c.index-lists-part.result in
      let lists = c.args.lists.now in
      let a = length_permutation _ _ (part_first deque_items lists c.args.part d c.if-part-lists.true) in
      let e = length-append (deque_items (get_or lists c.args.part d)) (others deque_items lists c.args.part) in
      let r = c.requires.room in
      omega (arith, a, e, r);
}

pub returns-then-part-lists : goal.returns-then-part-lists
returns-then-part-lists g c =
    moves_at deque_items c.args.lists.now c.args.part c.index-lists-part.result c.take_first.new.list c.args.entries.now c.take_first.new.entries c.if-part-lists.true c.take_first.ensures
