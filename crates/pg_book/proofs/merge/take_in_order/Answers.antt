use Rattle.pg_book.proofs.Merging.{moves_on}
use Rattle.pg_book.proofs.merge.take_in_order.Goals as goal

pub loop-part-preserved : goal.loop-part-preserved
loop-part-preserved g c = moves_on _ _ _ _ _ _ c.loop-part.invariant c.take_from.ensures
