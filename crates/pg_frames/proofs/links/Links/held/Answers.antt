use Rattle.pg_frames.proofs.LinkFacts.{linked_held, order}
use Rattle.pg_frames.proofs.links.Links.held.Goals as goal

pub invariant_of-result : goal.invariant_of-result
invariant_of-result c =
    (linked_held c.args.count c.in_ok-next.next c.in_ok-prev.prev c.requires c.in_ok-next.ensures.long c.in_ok-prev.ensures.long c.in_ok-next.ensures.each c.in_ok-prev.ensures.each).0

pub returns-clause-order : goal.returns-clause-order
returns-clause-order c = order c.args.count c.in_ok-next.next c.in_ok-prev.prev
    (linked_held c.args.count c.in_ok-next.next c.in_ok-prev.prev c.requires c.in_ok-next.ensures.long c.in_ok-prev.ensures.long c.in_ok-next.ensures.each c.in_ok-prev.ensures.each).0
