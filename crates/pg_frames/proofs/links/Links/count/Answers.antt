use Rattle.std.proofs.Common.{subst}
use Rattle.pg_frames.specs.Queues.{HasOrder}
use Rattle.pg_frames.proofs.LinkFacts.{order}
use Rattle.pg_frames.proofs.links.Links.count.Goals as goal

pub returns-clause-order : goal.returns-clause-order
returns-clause-order c = subst HasOrder c.self.view_is (order c.self.inside.count c.self.inside.next c.self.inside.prev c.self.invariant)
