use Rattle.std.proofs.Common.{ap, ◌∙◌, subst, sym, ◌<◌}
use Rattle.pg_frames.specs.Queues.{without}
use Rattle.pg_frames.proofs.LinkFacts.{queues, skip_made, order}
use Rattle.pg_frames.proofs.links.Links.detach.Goals as goal

pub invariant_of-self : goal.invariant_of-self
invariant_of-self c =
    (skip_made c.self.inside.count c.self.inside.next c.self.inside.prev c.skip.new.next c.skip.new.prev c.self.invariant c.skip.ensures.next_long c.skip.ensures.prev_long c.args.number
    (subst (λ q. c.args.number < q.count) (sym c.self.view_is) c.requires) c.skip.ensures.next c.skip.ensures.prev).0

pub returns-clause-detaches : goal.returns-clause-detaches
returns-clause-detaches c =
    (skip_made c.self.inside.count c.self.inside.next c.self.inside.prev c.skip.new.next c.skip.new.prev c.self.invariant c.skip.ensures.next_long c.skip.ensures.prev_long c.args.number
    (subst (λ q. c.args.number < q.count) (sym c.self.view_is) c.requires) c.skip.ensures.next c.skip.ensures.prev).1
    ∙ ap (λ q. queues q.count (without c.args.number q.queue) (without c.args.number q.free)) c.self.view_is

pub returns-clause-order : goal.returns-clause-order
returns-clause-order c = order c.self.inside.count c.skip.new.next c.skip.new.prev
    (skip_made c.self.inside.count c.self.inside.next c.self.inside.prev c.skip.new.next c.skip.new.prev c.self.invariant c.skip.ensures.next_long c.skip.ensures.prev_long c.args.number
    (subst (λ q. c.args.number < q.count) (sym c.self.view_is) c.requires) c.skip.ensures.next c.skip.ensures.prev).0
