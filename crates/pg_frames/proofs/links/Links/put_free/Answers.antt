use Rattle.std.proofs.Common.{◌≡◌, ◌<◌, ◌∷◌, false, ap, ◌∙◌, subst, sym}
use Rattle.pg_frames.specs.Queues.{stands}
use Rattle.pg_frames.proofs.LinkFacts.{queues, free_made, order}
use Rattle.pg_frames.proofs.links.Links.put_free.Goals as goal

pub invariant_of-self : goal.invariant_of-self
invariant_of-self c =
    (free_made c.self.inside.count c.self.inside.next c.self.inside.prev c.put.new.next c.put.new.prev c.self.invariant c.put.ensures.next_long c.put.ensures.prev_long c.args.number
    (subst (λ q. c.args.number < q.count) (sym c.self.view_is) c.requires.inside) (subst (λ q. stands c.args.number q.queue ≡ false) (sym c.self.view_is) c.requires.not_queued)
    (subst (λ q. stands c.args.number q.free ≡ false) (sym c.self.view_is) c.requires.not_free) c.put.ensures.next c.put.ensures.prev).0

pub returns-clause-puts : goal.returns-clause-puts
returns-clause-puts c =
    (free_made c.self.inside.count c.self.inside.next c.self.inside.prev c.put.new.next c.put.new.prev c.self.invariant c.put.ensures.next_long c.put.ensures.prev_long c.args.number
    (subst (λ q. c.args.number < q.count) (sym c.self.view_is) c.requires.inside) (subst (λ q. stands c.args.number q.queue ≡ false) (sym c.self.view_is) c.requires.not_queued)
    (subst (λ q. stands c.args.number q.free ≡ false) (sym c.self.view_is) c.requires.not_free) c.put.ensures.next c.put.ensures.prev).1
    ∙ ap (λ q. queues q.count q.queue (c.args.number ∷ q.free)) c.self.view_is

pub returns-clause-order : goal.returns-clause-order
returns-clause-order c = order c.self.inside.count c.put.new.next c.put.new.prev
    (free_made c.self.inside.count c.self.inside.next c.self.inside.prev c.put.new.next c.put.new.prev c.self.invariant c.put.ensures.next_long c.put.ensures.prev_long c.args.number
    (subst (λ q. c.args.number < q.count) (sym c.self.view_is) c.requires.inside) (subst (λ q. stands c.args.number q.queue ≡ false) (sym c.self.view_is) c.requires.not_queued)
    (subst (λ q. stands c.args.number q.free ≡ false) (sym c.self.view_is) c.requires.not_free) c.put.ensures.next c.put.ensures.prev).0
