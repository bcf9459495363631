use Rattle.std.proofs.Common.{ap, ◌∙◌, sym, arith, Some}
use Rattle.pg_frames.specs.Queues.{last_of}
use Rattle.pg_frames.proofs.LinkFacts.{last_is}
use Rattle.pg_frames.proofs.ListFacts.{last_stands}
use Rattle.pg_frames.proofs.links.Links.last_queued.Goals as goal

pub overflow_add-root : goal.overflow_add-root
overflow_add-root c = omega (arith, c.self.invariant.small)

pub returns-else-number-root-clause-last : goal.returns-else-number-root-clause-last
returns-else-number-root-clause-last c =
    ap Some (c.get-number.ensures 0) ∙ sym (last_is c.self.inside.count c.self.inside.next c.self.inside.prev c.self.invariant (λ e. c.if-number-root.false (c.get-number.ensures 0 ∙ e))) ∙ ap (λ q. last_of q.queue) c.self.view_is

pub returns-else-number-root-clause-queued : goal.returns-else-number-root-clause-queued
returns-else-number-root-clause-queued c = last_stands c.args.self.now.queue c.get-number.result (sym (returns-else-number-root-clause-last c))
