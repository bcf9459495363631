use Rattle.pg_shared.proofs.TrustCellFacts.{draws-trust, trust-stands}
use Rattle.pg_shared.proofs.trust_cell.TrustCell.enter.Goals as goal

pub draw-requires-clause-room : goal.draw-requires-clause-room
draw-requires-clause-room g c =
    draws-trust g.B.Naming.plan _ _ c.self.invariant c.args.who c.args.pass.now c.requires.pass _ c.meet.ensures.pass c.args.asked c.requires.proper c.requires.room c.meet.new.self c.meet.ensures.spine

pub invariant_of-self : goal.invariant_of-self
invariant_of-self g c =
    (trust-stands g.B.Naming.plan _ _ c.self.invariant c.args.who c.args.pass.now c.requires.pass _ c.meet.ensures.pass c.args.asked c.requires.proper c.requires.room c.meet.new.self c.meet.ensures.spine
    c.ask_trust-reply.result c.ask_trust-reply.new.list c.ask_trust-reply.ensures.reply c.ask_trust-reply.ensures.after
    c.trust_entry-entry.result c.trust_entry-entry.ensures c.draw.result c.draw.new.self c.draw.new.pass c.draw.ensures.drawn).kept

pub returns-clause-asks : goal.returns-clause-asks
returns-clause-asks g c =
    (trust-stands g.B.Naming.plan _ _ c.self.invariant c.args.who c.args.pass.now c.requires.pass _ c.meet.ensures.pass c.args.asked c.requires.proper c.requires.room c.meet.new.self c.meet.ensures.spine
    c.ask_trust-reply.result c.ask_trust-reply.new.list c.ask_trust-reply.ensures.reply c.ask_trust-reply.ensures.after
    c.trust_entry-entry.result c.trust_entry-entry.ensures c.draw.result c.draw.new.self c.draw.new.pass c.draw.ensures.drawn).asks

pub returns-clause-pass : goal.returns-clause-pass
returns-clause-pass g c =
    (trust-stands g.B.Naming.plan _ _ c.self.invariant c.args.who c.args.pass.now c.requires.pass _ c.meet.ensures.pass c.args.asked c.requires.proper c.requires.room c.meet.new.self c.meet.ensures.spine
    c.ask_trust-reply.result c.ask_trust-reply.new.list c.ask_trust-reply.ensures.reply c.ask_trust-reply.ensures.after
    c.trust_entry-entry.result c.trust_entry-entry.ensures c.draw.result c.draw.new.self c.draw.new.pass c.draw.ensures.drawn).is_pass
