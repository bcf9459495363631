use Rattle.pg_shared.proofs.ProcessCellFacts.{asks-process, draws-process, process-stands}
use Rattle.pg_shared.proofs.process_cell.ProcessCell.enter.Goals as goal

pub ask_process-reply-requires : goal.ask_process-reply-requires
ask_process-reply-requires g c =
    record { may = asks-process g.B.Naming.plan _ _ _ c.self.invariant c.self.view_is c.args.pid c.requires.part c.args.who c.args.pass.now c.requires.pass _ c.meet.ensures.pass c.args.asked c.requires.proper c.requires.room }

pub draw-requires-clause-room : goal.draw-requires-clause-room
draw-requires-clause-room g c =
    draws-process g.B.Naming.plan _ _ _ c.self.invariant c.self.view_is c.args.pid c.requires.part c.args.who c.args.pass.now c.requires.pass _ c.meet.ensures.pass c.args.asked c.requires.proper c.requires.room
    c.meet.new.self c.meet.ensures.spine

pub invariant_of-self : goal.invariant_of-self
invariant_of-self g c =
    (process-stands g.B.Naming.plan _ _ _ c.self.invariant c.self.view_is c.args.pid c.requires.part c.args.who c.args.pass.now c.requires.pass _ c.meet.ensures.pass c.args.asked c.requires.proper c.requires.room
    c.meet.new.self c.meet.ensures.spine c.ask_process-reply.result c.ask_process-reply.new.process c.ask_process-reply.ensures.reply c.ask_process-reply.ensures.after
    c.process_entry-entry.result c.process_entry-entry.ensures c.draw.result c.draw.new.self c.draw.new.pass c.draw.ensures.drawn).kept

pub returns-clause-asks : goal.returns-clause-asks
returns-clause-asks g c =
    (process-stands g.B.Naming.plan _ _ _ c.self.invariant c.self.view_is c.args.pid c.requires.part c.args.who c.args.pass.now c.requires.pass _ c.meet.ensures.pass c.args.asked c.requires.proper c.requires.room
    c.meet.new.self c.meet.ensures.spine c.ask_process-reply.result c.ask_process-reply.new.process c.ask_process-reply.ensures.reply c.ask_process-reply.ensures.after
    c.process_entry-entry.result c.process_entry-entry.ensures c.draw.result c.draw.new.self c.draw.new.pass c.draw.ensures.drawn).asks

pub returns-clause-pass : goal.returns-clause-pass
returns-clause-pass g c =
    (process-stands g.B.Naming.plan _ _ _ c.self.invariant c.self.view_is c.args.pid c.requires.part c.args.who c.args.pass.now c.requires.pass _ c.meet.ensures.pass c.args.asked c.requires.proper c.requires.room
    c.meet.new.self c.meet.ensures.spine c.ask_process-reply.result c.ask_process-reply.new.process c.ask_process-reply.ensures.reply c.ask_process-reply.ensures.after
    c.process_entry-entry.result c.process_entry-entry.ensures c.draw.result c.draw.new.self c.draw.new.pass c.draw.ensures.drawn).is_pass
