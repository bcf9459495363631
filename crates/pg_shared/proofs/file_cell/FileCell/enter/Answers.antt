use Rattle.cs_policy.specs.declared.entry.Place.TheVariants as place
use Rattle.pg_shared.proofs.SpineFacts.{met-own}
use Rattle.pg_shared.proofs.FileCellFacts.{asks-file, has-spare, draws-file, stands-file}
use Rattle.pg_shared.proofs.file_cell.FileCell.enter.Goals as goal

pub ask_file-requires-clause-may : goal.ask_file-requires-clause-may
ask_file-requires-clause-may g c =
    asks-file g.D.Digester.hash g.B.Naming.plan _ _ _ c.self.invariant c.self.view_is c.args.file c.requires.part c.args.who c.args.pass.now c.requires.pass _ c.meet.ensures.pass c.args.asked c.requires.proper c.requires.room

pub ask_file-requires-clause-room : goal.ask_file-requires-clause-room
ask_file-requires-clause-room g c =
    has-spare g.D.Digester.hash g.B.Naming.plan _ _ _ c.self.invariant c.self.view_is c.args.file c.requires.part c.args.who c.args.pass.now c.requires.pass _ c.meet.ensures.pass c.args.asked c.requires.proper c.requires.room

pub returns-in_err-answer-clause-pass : goal.returns-in_err-answer-clause-pass
returns-in_err-answer-clause-pass g c =
    met-own g.B.Naming.plan (place.File c.self.invariant.number) _ c.self.invariant.kept.spine c.args.who c.args.pass.now c.requires.pass _ c.meet.ensures.pass

pub draw-requires-clause-room : goal.draw-requires-clause-room
draw-requires-clause-room g c =
    draws-file g.D.Digester.hash g.B.Naming.plan _ _ _ c.self.invariant c.self.view_is c.args.file c.requires.part c.args.who c.args.pass.now c.requires.pass _ c.meet.ensures.pass c.args.asked c.requires.proper c.requires.room
    c.meet.new.self c.meet.ensures.spine

pub invariant_of-self-2 : goal.invariant_of-self-2
invariant_of-self-2 g c =
    (stands-file g.D.Digester.hash g.B.Naming.plan _ _ _ c.self.invariant c.self.view_is c.args.file c.requires.part c.args.who c.args.pass.now c.requires.pass _ c.meet.ensures.pass c.args.asked c.requires.proper c.requires.room
    c.meet.new.self c.meet.ensures.spine c.in_ok-answer.answer c.ask_file.new.object c.in_ok-answer.ensures.asks c.in_ok-answer.ensures.kept
    c.file_entry-entry.result c.file_entry-entry.ensures c.draw.result c.draw.new.self c.draw.new.pass c.draw.ensures.drawn).kept

pub returns-clause-asks : goal.returns-clause-asks
returns-clause-asks g c =
    (stands-file g.D.Digester.hash g.B.Naming.plan _ _ _ c.self.invariant c.self.view_is c.args.file c.requires.part c.args.who c.args.pass.now c.requires.pass _ c.meet.ensures.pass c.args.asked c.requires.proper c.requires.room
    c.meet.new.self c.meet.ensures.spine c.in_ok-answer.answer c.ask_file.new.object c.in_ok-answer.ensures.asks c.in_ok-answer.ensures.kept
    c.file_entry-entry.result c.file_entry-entry.ensures c.draw.result c.draw.new.self c.draw.new.pass c.draw.ensures.drawn).asks

pub returns-clause-acts : goal.returns-clause-acts
returns-clause-acts g c =
    (stands-file g.D.Digester.hash g.B.Naming.plan _ _ _ c.self.invariant c.self.view_is c.args.file c.requires.part c.args.who c.args.pass.now c.requires.pass _ c.meet.ensures.pass c.args.asked c.requires.proper c.requires.room
    c.meet.new.self c.meet.ensures.spine c.in_ok-answer.answer c.ask_file.new.object c.in_ok-answer.ensures.asks c.in_ok-answer.ensures.kept
    c.file_entry-entry.result c.file_entry-entry.ensures c.draw.result c.draw.new.self c.draw.new.pass c.draw.ensures.drawn).acts

pub returns-clause-pass : goal.returns-clause-pass
returns-clause-pass g c =
    (stands-file g.D.Digester.hash g.B.Naming.plan _ _ _ c.self.invariant c.self.view_is c.args.file c.requires.part c.args.who c.args.pass.now c.requires.pass _ c.meet.ensures.pass c.args.asked c.requires.proper c.requires.room
    c.meet.new.self c.meet.ensures.spine c.in_ok-answer.answer c.ask_file.new.object c.in_ok-answer.ensures.asks c.in_ok-answer.ensures.kept
    c.file_entry-entry.result c.file_entry-entry.ensures c.draw.result c.draw.new.self c.draw.new.pass c.draw.ensures.drawn).is_pass
