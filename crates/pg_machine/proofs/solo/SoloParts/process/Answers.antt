use Rattle.std.proofs.Common.{◌≡◌, length, ap, ◌∙◌, arith}
use Rattle.std.specs.Vec.{vec_len}
use Rattle.cs_policy.specs.declared.entry.Event.TheVariants as event
use Rattle.cs_policy.specs.declared.entry.Reply.TheVariants as reply
use Rattle.cs_policy.specs.declared.entry.Place.TheVariants as place
use Rattle.cs_policy.specs.declared.entry.Entry.{Entry}
use Rattle.cs_policy.specs.declared.process.ProcReply.{ProcReply}
use Rattle.pg_process.specs.ProcessStep.{process_step}
use Rattle.pg_machine.proofs.SoloFacts.{receipt-is, number_of, files-numbered, fits-entry, process-there, process-may, process-runs, process-asks}
use Rattle.pg_machine.proofs.solo.SoloParts.process.Goals as goal

pub ask_process-reply-requires : goal.ask_process-reply-requires
ask_process-reply-requires g c =
    let hash = g.D.Digester.hash in
    let there = process-there hash _ _ _ c.self.invariant.0 _ c.self.view_is c.args.pid c.index_mut.result.now c.requires.declared c.index_mut.ensures.value in
    record { may = process-may hash _ _ _ c.self.invariant.0 _ c.self.view_is c.args.pid c.index_mut.result.now there c.args.who c.args.asked c.requires.serves c.requires.room c.requires.proper }

pub enter-requires-clause-room : goal.enter-requires-clause-room
enter-requires-clause-room g c =
    let fits = fits-entry g.D.Digester.hash _ _ _ c.self.invariant.0 _ c.self.view_is c.args.who (place.Process c.args.pid) (event.Proc c.args.asked) c.process_entry-entry.result.reply
    c.requires.declared c.requires.serves c.requires.room in
    omega (arith, fits, c.self.invariant.1, c.self.inside.history.ok.0)

pub invariant_of-self : goal.invariant_of-self
invariant_of-self g c =
    let hash = g.D.Digester.hash in
    let p = c.index_mut.result.now in
    let there = process-there hash _ _ _ c.self.invariant.0 _ c.self.view_is c.args.pid p c.requires.declared c.index_mut.ensures.value in
    let long : vec_len c.self.inside.history ≡ length c.self.inside.history.items = omega (arith, c.self.inside.history.ok.0) in
    let numbered = files-numbered hash _ _ _ c.self.invariant.0 in
    let entered : ◌≡◌ {A = Entry} c.process_entry-entry.result (record { who = c.args.who; place = place.Process c.args.pid; event = event.Proc c.args.asked; reply = reply.Proc (process_step p c.args.asked).0 }) =
    c.process_entry-entry.ensures ∙ ap (λ (a : ProcReply). record { who = c.args.who; place = place.Process c.args.pid; event = event.Proc c.args.asked; reply = reply.Proc a }) c.ask_process-reply.ensures.reply in
    let is = receipt-is hash _ _ _ c.self.invariant.0 c.args.who (place.Process c.args.pid) (event.Proc c.args.asked) (reply.Proc (process_step p c.args.asked).0) c.enter.result _
    (number_of hash _ _ _ c.self.invariant.0 (place.Process c.args.pid)) _ c.process_entry-entry.result c.enter.ensures.receipt entered long (omega (arith, numbered, c.len.ensures, c.self.inside.files.ok.0)) in (
      process-runs hash _ _ _ c.self.invariant.0 _ c.self.view_is c.args.pid p there c.args.who c.args.asked c.requires.serves c.requires.room c.requires.proper c.ask_process-reply.new.process c.ask_process-reply.ensures.after
          c.enter.result c.enter.new.history.items is c.enter.ensures.made,
      omega (arith, c.self.invariant.1, c.enter.ensures.room),
    )

pub returns-clause-asks : goal.returns-clause-asks
returns-clause-asks g c =
    let hash = g.D.Digester.hash in
    let p = c.index_mut.result.now in
    let there = process-there hash _ _ _ c.self.invariant.0 _ c.self.view_is c.args.pid p c.requires.declared c.index_mut.ensures.value in
    let long : vec_len c.self.inside.history ≡ length c.self.inside.history.items = omega (arith, c.self.inside.history.ok.0) in
    let numbered = files-numbered hash _ _ _ c.self.invariant.0 in
    let entered : ◌≡◌ {A = Entry} c.process_entry-entry.result (record { who = c.args.who; place = place.Process c.args.pid; event = event.Proc c.args.asked; reply = reply.Proc (process_step p c.args.asked).0 }) =
    c.process_entry-entry.ensures ∙ ap (λ (a : ProcReply). record { who = c.args.who; place = place.Process c.args.pid; event = event.Proc c.args.asked; reply = reply.Proc a }) c.ask_process-reply.ensures.reply in
    let is = receipt-is hash _ _ _ c.self.invariant.0 c.args.who (place.Process c.args.pid) (event.Proc c.args.asked) (reply.Proc (process_step p c.args.asked).0) c.enter.result _
    (number_of hash _ _ _ c.self.invariant.0 (place.Process c.args.pid)) _ c.process_entry-entry.result c.enter.ensures.receipt entered long (omega (arith, numbered, c.len.ensures, c.self.inside.files.ok.0)) in
    process-asks hash _ _ _ c.self.invariant.0 _ c.self.view_is c.args.pid p there c.args.who c.args.asked c.requires.serves c.requires.room c.requires.proper c.ask_process-reply.new.process c.ask_process-reply.ensures.after
    c.enter.result c.enter.new.history.items is c.enter.ensures.made
