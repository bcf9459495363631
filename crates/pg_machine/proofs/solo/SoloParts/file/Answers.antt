use Rattle.std.proofs.Common.{◌≡◌, length, refl, arith}
use Rattle.std.specs.Vec.{vec_len}
use Rattle.cs_policy.specs.declared.entry.Event.TheVariants as event
use Rattle.cs_policy.specs.declared.entry.Reply.TheVariants as reply
use Rattle.cs_policy.specs.declared.entry.Place.TheVariants as place
use Rattle.pg_calls.specs.Asking.{event_of}
use Rattle.pg_machine.proofs.SoloFacts.{made_receipt, receipt-is, file-there, file-may, file-spare, fits-entry, file-runs, file-asks}
use Rattle.pg_machine.proofs.solo.SoloParts.file.Goals as goal

pub ask_file-requires-clause-may : goal.ask_file-requires-clause-may
ask_file-requires-clause-may g c =
    let hash = g.D.Digester.hash in
    let there = file-there hash _ _ _ c.self.invariant.0 _ c.self.view_is c.args.file c.index_mut.result.now c.requires.declared c.index_mut.ensures.value in
    file-may hash _ _ _ c.self.invariant.0 _ c.self.view_is c.args.file c.index_mut.result.now there c.args.who c.args.asked c.requires.proper

pub ask_file-requires-clause-room : goal.ask_file-requires-clause-room
ask_file-requires-clause-room g c =
    let hash = g.D.Digester.hash in
    let there = file-there hash _ _ _ c.self.invariant.0 _ c.self.view_is c.args.file c.index_mut.result.now c.requires.declared c.index_mut.ensures.value in
    file-spare hash _ _ _ c.self.invariant.0 _ c.self.view_is c.args.file c.index_mut.result.now there c.args.who c.args.asked c.requires.serves c.requires.room

pub enter-requires-clause-room : goal.enter-requires-clause-room
enter-requires-clause-room g c =
    let fits = fits-entry g.D.Digester.hash _ _ _ c.self.invariant.0 _ c.self.view_is c.args.who (place.File c.args.file) (event.File (event_of c.args.asked)) c.file_entry-entry.result.reply
    c.requires.declared c.requires.serves c.requires.room in
    omega (arith, fits, c.self.invariant.1, c.self.inside.history.ok.0)

pub invariant_of-self-2 : goal.invariant_of-self-2
invariant_of-self-2 g c =
    let hash = g.D.Digester.hash in
    let there = file-there hash _ _ _ c.self.invariant.0 _ c.self.view_is c.args.file c.index_mut.result.now c.requires.declared c.index_mut.ensures.value in
    let long : vec_len c.self.inside.history ≡ length c.self.inside.history.items = omega (arith, c.self.inside.history.ok.0) in
    let is : c.enter.result ≡ made_receipt hash _ _ _ c.self.invariant.0 c.args.file c.args.who (place.File c.args.file) (event.File c.in_ok-answer.answer.event) (reply.File c.in_ok-answer.answer.reply) =
    receipt-is hash _ _ _ c.self.invariant.0 c.args.who (place.File c.args.file) (event.File c.in_ok-answer.answer.event) (reply.File c.in_ok-answer.answer.reply) c.enter.result _ _ _ c.file_entry-entry.result
    c.enter.ensures.receipt c.file_entry-entry.ensures long refl in (
      file-runs hash _ _ _ c.self.invariant.0 _ c.self.view_is c.args.file c.index_mut.result.now there c.args.who c.args.asked c.in_ok-answer.answer c.ask_file.new.object c.requires.serves c.requires.proper c.requires.room
          c.in_ok-answer.ensures.asks c.in_ok-answer.ensures.kept c.enter.result c.enter.new.history.items is c.enter.ensures.made,
      omega (arith, c.self.invariant.1, c.enter.ensures.room),
    )

pub returns-clause-asks : goal.returns-clause-asks
returns-clause-asks g c =
    let hash = g.D.Digester.hash in
    let there = file-there hash _ _ _ c.self.invariant.0 _ c.self.view_is c.args.file c.index_mut.result.now c.requires.declared c.index_mut.ensures.value in
    let long : vec_len c.self.inside.history ≡ length c.self.inside.history.items = omega (arith, c.self.inside.history.ok.0) in
    let is : c.enter.result ≡ made_receipt hash _ _ _ c.self.invariant.0 c.args.file c.args.who (place.File c.args.file) (event.File c.in_ok-answer.answer.event) (reply.File c.in_ok-answer.answer.reply) =
    receipt-is hash _ _ _ c.self.invariant.0 c.args.who (place.File c.args.file) (event.File c.in_ok-answer.answer.event) (reply.File c.in_ok-answer.answer.reply) c.enter.result _ _ _ c.file_entry-entry.result
    c.enter.ensures.receipt c.file_entry-entry.ensures long refl in
    file-asks hash _ _ _ c.self.invariant.0 _ c.self.view_is c.args.file c.index_mut.result.now there c.args.who c.args.asked c.in_ok-answer.answer c.ask_file.new.object c.requires.serves c.requires.proper c.requires.room
    c.in_ok-answer.ensures.asks c.in_ok-answer.ensures.kept c.enter.result c.enter.new.history.items is c.enter.ensures.made
