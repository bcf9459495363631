use Rattle.std.proofs.Common.{◌≡◌, length, sym, subst, ap, ◌∙◌, arith}
use Rattle.std.specs.Vec.{vec_len}
use Rattle.pg_book.specs.Needs.{rows}
use Rattle.cs_policy.specs.declared.entry.Event.TheVariants as event
use Rattle.cs_policy.specs.declared.entry.Reply.TheVariants as reply
use Rattle.cs_policy.specs.declared.entry.Place.TheVariants as place
use Rattle.cs_policy.specs.declared.entry.Entry.{Entry}
use Rattle.cs_policy.specs.declared.trust.TrustReply.{TrustReply}
use Rattle.pg_trusted.specs.TrustStep.{TrustList, trust_step}
use Rattle.pg_machine.specs.Solo.{IsRunning}
use Rattle.pg_machine.proofs.SoloFacts.{receipt-is, number_of, files-numbered, processes-numbered, fits-entry, trust-may, trust-runs, trust-asks}
use Rattle.pg_machine.proofs.solo.SoloParts.trust.Goals as goal

pub ask_trust-reply-requires : goal.ask_trust-reply-requires
ask_trust-reply-requires g c =
    record { may = trust-may g.D.Digester.hash _ _ _ c.self.invariant.0 _ c.self.view_is c.args.asked c.requires.proper }

pub enter-requires-clause-room : goal.enter-requires-clause-room
enter-requires-clause-room g c =
    let fits = fits-entry g.D.Digester.hash _ _ _ c.self.invariant.0 _ c.self.view_is c.args.who place.Trust (event.Trust c.args.asked) c.trust_entry-entry.result.reply
    tt c.requires.serves c.requires.room in
    omega (arith, fits, c.self.invariant.1, c.self.inside.history.ok.0)

pub invariant_of-self : goal.invariant_of-self
invariant_of-self g c =
    let hash = g.D.Digester.hash in
    let list : TrustList = c.self.inside.trusted in
    let long : vec_len c.self.inside.history ≡ length c.self.inside.history.items = omega (arith, c.self.inside.history.ok.0) in
    let files = files-numbered hash _ _ _ c.self.invariant.0 in
    let processes = processes-numbered hash _ _ _ c.self.invariant.0 in
    let entered : ◌≡◌ {A = Entry} c.trust_entry-entry.result (record { who = c.args.who; place = place.Trust; event = event.Trust c.args.asked; reply = reply.Trust (trust_step list c.args.asked).0 }) =
    c.trust_entry-entry.ensures ∙ ap (λ (a : TrustReply). record { who = c.args.who; place = place.Trust; event = event.Trust c.args.asked; reply = reply.Trust a }) c.ask_trust-reply.ensures.reply in
    let is = receipt-is hash _ _ _ c.self.invariant.0 c.args.who place.Trust (event.Trust c.args.asked) (reply.Trust (trust_step list c.args.asked).0) c.enter.result _
    (number_of hash _ _ _ c.self.invariant.0 place.Trust) _ c.trust_entry-entry.result c.enter.ensures.receipt entered long
    (omega (arith, files, processes, c.len.ensures, c.len-2.ensures, c.self.inside.files.ok.0, c.self.inside.processes.ok.0)) in (
      subst (λ (l : TrustList). IsRunning hash c.self.inside.start.value c.enter.new.history.items (record {
        page_size = c.self.inside.page_size;
        adhoc = c.self.inside.adhoc;
        files = c.self.inside.files.items;
        processes = c.self.inside.processes.items;
        trust = l;
        needs = rows c.self.inside.needs;
      })) (sym c.ask_trust-reply.ensures.after)
          (trust-runs hash _ _ _ c.self.invariant.0 _ c.self.view_is c.args.who c.args.asked c.requires.serves c.requires.room c.enter.result c.enter.new.history.items is c.enter.ensures.made),
      omega (arith, c.self.invariant.1, c.enter.ensures.room),
    )

pub returns-clause-asks : goal.returns-clause-asks
returns-clause-asks g c =
    let hash = g.D.Digester.hash in
    let list : TrustList = c.self.inside.trusted in
    let long : vec_len c.self.inside.history ≡ length c.self.inside.history.items = omega (arith, c.self.inside.history.ok.0) in
    let files = files-numbered hash _ _ _ c.self.invariant.0 in
    let processes = processes-numbered hash _ _ _ c.self.invariant.0 in
    let entered : ◌≡◌ {A = Entry} c.trust_entry-entry.result (record { who = c.args.who; place = place.Trust; event = event.Trust c.args.asked; reply = reply.Trust (trust_step list c.args.asked).0 }) =
    c.trust_entry-entry.ensures ∙ ap (λ (a : TrustReply). record { who = c.args.who; place = place.Trust; event = event.Trust c.args.asked; reply = reply.Trust a }) c.ask_trust-reply.ensures.reply in
    let is = receipt-is hash _ _ _ c.self.invariant.0 c.args.who place.Trust (event.Trust c.args.asked) (reply.Trust (trust_step list c.args.asked).0) c.enter.result _
    (number_of hash _ _ _ c.self.invariant.0 place.Trust) _ c.trust_entry-entry.result c.enter.ensures.receipt entered long
    (omega (arith, files, processes, c.len.ensures, c.len-2.ensures, c.self.inside.files.ok.0, c.self.inside.processes.ok.0)) in
    trust-asks hash _ _ _ c.self.invariant.0 _ c.self.view_is c.args.who c.args.asked c.requires.serves c.requires.room c.enter.result c.enter.new.history.items is c.enter.ensures.made
