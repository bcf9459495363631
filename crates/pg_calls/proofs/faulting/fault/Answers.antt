use Rattle.std.proofs.Common.{refl, sym, ap, ◌∙◌}
use Rattle.cs_policy.specs.declared.entry.Event.TheVariants as event
use Rattle.cs_policy.specs.declared.file.FileEvent.TheVariants as file
use Rattle.cs_policy.specs.declared.entry.Place.TheVariants as place
use Rattle.cs_policy.specs.declared.call.Call.TheVariants as call
use Rattle.pg_history.specs.Calls.{Found}
use Rattle.pg_calls.specs.Room.{uses_of, one_entry, fault_uses}
use Rattle.pg_calls.proofs.RoomFacts.{within-refl, number-same}
use Rattle.pg_calls.proofs.CallFacts.{all-counted, first, second, room, two-done}
use Rattle.pg_calls.proofs.NextFacts.{next-some, next-none, next-mapped}
use Rattle.std.proofs.Common.{subst}
use Rattle.pg_calls.specs.Room.{Within}
use Rattle.pg_calls.specs.Calls.{is_consequence}
use Rattle.cs_policy.specs.declared.process.ProcEvent.{ProcEvent}
use Rattle.pg_calls.proofs.CallFacts.{three-done, judged-uses}
use Rattle.pg_calls.proofs.faulting.fault.Goals as goal

pub ask_file-enter-requires-clause-room : goal.ask_file-enter-requires-clause-room
ask_file-enter-requires-clause-room g c =
    let ca = call.Fault c.args.pid c.args.addr c.args.access in
    room g.T.Parts.hash ca (uses_of ca) c.args.who (g.T.Parts.shows c.args.parts.now) _ _
    (place.File c.in-Some.page.file) (event.File (file.Enter c.in-Some.page.id c.in-Some.page.page c.args.access c.in-Some.page.flags c.process-resolve.result.stamp))
    (first g.T.Parts.hash ca (uses_of ca) c.args.who (g.T.Parts.shows c.args.parts.now) (all-counted ca) _ _ _ _ refl
    (record { there = number-same c.args.pid; uses = within-refl one_entry }) c.process-resolve.ensures.asks)
    (all-counted ca) c.requires.room (record { there = refl; uses = within-refl (fault_uses c.args.access) })

pub process-requires-clause-room : goal.process-requires-clause-room
process-requires-clause-room g c =
    let ca = call.Fault c.args.pid c.args.addr c.args.access in
    room g.T.Parts.hash ca (uses_of ca) c.args.who (g.T.Parts.shows c.args.parts.now) _ _
    (place.Process c.args.pid) (event.Proc c.in-Some-judged.consequence)
    (second g.T.Parts.hash ca (uses_of ca) c.args.who (g.T.Parts.shows c.args.parts.now) (all-counted ca) _ _ _ _ _ _
    (first g.T.Parts.hash ca (uses_of ca) c.args.who (g.T.Parts.shows c.args.parts.now) (all-counted ca) _ _ _ _ refl
    (record { there = number-same c.args.pid; uses = within-refl one_entry }) c.process-resolve.ensures.asks)
    (next-mapped (λ (x : Found). (place.File x.number, event.File (file.Enter x.id x.page c.args.access x.flags c.process-resolve.result.stamp))) _ c.found.result c.in-Some.page c.found.ensures c.in-Some.is) (record { there = refl; uses = within-refl (fault_uses c.args.access) }) c.ask_file-enter.ensures.asks)
    (all-counted ca) c.requires.room (record { there = number-same c.args.pid; uses = subst (λ n. Within n one_entry) (sym (judged-uses _ c.in-Some-judged.consequence (sym c.judged.ensures ∙ c.in-Some-judged.is)).0) (within-refl one_entry) })

pub returns-clause-enters : goal.returns-clause-enters
returns-clause-enters g c =
    let ca = call.Fault c.args.pid c.args.addr c.args.access in
    three-done g.T.Parts.hash ca (uses_of ca) c.args.who (g.T.Parts.shows c.args.parts.now) (all-counted ca) _ _ _ _ _ _ _
    (second g.T.Parts.hash ca (uses_of ca) c.args.who (g.T.Parts.shows c.args.parts.now) (all-counted ca) _ _ _ _ _ _
    (first g.T.Parts.hash ca (uses_of ca) c.args.who (g.T.Parts.shows c.args.parts.now) (all-counted ca) _ _ _ _ refl
    (record { there = number-same c.args.pid; uses = within-refl one_entry }) c.process-resolve.ensures.asks)
    (next-mapped (λ (x : Found). (place.File x.number, event.File (file.Enter x.id x.page c.args.access x.flags c.process-resolve.result.stamp))) _ c.found.result c.in-Some.page c.found.ensures c.in-Some.is) (record { there = refl; uses = within-refl (fault_uses c.args.access) }) c.ask_file-enter.ensures.asks)
    (next-some (λ (e : ProcEvent). (place.Process c.args.pid, event.Proc e)) _ c.judged.result c.in-Some-judged.consequence c.judged.ensures c.in-Some-judged.is)
    (record { there = number-same c.args.pid; uses = subst (λ n. Within n one_entry) (sym (judged-uses _ c.in-Some-judged.consequence (sym c.judged.ensures ∙ c.in-Some-judged.is)).0) (within-refl one_entry) })
    c.process.ensures.asks (ap is_consequence c.ask_file-enter.ensures.asks.event) (judged-uses _ c.in-Some-judged.consequence (sym c.judged.ensures ∙ c.in-Some-judged.is)).1 refl

pub returns-in_default-judged-clause-enters : goal.returns-in_default-judged-clause-enters
returns-in_default-judged-clause-enters g c =
    let ca = call.Fault c.args.pid c.args.addr c.args.access in
    two-done g.T.Parts.hash ca (uses_of ca) c.args.who (g.T.Parts.shows c.args.parts.now) (all-counted ca) _ _ _ _ _ _
    (first g.T.Parts.hash ca (uses_of ca) c.args.who (g.T.Parts.shows c.args.parts.now) (all-counted ca) _ _ _ _ refl
    (record { there = number-same c.args.pid; uses = within-refl one_entry }) c.process-resolve.ensures.asks)
    (next-mapped (λ (x : Found). (place.File x.number, event.File (file.Enter x.id x.page c.args.access x.flags c.process-resolve.result.stamp))) _ c.found.result c.in-Some.page c.found.ensures c.in-Some.is) (record { there = refl; uses = within-refl (fault_uses c.args.access) }) c.ask_file-enter.ensures.asks refl
    (next-none (λ (e : ProcEvent). (place.Process c.args.pid, event.Proc e)) _ c.judged.result c.judged.ensures c.in_default-judged.is)
