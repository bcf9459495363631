use Rattle.std.proofs.Common.{Some, refl, sym, ap, ◌∙◌}
use Rattle.std.specs.Prelude.{◌%◌}
use Rattle.cs_policy.specs.declared.entry.Event.TheVariants as event
use Rattle.cs_policy.specs.declared.file.FileEvent.TheVariants as file
use Rattle.cs_policy.specs.declared.entry.Place.TheVariants as place
use Rattle.cs_policy.specs.declared.call.Call.TheVariants as call
use Rattle.pg_history.specs.Calls.{Found}
use Rattle.pg_calls.specs.Room.{uses_of, one_entry}
use Rattle.pg_calls.proofs.RoomFacts.{within-refl, number-same}
use Rattle.pg_calls.proofs.CallFacts.{all-counted, first, room, two-done}
use Rattle.pg_calls.proofs.NextFacts.{next-mapped}
use Rattle.pg_calls.proofs.memory.store.Goals as goal

pub ask_file-requires-clause-room : goal.ask_file-requires-clause-room
ask_file-requires-clause-room g c =
    let ca = call.Store c.args.pid c.args.addr c.args.bytes in
    room g.T.Parts.hash ca (uses_of ca) c.args.who (g.T.Parts.shows c.args.parts.now) _ _
    (place.File c.in-Some.page.file) (event.File (file.Store c.in-Some.page.id c.in-Some.page.page c.place_in_page-at.result c.args.bytes c.process-resolve.result.stamp))
    (first g.T.Parts.hash ca (uses_of ca) c.args.who (g.T.Parts.shows c.args.parts.now) (all-counted ca) _ _ _ _ refl
    (record { there = number-same c.args.pid; uses = within-refl one_entry }) c.process-resolve.ensures.asks)
    (all-counted ca) c.requires.room (record { there = refl; uses = within-refl one_entry })

pub returns-clause-enters : goal.returns-clause-enters
returns-clause-enters g c =
    let ca = call.Store c.args.pid c.args.addr c.args.bytes in
    two-done g.T.Parts.hash ca (uses_of ca) c.args.who (g.T.Parts.shows c.args.parts.now) (all-counted ca) _ _ _ _ _ _
    (first g.T.Parts.hash ca (uses_of ca) c.args.who (g.T.Parts.shows c.args.parts.now) (all-counted ca) _ _ _ _ refl
    (record { there = number-same c.args.pid; uses = within-refl one_entry }) c.process-resolve.ensures.asks)
    (next-mapped (λ (x : Found). (place.File x.number, event.File (file.Store x.id x.page (c.args.addr % (g.T.Parts.shows c.args.parts.now).numbers.page_size) c.args.bytes c.process-resolve.result.stamp))) _ c.found.result c.in-Some.page c.found.ensures c.in-Some.is ∙ ap (λ n. Some (place.File c.in-Some.page.file, event.File (file.Store c.in-Some.page.id c.in-Some.page.page n c.args.bytes c.process-resolve.result.stamp))) (sym (c.place_in_page-at.ensures ∙ ap (λ n. c.args.addr % n) c.page_size.ensures.size)))
    (record { there = refl; uses = within-refl one_entry }) c.ask_file.ensures.asks refl refl
