use Rattle.std.proofs.Common.{ℕ, Some, refl, sym, ap}
use Rattle.cs_policy.specs.declared.entry.Event.TheVariants as event
use Rattle.cs_policy.specs.declared.file.FileEvent.TheVariants as file
use Rattle.cs_policy.specs.declared.entry.Place.TheVariants as place
use Rattle.cs_policy.specs.declared.call.Call.TheVariants as call
use Rattle.pg_calls.specs.Room.{uses_of, one_entry}
use Rattle.pg_calls.proofs.RoomFacts.{within-refl, number-same}
use Rattle.pg_calls.proofs.CallFacts.{all-counted, first, room, one-done, two-done}
use Rattle.pg_calls.proofs.NextFacts.{next-some, next-none}
use Rattle.cs_policy.specs.declared.process.ProcEvent.TheVariants as process
use Rattle.pg_calls.proofs.processes.map.Goals as goal

pub ask_file-requires-clause-room : goal.ask_file-requires-clause-room
ask_file-requires-clause-room g c =
    let ca = call.Map c.args.pid c.args.at c.args.file c.args.first c.args.pages c.args.prot c.args.shared in
    room g.T.Parts.hash ca (uses_of ca) c.args.who (g.T.Parts.shows c.args.parts.now) _ _
    (place.File c.args.file) (event.File (file.AddRegion (record { id = c.in-Some.id; pid = c.args.pid; first = c.args.first; pages = c.args.pages; prot = c.args.prot; shared = c.args.shared }) c.process-insert.result.stamp))
    (first g.T.Parts.hash ca (uses_of ca) c.args.who (g.T.Parts.shows c.args.parts.now) (all-counted ca) _ _ _ _ (ap (λ n. Some (place.Process c.args.pid, event.Proc (process.Insert c.args.at c.args.file n c.args.first c.args.pages c.args.prot c.args.shared))) (sym c.file_pages-file_pages.ensures.pages))
    (record { there = number-same c.args.pid; uses = within-refl (record one_entry { numbers = 1 }) }) c.process-insert.ensures.asks)
    (all-counted ca) c.requires.room (record { there = number-same c.args.file; uses = within-refl (record one_entry { regions = 1 }) })

pub returns-clause-enters : goal.returns-clause-enters
returns-clause-enters g c =
    let ca = call.Map c.args.pid c.args.at c.args.file c.args.first c.args.pages c.args.prot c.args.shared in
    two-done g.T.Parts.hash ca (uses_of ca) c.args.who (g.T.Parts.shows c.args.parts.now) (all-counted ca) _ _ _ _ _ _
    (first g.T.Parts.hash ca (uses_of ca) c.args.who (g.T.Parts.shows c.args.parts.now) (all-counted ca) _ _ _ _ (ap (λ n. Some (place.Process c.args.pid, event.Proc (process.Insert c.args.at c.args.file n c.args.first c.args.pages c.args.prot c.args.shared))) (sym c.file_pages-file_pages.ensures.pages))
    (record { there = number-same c.args.pid; uses = within-refl (record one_entry { numbers = 1 }) }) c.process-insert.ensures.asks)
    (next-some (λ (id : ℕ). (place.File c.args.file, event.File (file.AddRegion (record { id = id; pid = c.args.pid; first = c.args.first; pages = c.args.pages; prot = c.args.prot; shared = c.args.shared }) c.process-insert.result.stamp))) _ c.inserted.result c.in-Some.id c.inserted.ensures c.in-Some.is)
    (record { there = number-same c.args.file; uses = within-refl (record one_entry { regions = 1 }) }) c.ask_file.ensures.asks refl refl

pub returns-in_default-clause-enters : goal.returns-in_default-clause-enters
returns-in_default-clause-enters g c =
    let ca = call.Map c.args.pid c.args.at c.args.file c.args.first c.args.pages c.args.prot c.args.shared in
    one-done g.T.Parts.hash ca (uses_of ca) c.args.who (g.T.Parts.shows c.args.parts.now) (all-counted ca) _ _ _ _ (ap (λ n. Some (place.Process c.args.pid, event.Proc (process.Insert c.args.at c.args.file n c.args.first c.args.pages c.args.prot c.args.shared))) (sym c.file_pages-file_pages.ensures.pages))
    (record { there = number-same c.args.pid; uses = within-refl (record one_entry { numbers = 1 }) }) c.process-insert.ensures.asks refl
    (next-none (λ (id : ℕ). (place.File c.args.file, event.File (file.AddRegion (record { id = id; pid = c.args.pid; first = c.args.first; pages = c.args.pages; prot = c.args.prot; shared = c.args.shared }) c.process-insert.result.stamp))) _ c.inserted.result c.inserted.ensures c.in_default.is)
