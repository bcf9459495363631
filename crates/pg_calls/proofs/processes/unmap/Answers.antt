use Rattle.std.proofs.Common.{ℕ, refl}
use Rattle.cs_policy.specs.declared.entry.Event.TheVariants as event
use Rattle.cs_policy.specs.declared.file.FileEvent.TheVariants as file
use Rattle.cs_policy.specs.declared.entry.Place.TheVariants as place
use Rattle.cs_policy.specs.declared.call.Call.TheVariants as call
use Rattle.pg_calls.specs.Room.{uses_of, one_entry}
use Rattle.pg_calls.proofs.RoomFacts.{within-refl, number-same}
use Rattle.pg_calls.proofs.CallFacts.{all-counted, first, room, two-done}
use Rattle.pg_calls.proofs.NextFacts.{next-some}
use Rattle.pg_calls.proofs.processes.unmap.Goals as goal

pub ask_file-requires-clause-room : goal.ask_file-requires-clause-room
ask_file-requires-clause-room g c =
    let ca = call.Unmap c.args.pid c.args.at in
    room g.T.Parts.hash ca (uses_of ca) c.args.who (g.T.Parts.shows c.args.parts.now) _ _
    (place.File c.in-Some.file) (event.File (file.DropRegion c.in-Some.id))
    (first g.T.Parts.hash ca (uses_of ca) c.args.who (g.T.Parts.shows c.args.parts.now) (all-counted ca) _ _ _ _ refl
    (record { there = number-same c.args.pid; uses = within-refl one_entry }) c.process-remove.ensures.asks)
    (all-counted ca) c.requires.room (record { there = refl; uses = within-refl one_entry })

pub returns-clause-enters : goal.returns-clause-enters
returns-clause-enters g c =
    let ca = call.Unmap c.args.pid c.args.at in
    two-done g.T.Parts.hash ca (uses_of ca) c.args.who (g.T.Parts.shows c.args.parts.now) (all-counted ca) _ _ _ _ _ _
    (first g.T.Parts.hash ca (uses_of ca) c.args.who (g.T.Parts.shows c.args.parts.now) (all-counted ca) _ _ _ _ refl
    (record { there = number-same c.args.pid; uses = within-refl one_entry }) c.process-remove.ensures.asks)
    (next-some (λ (gone : ℕ × ℕ). (place.File gone.1, event.File (file.DropRegion gone.0))) _ c.removed.result (c.in-Some.id, c.in-Some.file) c.removed.ensures c.in-Some.is)
    (record { there = refl; uses = within-refl one_entry }) c.ask_file.ensures.asks refl refl
