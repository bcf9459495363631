-- There is room in the small machine of the tests.
use Rattle.std.proofs.Common.{◌≡◌, List, [], arith}
use Rattle.cs_policy.specs.declared.entry.Place.TheVariants as place
use Rattle.pg_history.specs.Machine.{Line}
use Rattle.pg_calls.specs.Room.{Within, plus, used_by, one_entry, given_to}
use Rattle.pg_parts.specs.Opened.{OpenedNow, numbers_in}
use Rattle.pg_machine.specs.Small.{IsSmall}

pub process_room : (start : OpenedNow) (made : List Line) → IsSmall start → made ≡ []
    → Within (plus (used_by 0 (place.Process 0) made) one_entry) (given_to (numbers_in start) start.needs 0 (place.Process 0))
process_room start made small none =
    rw (none, small.files, small.needs)
    (record { entries = omega arith; regions = omega arith; records = omega arith; copies = omega arith; blobs = omega arith; numbers = omega arith })

pub trust_room : (start : OpenedNow) (made : List Line) → IsSmall start → made ≡ []
    → Within (plus (used_by 0 place.Trust made) one_entry) (given_to (numbers_in start) start.needs 0 place.Trust)
trust_room start made small none =
    rw (none, small.files, small.processes, small.needs)
    (record { entries = omega arith; regions = omega arith; records = omega arith; copies = omega arith; blobs = omega arith; numbers = omega arith })
