-- What the end of a process adds behind its first entry.
use Rattle.std.specs.Prelude.{ℕ, ◌≡◌, ◌<◌, List, length, map}
use Rattle.std.specs.Int.{bit_at}
use Rattle.cs_policy.specs.declared.file.FileEvent.TheVariants as file
use Rattle.cs_policy.specs.declared.entry.Event.TheVariants as event
use Rattle.cs_policy.specs.declared.entry.Place.{Place}
use Rattle.cs_policy.specs.declared.entry.Place.TheVariants as place
use Rattle.cs_policy.specs.declared.entry.Who.{Who}
use Rattle.pg_history.specs.Machine.{Line}
use Rattle.pg_history.specs.Opening.{Numbers}
use Rattle.pg_history.specs.Calls.{Asked}
use Rattle.pg_calls.specs.Room.{plus, Within, IsPlaceIn, used_by, given_to, one_entry, at_some_file, use_at}
use Rattle.pg_calls.specs.Parts.{PartsNow}
use Rattle.pg_calls.specs.Calls.{Adds}

-- what was asked, and where
abbrev pub asked_of : Line → Asked
asked_of e = (e.entry.place, e.entry.event)

-- the file drops the regions of the process
abbrev pub drops_in : ℕ → ℕ → Asked
drops_in pid number = (place.File number, event.File (file.DropPid pid))

-- the files of these bits are declared
abbrev pub AreDeclared : Numbers → ℕ → Type 0
AreDeclared numbers files = (number : ℕ) → bit_at files number ≡ 1 → number < length numbers.files

-- there is room for one entry in every file
abbrev pub HasRoomToDrop : PartsNow → Who → Type 0
HasRoomToDrop now who = (at : Place) → IsPlaceIn now.numbers at
    → Within (plus (used_by who.worker at now.made) (use_at at (at_some_file one_entry))) (given_to now.numbers now.needs who.worker at)

-- These files dropped the regions of the process, one after another.
pub record Drops (who : Who) (pid : ℕ) (files : List ℕ) (old new : PartsNow) : Type 0 where
  pub own : List Line
  pub adds : Adds who old own new
  pub each : map asked_of own ≡ map (drops_in pid) files
