-- What is seen of the parts of a run, and what asking one of them adds.
use Rattle.std.specs.Prelude.{◌≡◌, ◌<◌, List, [], ◌∷◌, ◌++◌, length, All, Option}
use Rattle.pg_book.specs.declared.needs.Needs.{Needs}
use Rattle.pg_book.specs.declared.receipt.Receipt.{Receipt}
use Rattle.cs_policy.specs.declared.entry.Event.{Event}
use Rattle.cs_policy.specs.declared.entry.Place.{Place}
use Rattle.cs_policy.specs.declared.entry.Who.{Who}
use Rattle.cs_policy.specs.declared.entry.Entry.{Entry}
use Rattle.cs_policy.specs.Entry.{part_number}
use Rattle.pg_book.specs.Closing.{stamped}
use Rattle.pg_history.specs.Machine.{Line}
use Rattle.pg_history.specs.Opening.{Opening, Numbers}
use Rattle.pg_calls.specs.Room.{plus, Within, IsPlaceIn, event_uses, used_by, given_to}
use Rattle.pg_calls.specs.Replies.{Answers}

pub record PartsNow : Type 0 where
  -- the numbers of the opening
  pub numbers : Numbers
  -- the opening itself, where the pagers of all files tell their content
  pub opening : Option Opening
  -- what each worker may use of each part
  pub needs : List (List Needs)
  -- the entries that were made through these parts, one after another
  pub made : List Line

-- What the worker has used of the part through these parts, and what the event uses, is no more than it may use of it.
abbrev pub HasRoom : PartsNow → Who → Place → Event → Type 0
HasRoom now who at e = IsPlaceIn now.numbers at
    → Within (plus (used_by who.worker at now.made) (event_uses e)) (given_to now.numbers now.needs who.worker at)

-- One part was asked: one entry more was made, and its stamp is above those of the worker's entries before it.
pub record Asks (old : PartsNow) (who : Who) (at : Place) (e : Event) (receipt : Receipt Entry) (new : PartsNow) : Type 0 where
  pub made : new ≡ record old { made = old.made ++ stamped receipt ∷ [] }
  pub part : receipt.part ≡ part_number (length old.numbers.files) old.numbers.processes at
  pub caller : receipt.caller ≡ who.worker
  pub by_whom : receipt.entry.who ≡ who
  pub place : receipt.entry.place ≡ at
  pub event : receipt.entry.event ≡ e
  pub answers : Answers old.numbers at e receipt.entry.reply
  pub above : All (λ x. x.entry.who.worker ≡ who.worker → x.stamp < receipt.stamp) old.made
