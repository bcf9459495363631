-- A part's spine in a run.
use Rattle.std.specs.Prelude.{ℕ, ◌≡◌, ◌<◌, length}
use Rattle.pg_book.specs.declared.receipt.Receipt.{Receipt}
use Rattle.pg_book.specs.Lists.{Among, Rising}
use Rattle.pg_book.specs.Models.{SpineOf, spine_receipts}
use Rattle.cs_policy.specs.declared.entry.Entry.{Entry}
use Rattle.cs_policy.specs.declared.entry.Place.{Place}
use Rattle.pg_parts.specs.Opened.{numbers_in}
use Rattle.pg_calls.specs.Room.{Within, IsPlaceIn, used_by, given_to}
use Rattle.pg_shared.specs.Plan.{Plan, number_at}
use Rattle.pg_shared.specs.Drawn.{drawn_on}

-- a worker of the run made the entry at this part
pub record IsDrawnAt (plan : Plan) (at : Place) (r : Receipt Entry) : Type 0 where
  pub place : r.entry.place ≡ at
  pub part : r.part ≡ number_at plan at
  pub caller : r.caller ≡ r.entry.who.worker
  pub worker : r.entry.who.worker < length plan.start.needs

-- The spine is that of this part of the run, and all entries on it were made there. No worker has used more of a part by
-- them than it may.
pub record IsSpineOf (plan : Plan) (at : Place) (spine : SpineOf Entry) : Type 0 where
  pub same_book : spine.book ≡ plan.book
  pub part : spine.part ≡ number_at plan at
  pub placed : IsPlaceIn (numbers_in plan.start) at
  pub rising : Rising (spine_receipts spine)
  pub entries : (r : Receipt Entry) → Among r (spine_receipts spine) → IsDrawnAt plan at r
  pub within : (worker : ℕ) (other : Place)
      → Within (used_by worker other (drawn_on spine)) (given_to (numbers_in plan.start) plan.start.needs worker other)
