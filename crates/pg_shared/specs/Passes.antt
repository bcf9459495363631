-- A worker's pass of a run.
use Rattle.std.specs.Prelude.{ℕ, ◌≡◌, ◌<◌, length}
use Rattle.pg_book.specs.declared.receipt.Receipt.{Receipt}
use Rattle.pg_book.specs.Lists.{Among, Rising}
use Rattle.pg_book.specs.Models.{PassOf, pass_receipts}
use Rattle.cs_policy.specs.declared.entry.Entry.{Entry}
use Rattle.pg_parts.specs.Opened.{numbers_in, opening_in}
use Rattle.pg_calls.specs.Room.{IsPlaceIn}
use Rattle.pg_calls.specs.Parts.{PartsNow}
use Rattle.pg_shared.specs.Plan.{Plan, number_at}
use Rattle.pg_shared.specs.Drawn.{drawn_by}

-- what the calls of the pass's worker see of the run's parts: the entries are those that it drew
abbrev pub shown : Plan → PassOf Entry → PartsNow
shown plan pass = record {
  numbers = numbers_in plan.start;
  opening = opening_in plan.start;
  needs = plan.start.needs;
  made = drawn_by pass;
}

-- the worker made the entry at a part of the run
pub record IsOwn (plan : Plan) (worker : ℕ) (r : Receipt Entry) : Type 0 where
  pub by_whom : r.entry.who.worker ≡ worker
  pub placed : IsPlaceIn (numbers_in plan.start) r.entry.place
  pub part : r.part ≡ number_at plan r.entry.place

-- The pass is the one of this worker in the run, and all that it drew is the worker's own.
pub record IsPassOf (plan : Plan) (worker : ℕ) (pass : PassOf Entry) : Type 0 where
  pub same_book : pass.book ≡ plan.book
  pub caller : pass.caller ≡ worker
  pub declared : worker < length plan.start.needs
  pub needs : pass.view.needs ≡ plan.start.needs
  pub rising : Rising (pass_receipts pass)
  pub own : (r : Receipt Entry) → Among r (pass_receipts pass) → IsOwn plan worker r
