-- A run: callers of a book on parts of their own, before they draw, and the history of their draws.
use Rattle.std.specs.Prelude.{◌≡◌, ℕ, ◌*◌, ◌<◌, ◌==◌, List, [], length, map, filter, Some, slice_get}
use Rattle.std.specs.List.{range_with_len}
use Rattle.atomic_table.specs.Seated.{TableId}
use Rattle.pg_book.specs.declared.receipt.Stamped.{Stamped}
use Rattle.pg_book.specs.Needs.{parts_of}
use Rattle.pg_book.specs.Models.{BookOf, spine_receipts, pass_receipts, IsSpineAt, IsPassAt}
use Rattle.pg_book.specs.Opening.{EachFrom}
use Rattle.book_bench.specs.declared.hand.Hand.{Hand}
use Rattle.book_bench.specs.Hands.{CanDraw}

-- The hand has the book's caller and part of this number. Nothing is drawn, and the caller may draw so often
pub record IsReadyHand (draws : ℕ) (book : TableId) (number : ℕ) (hand : Hand) : Type 0 where
  pub spine : IsSpineAt book number hand.spine
  pub pass : IsPassAt book number hand.pass
  pub no_entries : spine_receipts hand.spine ≡ []
  pub no_draws : pass_receipts hand.pass ≡ []
  pub can_draw : CanDraw draws hand

-- a book of so many callers and parts, all in hands, where each caller may draw so often
pub record IsReady (callers draws : ℕ) (book : BookOf ℕ) (hands : List Hand) : Type 0 where
  pub part_count : parts_of book.view.needs ≡ callers
  pub caller_count : length book.view.needs ≡ callers
  pub hand_count : length hands ≡ callers
  pub each : EachFrom (IsReadyHand draws book.book) 0 hands

abbrev pub by_caller : ℕ → List (Stamped ℕ) → List (Stamped ℕ)
by_caller caller history = filter (λ (e : Stamped ℕ). e.caller == caller) history

abbrev pub on_part : ℕ → List (Stamped ℕ) → List (Stamped ℕ)
on_part part history = filter (λ (e : Stamped ℕ). e.part == part) history

-- The history of so many callers that drew so often: it has just so many entries, with the stamps from 0 on; the entries of each caller are the numbers of its draws, in their order, and they are those of the part of its number
pub record IsRunHistory (callers draws : ℕ) (history : List (Stamped ℕ)) : Type 0 where
  pub count : length history ≡ callers * draws
  pub stamps : (k : ℕ) (e : Stamped ℕ) → slice_get history k ≡ Some e → e.stamp ≡ k
  -- no entry is of another caller
  pub of_callers : (k : ℕ) (e : Stamped ℕ) → slice_get history k ≡ Some e → e.caller < callers
  pub numbers : (caller : ℕ) → caller < callers → map (λ (e : Stamped ℕ). e.entry) (by_caller caller history) ≡ range_with_len 0 draws
  pub own_parts : (caller : ℕ) → caller < callers → on_part caller history ≡ by_caller caller history
