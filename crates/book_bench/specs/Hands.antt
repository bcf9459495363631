-- A caller of a book on a part of its own, and what its draws leave.
use Rattle.std.specs.Prelude.{◌≡◌, ℕ, ◌+◌, ◌≤◌, List, ◌++◌, length, map}
use Rattle.std.specs.List.{range_with_len}
use Rattle.pg_book.specs.declared.receipt.Receipt.{Receipt}
use Rattle.pg_book.specs.Needs.{entries_at}
use Rattle.pg_book.specs.Lists.{of_part}
use Rattle.pg_book.specs.Models.{SpineOf, PassOf, spine_receipts, pass_receipts}
use Rattle.book_bench.specs.declared.hand.Hand.{Hand}

abbrev pub hand_of : SpineOf ℕ × PassOf ℕ → Hand
hand_of pair = record { spine = pair.0; pass = pair.1 }

-- The hand's spine and pass are of one book, and the caller may enter so many events more on the hand's part
pub record CanDraw (draws : ℕ) (hand : Hand) : Type 0 where
  pub same_book : hand.spine.book ≡ hand.pass.book
  pub room : length (of_part hand.spine.part (pass_receipts hand.pass)) + draws ≤ entries_at hand.pass.view.needs hand.pass.caller hand.spine.part

-- What so many draws leave: the lists of part and caller grow by the same receipts, whose entries are the numbers of the draws
pub record DrewAll (draws : ℕ) (before after : Hand) : Type 0 where
  pub same_books : (after.spine.book ≡ before.spine.book) × (after.pass.book ≡ before.pass.book)
  pub same_part : after.spine.part ≡ before.spine.part
  pub same_caller : after.pass.caller ≡ before.pass.caller
  pub same_needs : after.pass.view.needs ≡ before.pass.view.needs
  pub drawn : List (Receipt ℕ)
  pub numbers : map (λ (r : Receipt ℕ). r.entry) drawn ≡ range_with_len 0 draws
  pub spine_list : spine_receipts after.spine ≡ spine_receipts before.spine ++ drawn
  pub pass_list : pass_receipts after.pass ≡ pass_receipts before.pass ++ drawn
