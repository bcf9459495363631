-- What `meet` and `draw` do, in terms of the spine, the pass and the receipt.
use Rattle.std.specs.Prelude.{◌≡◌, ℕ, ◌<◌, [], ◌∷◌, ◌++◌}
use Rattle.pg_book.specs.declared.receipt.Receipt.{Receipt}
use Rattle.pg_book.specs.Lists.{Among}
use Rattle.pg_book.specs.Views.{list_at}
use Rattle.pg_book.specs.Models.{SpineOf, PassOf, spine_receipts, pass_receipts}
use Rattle.pg_book.specs.Knowing.{IsKnownTo}

module _ {E : Type 0} where
  -- After a meeting the pass has its own list as it was, knows all that both knew, and has each receipt of its caller that stands in the spine's list
  pub record Meets (spine : SpineOf E) (before after : PassOf E) : Type 0 where
    pub same_book : after.book ≡ before.book
    pub same_caller : after.caller ≡ before.caller
    pub same_receipts : pass_receipts after ≡ pass_receipts before
    pub kept : IsKnownTo before.view after.view
    pub told : IsKnownTo spine.view after.view
    pub own : (r : Receipt E) → Among r (spine_receipts spine) → r.caller ≡ after.caller → Among r (pass_receipts after)

  -- A draw answers a receipt of the spine's part, the pass's caller and the entry, with a stamp above all stamps of both lists. Both lists grow by it, and both know all that both knew
  pub record Draws (spine : SpineOf E) (pass : PassOf E) (entry : E) (receipt : Receipt E) (spine_after : SpineOf E) (pass_after : PassOf E) : Type 0 where
    pub same_books : (spine_after.book ≡ spine.book) × (pass_after.book ≡ pass.book)
    pub same_part : spine_after.part ≡ spine.part
    pub same_caller : pass_after.caller ≡ pass.caller
    pub part : receipt.part ≡ spine.part
    pub caller : receipt.caller ≡ pass.caller
    pub entered : receipt.entry ≡ entry
    pub above_spine : (r : Receipt E) → Among r (spine_receipts spine) → r.stamp < receipt.stamp
    pub above_pass : (r : Receipt E) → Among r (pass_receipts pass) → r.stamp < receipt.stamp
    pub spine_list : spine_receipts spine_after ≡ spine_receipts spine ++ receipt ∷ []
    pub pass_list : pass_receipts pass_after ≡ pass_receipts pass ++ receipt ∷ []
    pub spine_kept : IsKnownTo spine.view spine_after.view
    pub spine_told : IsKnownTo pass.view spine_after.view
    -- each receipt of the spine's own part that the spine now knows stands in its list
    pub own_part : (k : ℕ) (r : Receipt E) → Among r (list_at spine_after.view k) → r.part ≡ spine.part → Among r (spine_receipts spine_after)
    pub pass_kept : IsKnownTo pass.view pass_after.view
    pub pass_told : IsKnownTo spine.view pass_after.view
