use Rattle.std.proofs.Common.{◌≡◌, ◌+◌, length, replicate, rules, None, Some, Option, List, ℕ, refl, sym, subst}
use Rattle.std.specs.Prelude.{IfSome}
use Rattle.pg_frames.specs.Arena.{IsHeld}
use Rattle.pg_cache.specs.Store.{IsStored}
use Rattle.pg_cache.proofs.StoreFacts.{opened_stored}
use Rattle.pg_cache.proofs.store.Store.open.Goals as goal

-- a test that no number passes
only_none : (Is : Option ℕ → Type 0) → ((x : ℕ) → Is (Some x) → ⊥) → (y : Option ℕ) → Is y → y ≡ None
only_none Is never None is = refl
only_none Is never (Some x) is = absurd (never x is)

pub invariant_of-result : goal.invariant_of-result
invariant_of-result c =
    let held = subst (λ o. IfSome o (λ frame. IsHeld c.take_spare.new.self frame)) c.unwrap-spare.ensures c.take_spare.ensures.held in
    let fewer = subst (λ o. IfSome o (λ _. length c.take_spare.new.self.free + 1 ≡ length c.in_ok-arena.arena.free)) c.unwrap-spare.ensures c.take_spare.ensures.fewer in
    let long : length c.in_ok-cards.cards.items ≡ c.args.limit + 1 = search rules in
    let none : c.in_ok-table.table.items ≡ replicate c.args.pages None = c.in_ok-table.ensures.items_if_clones_equal (only_none _ (λ x h. h)) in
    subst (λ (t : List (Option ℕ)). IsStored (record { arena = c.take_spare.new.self; cards = c.in_ok-cards.cards.items; table = t; spare = c.unwrap-spare.result; used = 0; limit = c.args.limit })) (sym none)
    (opened_stored c.args.limit c.args.page_size c.args.pages c.in_ok-arena.arena c.take_spare.new.self c.in_ok-cards.cards.items c.unwrap-spare.result
    c.in_ok-arena.ensures.opened c.in_ok-arena.ensures.count c.take_spare.ensures.takes c.take_spare.ensures.sound held fewer long)
