use Rattle.std.proofs.Common.{◌≡◌, ◌+◌, ◌∙◌, ◌<◌, length, Some, None, ap, sym, subst}
use Rattle.std.specs.Prelude.{slice_set, IfSome}
use Rattle.pg_frames.specs.Arena.{Arena, IsSound, IsHeld, after_take, after_touch}
use Rattle.pg_cache.specs.Held.{find_held}
use Rattle.pg_cache.specs.Store.{Stored, Frames, IsStored, Fronts, seen, frame_of, stored_of}
use Rattle.pg_cache.proofs.StoreFacts.{unlisted, pushed_stored, pushed_fronts}
use Rattle.pg_cache.proofs.store.Store.push_spare.Goals as goal

-- the frames as they were
abbrev now : goal.After-self-3-1 → Frames
now c = let i = c.self.inside in record { arena = i.arena; cards = i.cards.items; table = i.table.items; spare = i.spare; used = i.used; limit = i.limit }

-- the page's number is below the count of pages, and the table has no frame for it
inside : (c : goal.After-self-3-1) → (seen (now c) c.self.inside.spare).page < length c.self.inside.table.items
inside c = subst (λ (s : Stored). s.spare.page < s.pages) (sym c.self.view_is) c.requires.inside

none : (c : goal.After-self-3-1) → frame_of c.self.inside.table.items (seen (now c) c.self.inside.spare).page ≡ None
none c = unlisted _ c.self.invariant _ (subst (λ (s : Stored). find_held s.held s.spare.page ≡ None) (sym c.self.view_is) c.requires.absent)

number : (c : goal.After-self-3-1) → c.spare_page-page.result ≡ (seen (now c) c.self.inside.spare).page
number c = subst (λ (s : Stored). c.spare_page-page.result ≡ s.spare.page) (sym c.self.view_is) c.spare_page-page.ensures

taken : (c : goal.After-self-3-1) → c.take_spare.new.self ≡ after_take (after_touch c.self.inside.arena c.self.inside.spare)
taken c = c.take_spare.ensures.takes ∙ ap after_take c.touch.ensures.touches

held : (c : goal.After-self-3-1) → IsHeld c.take_spare.new.self c.unwrap-self-inside.result
held c = subst (λ o. IfSome o (λ frame. IsHeld c.take_spare.new.self frame)) c.unwrap-self-inside.ensures c.take_spare.ensures.held

fewer : (c : goal.After-self-3-1) → length c.take_spare.new.self.free + 1 ≡ length c.self.inside.arena.free
fewer c = subst (λ o. IfSome o (λ _. length c.take_spare.new.self.free + 1 ≡ length c.touch.new.self.free)) c.unwrap-self-inside.ensures c.take_spare.ensures.fewer ∙ ap length c.touch.ensures.free

pub invariant_of-self : goal.invariant_of-self
invariant_of-self c =
    let i = c.self.inside in
    let new = taken c in
    subst (λ (a : Arena). IsStored (record { arena = a; cards = i.cards.items; table = slice_set i.table.items c.spare_page-page.result (Some i.spare); spare = c.unwrap-self-inside.result; used = i.used + 1; limit = i.limit })) (sym new)
    (subst (λ n. IsStored (record { arena = after_take (after_touch i.arena i.spare); cards = i.cards.items; table = slice_set i.table.items n (Some i.spare); spare = c.unwrap-self-inside.result; used = i.used + 1; limit = i.limit })) (sym (number c))
    (pushed_stored _ c.self.invariant c.unwrap-self-inside.result (inside c) (none c) (subst IsSound new c.take_spare.ensures.sound) (subst (λ (a : Arena). IsHeld a c.unwrap-self-inside.result) new (held c))
    (sym (ap (λ (a : Arena). length a.free + 1) new) ∙ fewer c)))

pub returns : goal.returns
returns c =
    let i = c.self.inside in
    let new = taken c in
    subst (λ (s : Stored). Fronts s s.held (stored_of (record { arena = c.take_spare.new.self; cards = i.cards.items; table = slice_set i.table.items c.spare_page-page.result (Some i.spare); spare = c.unwrap-self-inside.result; used = i.used + 1; limit = i.limit }))) c.self.view_is
    (subst (λ (a : Arena). Fronts (stored_of (now c)) (stored_of (now c)).held (stored_of (record { arena = a; cards = i.cards.items; table = slice_set i.table.items c.spare_page-page.result (Some i.spare); spare = c.unwrap-self-inside.result; used = i.used + 1; limit = i.limit }))) (sym new)
    (subst (λ n. Fronts (stored_of (now c)) (stored_of (now c)).held (stored_of (record { arena = after_take (after_touch i.arena i.spare); cards = i.cards.items; table = slice_set i.table.items n (Some i.spare); spare = c.unwrap-self-inside.result; used = i.used + 1; limit = i.limit }))) (sym (number c))
    (pushed_fronts _ c.self.invariant c.unwrap-self-inside.result (inside c) (none c) (subst IsSound new c.take_spare.ensures.sound) (subst (λ (a : Arena). IsHeld a c.unwrap-self-inside.result) new (held c)))))
