use Rattle.std.proofs.Common.{◌≡◌, true, false, None, ap, sym, ◌∙◌, subst}
use Rattle.std.specs.Prelude.{is_some}
use Rattle.std.specs.Option.{option_map}
use Rattle.pg_frames.specs.Arena.{Arena, IsSound}
use Rattle.pg_cache.specs.Held.{find_held, fronted}
use Rattle.pg_cache.specs.Store.{Stored, IsStored, stored_of}
use Rattle.pg_cache.proofs.StoreFacts.{found_by, frame_is, in_range, holds, front_stored, front_seen, fronted_none}
use Rattle.pg_cache.proofs.store.Store.to_front.Goals as goal

pub returns-in_default-clause-there : goal.returns-in_default-clause-there
returns-in_default-clause-there c =
    let found = found_by _ c.self.invariant _ c.args.page c.frame_at.result c.frame_at.ensures c.deref.ensures.value ∙ ap (option_map _) c.in_default.is in
    subst (λ (s : Stored). false ≡ is_some (find_held s.held c.args.page)) c.self.view_is (sym (ap is_some found))

pub returns-in_default-clause-fronts : goal.returns-in_default-clause-fronts
returns-in_default-clause-fronts c =
    let found = found_by _ c.self.invariant _ c.args.page c.frame_at.result c.frame_at.ensures c.deref.ensures.value ∙ ap (option_map _) c.in_default.is in
    fronted_none c.args.self.now c.args.page (subst (λ (s : Stored). find_held s.held c.args.page ≡ None) c.self.view_is found)

pub touch-requires-clause-in_range : goal.touch-requires-clause-in_range
touch-requires-clause-in_range c =
    let at = frame_is _ c.self.invariant _ c.args.page c.in-Some.frame c.frame_at.result c.frame_at.ensures c.deref.ensures.value c.in-Some.is in
    in_range _ c.self.invariant c.in-Some.frame (holds _ c.self.invariant c.args.page c.in-Some.frame at).queued

pub invariant_of-self : goal.invariant_of-self
invariant_of-self c =
    let at = frame_is _ c.self.invariant _ c.args.page c.in-Some.frame c.frame_at.result c.frame_at.ensures c.deref.ensures.value c.in-Some.is in
    let i = c.self.inside in
    subst (λ (a : Arena). IsStored (record { arena = a; cards = i.cards.items; table = i.table.items; spare = i.spare; used = i.used; limit = i.limit })) (sym c.touch.ensures.touches)
    (front_stored _ c.self.invariant c.args.page c.in-Some.frame at (subst (λ (a : Arena). IsSound a) c.touch.ensures.touches c.touch.ensures.sound))

pub returns-clause-there : goal.returns-clause-there
returns-clause-there c =
    let found = found_by _ c.self.invariant _ c.args.page c.frame_at.result c.frame_at.ensures c.deref.ensures.value ∙ ap (option_map _) c.in-Some.is in
    subst (λ (s : Stored). true ≡ is_some (find_held s.held c.args.page)) c.self.view_is (sym (ap is_some found))

pub returns-clause-fronts : goal.returns-clause-fronts
returns-clause-fronts c =
    let at = frame_is _ c.self.invariant _ c.args.page c.in-Some.frame c.frame_at.result c.frame_at.ensures c.deref.ensures.value c.in-Some.is in
    let i = c.self.inside in
    ap (λ (a : Arena). stored_of (record { arena = a; cards = i.cards.items; table = i.table.items; spare = i.spare; used = i.used; limit = i.limit })) c.touch.ensures.touches
    ∙ front_seen _ c.self.invariant c.args.page c.in-Some.frame at
    ∙ ap (λ (s : Stored). record s { held = fronted s.held c.args.page }) c.self.view_is
