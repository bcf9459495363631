use Rattle.std.proofs.Common.{◌≡◌, ◌-◌, None, ap, sym, ◌∙◌, subst}
use Rattle.std.specs.Prelude.{slice_set}
use Rattle.std.specs.Option.{option_map}
use Rattle.pg_frames.specs.Arena.{Arena, IsSound}
use Rattle.pg_cache.specs.Held.{find_held, without}
use Rattle.pg_cache.specs.Store.{Stored, IsStored, stored_of}
use Rattle.pg_cache.proofs.StoreFacts.{found_by, frame_is, in_range, holds, left_stored, left_seen, without_none}
use Rattle.pg_cache.proofs.store.Store.remove.Goals as goal

pub give_back-requires-clause-in_range : goal.give_back-requires-clause-in_range
give_back-requires-clause-in_range c =
    let at = frame_is _ c.self.invariant _ c.args.page c.in-Some.frame c.frame_at.result c.frame_at.ensures c.deref.ensures.value c.in-Some.is in
    in_range _ c.self.invariant c.in-Some.frame (holds _ c.self.invariant c.args.page c.in-Some.frame at).queued

pub invariant_of-self : goal.invariant_of-self
invariant_of-self c =
    let at = frame_is _ c.self.invariant _ c.args.page c.in-Some.frame c.frame_at.result c.frame_at.ensures c.deref.ensures.value c.in-Some.is in
    let i = c.self.inside in
    subst (λ (a : Arena). IsStored (record { arena = a; cards = i.cards.items; table = slice_set i.table.items c.args.page None; spare = i.spare; used = i.used - 1; limit = i.limit })) (sym c.give_back.ensures.gives)
    (left_stored _ c.self.invariant c.args.page c.in-Some.frame at (subst (λ (a : Arena). IsSound a) c.give_back.ensures.gives c.give_back.ensures.sound))

pub returns-in-Some : goal.returns-in-Some
returns-in-Some c =
    let at = frame_is _ c.self.invariant _ c.args.page c.in-Some.frame c.frame_at.result c.frame_at.ensures c.deref.ensures.value c.in-Some.is in
    let i = c.self.inside in
    ap (λ (a : Arena). stored_of (record { arena = a; cards = i.cards.items; table = slice_set i.table.items c.args.page None; spare = i.spare; used = i.used - 1; limit = i.limit })) c.give_back.ensures.gives
    ∙ left_seen _ c.self.invariant c.args.page c.in-Some.frame at
    ∙ ap (λ (s : Stored). record s { held = without s.held c.args.page }) c.self.view_is

pub returns-in_default : goal.returns-in_default
returns-in_default c =
    let found = found_by _ c.self.invariant _ c.args.page c.frame_at.result c.frame_at.ensures c.deref.ensures.value ∙ ap (option_map _) c.in_default.is in
    without_none c.args.self.now c.args.page (subst (λ (s : Stored). find_held s.held c.args.page ≡ None) c.self.view_is found)
