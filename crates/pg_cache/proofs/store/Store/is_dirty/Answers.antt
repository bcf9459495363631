use Rattle.std.proofs.Common.{◌≡◌, ◌<◌, length, vec_len, rules, false, ap, sym, ◌∙◌, subst}
use Rattle.std.specs.Prelude.{IfSome}
use Rattle.std.specs.Option.{option_map}
use Rattle.pg_cache.specs.Held.{Held, find_held}
use Rattle.pg_cache.specs.declared.card.Card.{Card}
use Rattle.pg_cache.specs.Store.{Stored}
use Rattle.pg_cache.proofs.StoreFacts.{found_by, frame_is, in_range, in_cards, holds, card_is}
use Rattle.pg_cache.proofs.store.Store.is_dirty.Goals as goal

pub index-requires : goal.index-requires
index-requires c =
    let at = frame_is _ c.self.invariant _ c.args.page c.in-Some.frame c.frame_at.result c.frame_at.ensures c.deref.ensures.value c.in-Some.is in
    let long : vec_len c.self.inside.cards ≡ length c.self.inside.cards.items = search rules in
    subst (λ n. c.in-Some.frame < n) (sym long) (in_cards _ c.self.invariant c.in-Some.frame (in_range _ c.self.invariant c.in-Some.frame (holds _ c.self.invariant c.args.page c.in-Some.frame at).queued))

pub returns-in-Some : goal.returns-in-Some
returns-in-Some c =
    let at = frame_is _ c.self.invariant _ c.args.page c.in-Some.frame c.frame_at.result c.frame_at.ensures c.deref.ensures.value c.in-Some.is in
    let found = found_by _ c.self.invariant _ c.args.page c.frame_at.result c.frame_at.ensures c.deref.ensures.value ∙ ap (option_map _) c.in-Some.is in
    let inside = in_cards _ c.self.invariant c.in-Some.frame (in_range _ c.self.invariant c.in-Some.frame (holds _ c.self.invariant c.args.page c.in-Some.frame at).queued) in
    subst (λ (s : Stored). IfSome (find_held s.held c.args.page) (λ held. c.index.result.now.dirty ≡ held.dirty)) c.self.view_is
    (subst (λ o. IfSome o (λ (held : Held). c.index.result.now.dirty ≡ held.dirty)) (sym found)
    (ap (λ (k : Card). k.dirty) (card_is c.self.inside.cards.items c.in-Some.frame c.index.result.now inside c.index.ensures)))

pub returns-in-None : goal.returns-in-None
returns-in-None c =
    let found = found_by _ c.self.invariant _ c.args.page c.frame_at.result c.frame_at.ensures c.deref.ensures.value ∙ ap (option_map _) c.in-None.is in
    subst (λ (s : Stored). IfSome (find_held s.held c.args.page) (λ held. false ≡ held.dirty)) c.self.view_is
    (subst (λ o. IfSome o (λ (held : Held). false ≡ held.dirty)) (sym found) tt)
