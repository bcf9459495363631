use Rattle.std.proofs.Common.{◌≡◌, ◌-◌, ◌∙◌, take, Some, ap, sym, subst, arith}
use Rattle.std.specs.Prelude.{slice_get, IfSome}
use Rattle.std.specs.Option.{option_map}
use Rattle.pg_frames.specs.Arena.{EndsBy, IsQueued}
use Rattle.pg_cache.specs.Held.{Held, without}
use Rattle.pg_cache.specs.declared.card.Card.{Card}
use Rattle.pg_cache.specs.Store.{Stored}
use Rattle.pg_cache.proofs.StoreFacts.{in_cards, card_is, last_seen, most_seen}
use Rattle.pg_cache.proofs.store.Store.victim.Goals as goal

pub returns-clause-victim : goal.returns-clause-victim
returns-clause-victim c =
    let last = c.in_ok-last.last in
    let full : c.self.inside.used ≡ c.self.inside.limit = omega (arith, c.if-self.false, c.self.invariant.free) in
    let queued = subst (λ o. IfSome o (λ frame. IsQueued c.self.inside.arena frame)) c.in_ok-last.was c.last.ensures.queued in
    let card = card_is c.self.inside.cards.items last c.index.result.now (in_cards _ c.self.invariant last queued.in_range) c.index.ensures in
    subst (λ (s : Stored). Some c.index.result.now.page ≡ option_map (λ (held : Held). held.page) (slice_get s.held (s.limit - 1))) c.self.view_is
    (ap (λ (k : Card). Some k.page) card ∙ sym (ap (option_map (λ (held : Held). held.page)) (last_seen _ c.self.invariant last full (sym c.last.ensures.last ∙ c.in_ok-last.was))))

pub returns-clause-others : goal.returns-clause-others
returns-clause-others c =
    let last = c.in_ok-last.last in
    let full : c.self.inside.used ≡ c.self.inside.limit = omega (arith, c.if-self.false, c.self.invariant.free) in
    let queued = subst (λ o. IfSome o (λ frame. IsQueued c.self.inside.arena frame)) c.in_ok-last.was c.last.ensures.queued in
    let ends = subst (λ o. IfSome o (λ frame. EndsBy frame c.self.inside.arena.queue)) c.in_ok-last.was c.last.ensures.ends in
    let card = card_is c.self.inside.cards.items last c.index.result.now (in_cards _ c.self.invariant last queued.in_range) c.index.ensures in
    subst (λ (s : Stored). without s.held c.index.result.now.page ≡ take (s.limit - 1) s.held) c.self.view_is
    (most_seen _ c.self.invariant last c.index.result.now.page full queued.queued ends (ap (λ (k : Card). k.page) card))
