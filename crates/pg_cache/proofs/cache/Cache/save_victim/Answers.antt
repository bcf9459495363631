use Rattle.std.proofs.Common.{◌≡◌, ◌∙◌, false, refl, ap, sym, subst}
use Rattle.std.specs.Prelude.{IfSome, IsSome, MatchOption, is_err}
use Rattle.pg_cache.specs.Cache.{CacheNow, resident_page, victim}
use Rattle.pg_cache.specs.Steps.{Saves}
use Rattle.pg_cache.proofs.BufferFacts.{victim_page, victim-saves}
use Rattle.pg_cache.proofs.cache.Cache.save_victim.Goals as goal

pub save-requires : goal.save-requires
save-requires g c =
    let is = victim_page _ c.in-Some.page c.self.invariant.sound (sym c.in-Some.is ∙ c.victim.ensures.victim) in
    subst (λ (v : CacheNow). IsSome (resident_page v c.in-Some.page)) c.self.view_is (subst (λ o. IsSome o) (sym is.found) refl)

pub returns-in-Some-clause-saves : goal.returns-in-Some-clause-saves
returns-in-Some-clause-saves g c =
    let is = victim_page _ c.in-Some.page c.self.invariant.sound (sym c.in-Some.is ∙ c.victim.ensures.victim) in
    let found = ap (λ (v : CacheNow). resident_page v c.in-Some.page) (sym c.self.view_is) ∙ is.found in
    let last = ap (λ (v : CacheNow). victim v) (sym c.self.view_is) ∙ is.last in
    let saves = subst (λ o. IfSome o (λ held. Saves c.args.self.now held (is_err c.save.result) c.save.new.self)) found c.save.ensures.saves in
    subst (λ o. MatchOption o ((is_err c.save.result ≡ false) × (c.save.new.self ≡ c.args.self.now)) (λ held. Saves c.args.self.now held (is_err c.save.result) c.save.new.self)) (sym last) saves

pub returns-in-Some-clause-victim : goal.returns-in-Some-clause-victim
returns-in-Some-clause-victim g c =
    let is = victim_page _ c.in-Some.page c.self.invariant.sound (sym c.in-Some.is ∙ c.victim.ensures.victim) in
    let found = ap (λ (v : CacheNow). resident_page v c.in-Some.page) (sym c.self.view_is) ∙ is.found in
    let saves = subst (λ o. IfSome o (λ held. Saves c.args.self.now held (is_err c.save.result) c.save.new.self)) found c.save.ensures.saves in
    victim-saves c.args.self.now c.save.new.self is.entry (is_err c.save.result) saves
