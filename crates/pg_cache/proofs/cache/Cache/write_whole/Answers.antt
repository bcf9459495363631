use Rattle.std.proofs.Common.{◌≡◌, ◌∙◌, true, false, None, refl, sym, subst, length}
use Rattle.pg_cache.specs.Held.{find_held}
use Rattle.pg_cache.specs.Cache.{CacheNow}
use Rattle.pg_cache.proofs.StepFacts.{through_absent, write_as}
use Rattle.pg_cache.proofs.BufferFacts.{kept_through}
use Rattle.pg_cache.proofs.cache.Cache.write_whole.Goals as goal

pub invariant_of-self : goal.invariant_of-self
invariant_of-self g c =
    let failed = sym c.is_err.ensures.value ∙ c.if-is_err.true in
    let absent = subst (λ (v : CacheNow). find_held v.held c.args.page ≡ None) (sym c.self.view_is) c.requires.absent in
    let long = subst (λ (v : CacheNow). length c.args.bytes.now ≡ v.pager.page_size) (sym c.self.view_is) c.requires.whole in
    kept_through _ _ _ _ c.self.invariant c.args.page c.args.bytes.now true _ absent (write_as _ _ _ _ _ _ failed c.write_page.ensures) long

pub invariant_of-self-2 : goal.invariant_of-self-2
invariant_of-self-2 g c =
    let done = sym c.is_err.ensures.value ∙ c.if-is_err.false in
    let absent = subst (λ (v : CacheNow). find_held v.held c.args.page ≡ None) (sym c.self.view_is) c.requires.absent in
    let long = subst (λ (v : CacheNow). length c.args.bytes.now ≡ v.pager.page_size) (sym c.self.view_is) c.requires.whole in
    kept_through _ _ _ _ c.self.invariant c.args.page c.args.bytes.now false _ absent (write_as _ _ _ _ _ _ done c.write_page.ensures) long

pub returns-clause-writes : goal.returns-clause-writes
returns-clause-writes g c =
    let done = sym c.is_err.ensures.value ∙ c.if-is_err.false in
    let absent = subst (λ (v : CacheNow). find_held v.held c.args.page ≡ None) (sym c.self.view_is) c.requires.absent in
    through_absent _ _ _ c.args.page c.args.bytes.now false c.self.view_is absent (write_as _ _ _ _ _ _ done c.write_page.ensures) refl
