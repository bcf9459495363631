use Rattle.std.proofs.Common.{◌≡◌, ◌∙◌, true, ap, sym, subst, rules}
use Rattle.std.specs.Prelude.{is_some}
use Rattle.pg_cache.specs.Held.{without}
use Rattle.pg_cache.specs.Cache.{CacheNow, resident_page}
use Rattle.pg_cache.specs.Store.{Stored}
use Rattle.pg_cache.specs.Buffers.{cache_of, HasBuffers}
use Rattle.pg_cache.proofs.BufferFacts.{kept_left, evicts_found}
use Rattle.pg_cache.proofs.cache.Cache.put_out.Goals as goal

pub invariant_of-self : goal.invariant_of-self
invariant_of-self g c =
    let i = c.self.inside in
    subst (λ (s : Stored). HasBuffers s i.buffer i.has_spare (g.P.Pager.shows i.pager)) (sym c.remove.ensures) (kept_left _ _ _ _ c.self.invariant c.args.page)

pub returns-clause-steps : goal.returns-clause-steps
returns-clause-steps g c =
    let i = c.self.inside in
    let there : is_some (resident_page c.args.self.now c.args.page) ≡ true = search rules in
    evicts_found c.args.self.now c.save.new.self _ c.args.page there c.in_ok-save.ensures.saves
    (ap (λ (s : Stored). cache_of s i.has_spare (g.P.Pager.shows i.pager)) c.remove.ensures ∙ ap (λ (v : CacheNow). record v { held = without v.held c.args.page }) c.self.view_is)
