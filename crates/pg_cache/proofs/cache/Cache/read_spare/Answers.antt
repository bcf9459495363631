use Rattle.std.proofs.Common.{◌≡◌, ◌∙◌, ◌<◌, true, false, None, ap, sym, subst}
use Rattle.pg_cache.specs.Held.{find_held}
use Rattle.pg_cache.specs.Cache.{CacheNow}
use Rattle.pg_cache.specs.Store.{Stored}
use Rattle.pg_cache.specs.Buffers.{HasBuffers}
use Rattle.pg_cache.proofs.StepFacts.{read_as}
use Rattle.pg_cache.proofs.BufferFacts.{kept_read, kept_unread}
use Rattle.pg_cache.proofs.cache.Cache.read_spare.Goals as goal

pub invariant_of-self : goal.invariant_of-self
invariant_of-self g c =
    let i = c.self.inside in
    let failed = sym c.is_err.ensures.value ∙ c.if-is_err.true in
    let absent = subst (λ (v : CacheNow). find_held v.held c.args.page ≡ None) (sym c.self.view_is) c.requires.absent in
    let inside = subst (λ (v : CacheNow). c.args.page < v.pager.pages) (sym c.self.view_is) c.requires.inside in
    let long = c.read_spare.ensures.whole ∙ ap (λ (s : Stored). s.page_size) c.read_spare.ensures.spare ∙ c.self.invariant.size in
    subst (λ (s : Stored). HasBuffers s i.buffer false (g.P.Pager.shows c.read_spare.new.pager)) (sym c.read_spare.ensures.spare)
    (kept_unread _ _ _ _ c.self.invariant c.args.page c.read_spare.new.self.spare.bytes _ absent inside (read_as _ _ _ _ _ _ failed c.read_spare.ensures.read) long)

pub invariant_of-self-2 : goal.invariant_of-self-2
invariant_of-self-2 g c =
    let i = c.self.inside in
    let done = sym c.is_err.ensures.value ∙ c.if-is_err.false in
    let absent = subst (λ (v : CacheNow). find_held v.held c.args.page ≡ None) (sym c.self.view_is) c.requires.absent in
    let inside = subst (λ (v : CacheNow). c.args.page < v.pager.pages) (sym c.self.view_is) c.requires.inside in
    let long = c.read_spare.ensures.whole ∙ ap (λ (s : Stored). s.page_size) c.read_spare.ensures.spare ∙ c.self.invariant.size in
    subst (λ (s : Stored). HasBuffers s i.buffer true (g.P.Pager.shows c.read_spare.new.pager)) (sym c.read_spare.ensures.spare)
    (kept_read _ _ _ _ c.self.invariant c.args.page c.read_spare.new.self.spare.bytes _ absent inside (read_as _ _ _ _ _ _ done c.read_spare.ensures.read) long)
