use Rattle.std.proofs.Common.{◌≡◌, ◌∙◌, ◌<◌, ℕ, List, true, false, Some, None, Option, refl, ap, sym, subst, length}
use Rattle.std.specs.Prelude.{IfSome, IsSome, if◌then◌else◌}
use Rattle.std.specs.Option.{option_map}
use Rattle.pg_io.specs.Pager.{IsWrite}
use Rattle.pg_cache.specs.Held.{Held, find_held}
use Rattle.pg_cache.specs.Cache.{CacheNow, resident_page}
use Rattle.pg_cache.proofs.SoundFacts.{kept_find}
use Rattle.pg_cache.proofs.SizeFacts.{whole_found}
use Rattle.pg_cache.proofs.StepFacts.{write_to}
use Rattle.pg_cache.proofs.BufferFacts.{dirty_page, kept_saved, saves_found}
use Rattle.pg_cache.proofs.cache.Cache.save.Goals as goal

pub write_page-requires-clause-inside : goal.write_page-requires-clause-inside
write_page-requires-clause-inside g c =
    let i = c.self.inside in
    let some = subst (λ (v : CacheNow). IsSome (resident_page v c.args.page)) (sym c.self.view_is) c.requires in
    let is = dirty_page i.store.held c.args.page c.in-Some.bytes.now some
    (subst (λ o. IfSome (find_held i.store.held c.args.page) (λ (h : Held). ◌≡◌ {A = Option (List ℕ)} (option_map (λ bytes. bytes.now) o) (if h.dirty then Some h.bytes else None))) c.in-Some.is c.dirty_bytes.ensures) in
    subst (λ n. n < (g.P.Pager.shows c.self.inside.pager).pages) is.numbered (kept_find _ _ _ _ _ c.self.invariant.sound.kept is.here).inside

pub write_page-requires-clause-whole : goal.write_page-requires-clause-whole
write_page-requires-clause-whole g c =
    let i = c.self.inside in
    let some = subst (λ (v : CacheNow). IsSome (resident_page v c.args.page)) (sym c.self.view_is) c.requires in
    let is = dirty_page i.store.held c.args.page c.in-Some.bytes.now some
    (subst (λ o. IfSome (find_held i.store.held c.args.page) (λ (h : Held). ◌≡◌ {A = Option (List ℕ)} (option_map (λ bytes. bytes.now) o) (if h.dirty then Some h.bytes else None))) c.in-Some.is c.dirty_bytes.ensures) in
    ap length is.same ∙ whole_found _ _ _ _ c.self.invariant.sized.whole is.here

pub invariant_of-self : goal.invariant_of-self
invariant_of-self g c =
    let i = c.self.inside in
    let some = subst (λ (v : CacheNow). IsSome (resident_page v c.args.page)) (sym c.self.view_is) c.requires in
    let is = dirty_page i.store.held c.args.page c.in-Some.bytes.now some
    (subst (λ o. IfSome (find_held i.store.held c.args.page) (λ (h : Held). ◌≡◌ {A = Option (List ℕ)} (option_map (λ bytes. bytes.now) o) (if h.dirty then Some h.bytes else None))) c.in-Some.is c.dirty_bytes.ensures) in
    let failed = sym c.is_err.ensures.value ∙ c.if-is_err.true in
    let write = subst (λ (b : List ℕ). IsWrite (g.P.Pager.shows i.pager) is.entry.page true b (g.P.Pager.shows c.write_page.new.self)) is.same (write_to _ _ _ _ _ _ _ (sym is.numbered) failed c.write_page.ensures) in
    kept_saved _ _ _ _ c.self.invariant is.entry true _ is.is_dirty is.found write (whole_found _ _ _ _ c.self.invariant.sized.whole is.here)

pub invariant_of-self-2 : goal.invariant_of-self-2
invariant_of-self-2 g c =
    let i = c.self.inside in
    let some = subst (λ (v : CacheNow). IsSome (resident_page v c.args.page)) (sym c.self.view_is) c.requires in
    let is = dirty_page i.store.held c.args.page c.in-Some.bytes.now some
    (subst (λ o. IfSome (find_held i.store.held c.args.page) (λ (h : Held). ◌≡◌ {A = Option (List ℕ)} (option_map (λ bytes. bytes.now) o) (if h.dirty then Some h.bytes else None))) c.in-Some.is c.dirty_bytes.ensures) in
    let done = sym c.is_err.ensures.value ∙ c.if-is_err.false in
    let write = subst (λ (b : List ℕ). IsWrite (g.P.Pager.shows i.pager) is.entry.page false b (g.P.Pager.shows c.write_page.new.self)) is.same (write_to _ _ _ _ _ _ _ (sym is.numbered) done c.write_page.ensures) in
    kept_saved _ _ _ _ c.self.invariant is.entry false _ is.is_dirty is.found write (whole_found _ _ _ _ c.self.invariant.sized.whole is.here)

pub returns-clause-saves : goal.returns-clause-saves
returns-clause-saves g c =
    let i = c.self.inside in
    let some = subst (λ (v : CacheNow). IsSome (resident_page v c.args.page)) (sym c.self.view_is) c.requires in
    let is = dirty_page i.store.held c.args.page c.in-Some.bytes.now some
    (subst (λ o. IfSome (find_held i.store.held c.args.page) (λ (h : Held). ◌≡◌ {A = Option (List ℕ)} (option_map (λ bytes. bytes.now) o) (if h.dirty then Some h.bytes else None))) c.in-Some.is c.dirty_bytes.ensures) in
    let done = sym c.is_err.ensures.value ∙ c.if-is_err.false in
    let write = subst (λ (b : List ℕ). IsWrite (g.P.Pager.shows i.pager) is.entry.page false b (g.P.Pager.shows c.write_page.new.self)) is.same (write_to _ _ _ _ _ _ _ (sym is.numbered) done c.write_page.ensures) in
    saves_found _ _ _ c.args.page is.entry false c.self.view_is is.here is.is_dirty write refl

pub returns-then-is_err-clause-saves : goal.returns-then-is_err-clause-saves
returns-then-is_err-clause-saves g c =
    let i = c.self.inside in
    let some = subst (λ (v : CacheNow). IsSome (resident_page v c.args.page)) (sym c.self.view_is) c.requires in
    let is = dirty_page i.store.held c.args.page c.in-Some.bytes.now some
    (subst (λ o. IfSome (find_held i.store.held c.args.page) (λ (h : Held). ◌≡◌ {A = Option (List ℕ)} (option_map (λ bytes. bytes.now) o) (if h.dirty then Some h.bytes else None))) c.in-Some.is c.dirty_bytes.ensures) in
    let failed = sym c.is_err.ensures.value ∙ c.if-is_err.true in
    let write = subst (λ (b : List ℕ). IsWrite (g.P.Pager.shows i.pager) is.entry.page true b (g.P.Pager.shows c.write_page.new.self)) is.same (write_to _ _ _ _ _ _ _ (sym is.numbered) failed c.write_page.ensures) in
    saves_found _ _ _ c.args.page is.entry true c.self.view_is is.here is.is_dirty write refl
