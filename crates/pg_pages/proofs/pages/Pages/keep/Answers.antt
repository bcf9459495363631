use Rattle.std.proofs.Common.{◌≡◌, ◌<◌, ap, sym, subst, refl}
use Rattle.pg_cache.specs.Cache.{CacheNow}
use Rattle.pg_pages.specs.declared.row.Row.TheVariants.{FoundOther}
use Rattle.pg_pages.specs.Pages.{PagesNow, IsMarked, Checked, bytes_at_hand}
use Rattle.pg_pages.proofs.CallFacts.{sealed_marked, unvalidated_marked, checked_hand}
use Rattle.pg_pages.proofs.pages.Pages.keep.Goals as goal

pub invariant_of-self : goal.invariant_of-self
invariant_of-self g c =
    let cache : c.self.inside.cache ≡ c.args.self.now.cache = ap (λ (v : PagesNow). v.cache) c.self.view_is in
    let here = subst (λ (x : CacheNow). Checked g.D.Digester.hash (record { kind = c.args.kind; part = c.args.part; digests = c.args.wanted.now }) (bytes_at_hand x c.args.page) c.args.check.now) (sym cache) c.requires.found in
    let inside = subst (λ (x : CacheNow). c.args.page < x.pager.pages) (sym cache) c.requires.inside in
    let found = subst (λ k. Checked g.D.Digester.hash (record { kind = c.args.kind; part = c.args.part; digests = c.args.wanted.now }) (bytes_at_hand c.self.inside.cache c.args.page) k) c.in-Sealed.is here in
    subst (IsMarked g.D.Digester.hash c.self.inside.cache) (sym c.seal.ensures) (sealed_marked g.D.Digester.hash _ _ c.args.page (record { kind = c.args.kind; part = c.args.part; digests = c.args.wanted.now }) inside found c.self.invariant)

pub returns-in-Sealed-clause-marked : goal.returns-in-Sealed-clause-marked
returns-in-Sealed-clause-marked g c =
    let cache : c.self.inside.cache ≡ c.args.self.now.cache = ap (λ (v : PagesNow). v.cache) c.self.view_is in
    let here = subst (λ (x : CacheNow). Checked g.D.Digester.hash (record { kind = c.args.kind; part = c.args.part; digests = c.args.wanted.now }) (bytes_at_hand x c.args.page) c.args.check.now) (sym cache) c.requires.found in
    let inside = subst (λ (x : CacheNow). c.args.page < x.pager.pages) (sym cache) c.requires.inside in
    let found = subst (λ k. Checked g.D.Digester.hash (record { kind = c.args.kind; part = c.args.part; digests = c.args.wanted.now }) (bytes_at_hand c.self.inside.cache c.args.page) k) c.in-Sealed.is here in
    subst (IsMarked g.D.Digester.hash c.self.inside.cache) (sym c.seal.ensures) (sealed_marked g.D.Digester.hash _ _ c.args.page (record { kind = c.args.kind; part = c.args.part; digests = c.args.wanted.now }) inside found c.self.invariant)

pub invariant_of-self-in-NotSealed : goal.invariant_of-self-in-NotSealed
invariant_of-self-in-NotSealed g c =
    let cache : c.self.inside.cache ≡ c.args.self.now.cache = ap (λ (v : PagesNow). v.cache) c.self.view_is in
    let here = subst (λ (x : CacheNow). Checked g.D.Digester.hash (record { kind = c.args.kind; part = c.args.part; digests = c.args.wanted.now }) (bytes_at_hand x c.args.page) c.args.check.now) (sym cache) c.requires.found in
    subst (IsMarked g.D.Digester.hash c.self.inside.cache) (sym c.apply.ensures)
    (unvalidated_marked g.D.Digester.hash _ _ c.args.page FoundOther (checked_hand g.D.Digester.hash c.self.inside.cache c.args.page (record { kind = c.args.kind; part = c.args.part; digests = c.args.wanted.now }) c.args.check.now here) (λ m. refl) c.self.invariant)

pub returns-in-NotSealed-clause-marked : goal.returns-in-NotSealed-clause-marked
returns-in-NotSealed-clause-marked g c =
    let cache : c.self.inside.cache ≡ c.args.self.now.cache = ap (λ (v : PagesNow). v.cache) c.self.view_is in
    let here = subst (λ (x : CacheNow). Checked g.D.Digester.hash (record { kind = c.args.kind; part = c.args.part; digests = c.args.wanted.now }) (bytes_at_hand x c.args.page) c.args.check.now) (sym cache) c.requires.found in
    subst (IsMarked g.D.Digester.hash c.self.inside.cache) (sym c.apply.ensures)
    (unvalidated_marked g.D.Digester.hash _ _ c.args.page FoundOther (checked_hand g.D.Digester.hash c.self.inside.cache c.args.page (record { kind = c.args.kind; part = c.args.part; digests = c.args.wanted.now }) c.args.check.now here) (λ m. refl) c.self.invariant)
