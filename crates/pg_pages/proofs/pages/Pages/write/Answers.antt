use Rattle.std.proofs.Common.{◌≡◌, ◌<◌, ◌∙◌, ap, sym, subst}
use Rattle.pg_cache.specs.Cache.{CacheNow}
use Rattle.pg_pages.specs.Pages.{PagesNow, IsMarked}
use Rattle.pg_pages.specs.MarkSteps.{spare_gone}
use Rattle.pg_pages.proofs.CallFacts.{write_failed_marked, write_marked}
use Rattle.pg_pages.proofs.pages.Pages.write.Goals as goal

pub invariant_of-self : goal.invariant_of-self
invariant_of-self g c =
    let view = c.self.view_is ∙ c.forget_spare.ensures.marks in
    let cache : c.self.inside.cache ≡ c.args.self.now.cache = ap (λ (v : PagesNow). v.cache) view in
    let before = ap (λ (v : PagesNow). v.marks) view ∙ ap (λ (x : CacheNow). spare_gone x c.args.self.now.marks) (sym cache) in
    write_failed_marked g.D.Digester.hash _ _ _ _ c.args.page c.args.at c.args.bytes.now _ before c.self.invariant c.in_err-write.ensures.gives

pub returns-in_err-write-clause-marked : goal.returns-in_err-write-clause-marked
returns-in_err-write-clause-marked g c =
    let view = c.self.view_is ∙ c.forget_spare.ensures.marks in
    let cache : c.self.inside.cache ≡ c.args.self.now.cache = ap (λ (v : PagesNow). v.cache) view in
    let before = ap (λ (v : PagesNow). v.marks) view ∙ ap (λ (x : CacheNow). spare_gone x c.args.self.now.marks) (sym cache) in
    write_failed_marked g.D.Digester.hash _ _ _ _ c.args.page c.args.at c.args.bytes.now _ before c.self.invariant c.in_err-write.ensures.gives

pub invariant_of-self-2 : goal.invariant_of-self-2
invariant_of-self-2 g c =
    let view = c.self.view_is ∙ c.forget_spare.ensures.marks in
    let cache : c.self.inside.cache ≡ c.args.self.now.cache = ap (λ (v : PagesNow). v.cache) view in
    let before = ap (λ (v : PagesNow). v.marks) view ∙ ap (λ (x : CacheNow). spare_gone x c.args.self.now.marks) (sym cache) in
    let inside = subst (λ (x : CacheNow). c.args.page < x.pager.pages) (sym cache) c.requires.inside in
    subst (IsMarked g.D.Digester.hash c.write.new.self) (sym c.apply.ensures) (write_marked g.D.Digester.hash _ _ _ _ c.args.page c.args.at c.args.bytes.now _ inside before c.self.invariant c.in_ok-write.ensures.gives)

pub returns-clause-marked : goal.returns-clause-marked
returns-clause-marked g c =
    let view = c.self.view_is ∙ c.forget_spare.ensures.marks in
    let cache : c.self.inside.cache ≡ c.args.self.now.cache = ap (λ (v : PagesNow). v.cache) view in
    let before = ap (λ (v : PagesNow). v.marks) view ∙ ap (λ (x : CacheNow). spare_gone x c.args.self.now.marks) (sym cache) in
    let inside = subst (λ (x : CacheNow). c.args.page < x.pager.pages) (sym cache) c.requires.inside in
    subst (IsMarked g.D.Digester.hash c.write.new.self) (sym c.apply.ensures) (write_marked g.D.Digester.hash _ _ _ _ c.args.page c.args.at c.args.bytes.now _ inside before c.self.invariant c.in_ok-write.ensures.gives)
