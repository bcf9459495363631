use Rattle.std.proofs.Common.{◌≡◌, ◌∙◌, ap, sym}
use Rattle.pg_cache.specs.Cache.{CacheNow}
use Rattle.pg_pages.specs.Pages.{PagesNow}
use Rattle.pg_pages.specs.MarkSteps.{peeked}
use Rattle.pg_pages.proofs.CallFacts.{peek_marked}
use Rattle.pg_pages.proofs.pages.Pages.ready.Goals as goal

pub invariant_of-self : goal.invariant_of-self
invariant_of-self g c =
    let view = c.self.view_is ∙ c.before_peek.ensures in
    let cache : c.self.inside.cache ≡ c.args.self.now.cache = ap (λ (v : PagesNow). v.cache) view in
    let before = ap (λ (v : PagesNow). v.marks) view ∙ ap (λ (x : CacheNow). peeked x c.args.page c.args.self.now.marks) (sym cache) in
    peek_marked g.D.Digester.hash _ _ _ _ c.args.page _ before c.self.invariant c.peek.follows.holds-at-none.leaves

pub returns-in_err-peek-clause-marked : goal.returns-in_err-peek-clause-marked
returns-in_err-peek-clause-marked g c =
    let view = c.self.view_is ∙ c.before_peek.ensures in
    let cache : c.self.inside.cache ≡ c.args.self.now.cache = ap (λ (v : PagesNow). v.cache) view in
    let before = ap (λ (v : PagesNow). v.marks) view ∙ ap (λ (x : CacheNow). peeked x c.args.page c.args.self.now.marks) (sym cache) in
    peek_marked g.D.Digester.hash _ _ _ _ c.args.page _ before c.self.invariant c.peek.follows.holds-at-none.leaves

pub invariant_of-self-2 : goal.invariant_of-self-2
invariant_of-self-2 g c =
    let view = c.self.view_is ∙ c.before_peek.ensures in
    let cache : c.self.inside.cache ≡ c.args.self.now.cache = ap (λ (v : PagesNow). v.cache) view in
    let before = ap (λ (v : PagesNow). v.marks) view ∙ ap (λ (x : CacheNow). peeked x c.args.page c.args.self.now.marks) (sym cache) in
    peek_marked g.D.Digester.hash _ _ _ _ c.args.page _ before c.self.invariant c.peek.follows.holds-at-none.leaves

pub returns-clause-marked : goal.returns-clause-marked
returns-clause-marked g c =
    let view = c.self.view_is ∙ c.before_peek.ensures in
    let cache : c.self.inside.cache ≡ c.args.self.now.cache = ap (λ (v : PagesNow). v.cache) view in
    let before = ap (λ (v : PagesNow). v.marks) view ∙ ap (λ (x : CacheNow). peeked x c.args.page c.args.self.now.marks) (sym cache) in
    peek_marked g.D.Digester.hash _ _ _ _ c.args.page _ before c.self.invariant c.peek.follows.holds-at-none.leaves
