use Rattle.std.proofs.Common.{◌≡◌, ◌<◌, ◌∙◌, ap, sym, subst}
use Rattle.pg_cache.specs.Cache.{CacheNow}
use Rattle.pg_pages.specs.Pages.{PagesNow, IsMarked}
use Rattle.pg_pages.specs.Marks.{marked_if}
use Rattle.pg_pages.specs.declared.row.Row.TheVariants.{Goes}
use Rattle.pg_pages.specs.MarkSteps.{filled}
use Rattle.pg_pages.proofs.MarkFacts.{none_of}
use Rattle.pg_pages.proofs.CallFacts.{bring_failed_marked, bring_front_marked, bring_marked}
use Rattle.pg_pages.proofs.pages.Pages.bring.Goals as goal

pub invariant_of-self : goal.invariant_of-self
invariant_of-self g c =
    let view = c.self.view_is ∙ c.before_bring.ensures in
    let cache : c.self.inside.cache ≡ c.args.self.now.cache = ap (λ (v : PagesNow). v.cache) view in
    let before = ap (λ (v : PagesNow). v.marks) view ∙ ap (λ (x : CacheNow). filled x c.args.page c.args.self.now.marks) (sym cache) in
    bring_failed_marked g.D.Digester.hash _ _ _ _ c.args.page _ before c.self.invariant c.in_err-left.ensures.gives

pub returns-in_err-left-clause-marked : goal.returns-in_err-left-clause-marked
returns-in_err-left-clause-marked g c =
    let view = c.self.view_is ∙ c.before_bring.ensures in
    let cache : c.self.inside.cache ≡ c.args.self.now.cache = ap (λ (v : PagesNow). v.cache) view in
    let before = ap (λ (v : PagesNow). v.marks) view ∙ ap (λ (x : CacheNow). filled x c.args.page c.args.self.now.marks) (sym cache) in
    bring_failed_marked g.D.Digester.hash _ _ _ _ c.args.page _ before c.self.invariant c.in_err-left.ensures.gives

pub invariant_of-self-then-resident : goal.invariant_of-self-then-resident
invariant_of-self-then-resident g c =
    bring_front_marked g.D.Digester.hash _ _ _ c.args.page _ (sym c.is_resident-resident.ensures.resident ∙ c.if-resident.true) c.self.invariant c.in_ok-left.ensures.gives

pub returns-then-resident-clause-marked : goal.returns-then-resident-clause-marked
returns-then-resident-clause-marked g c =
    bring_front_marked g.D.Digester.hash _ _ _ c.args.page _ (sym c.is_resident-resident.ensures.resident ∙ c.if-resident.true) c.self.invariant c.in_ok-left.ensures.gives

pub invariant_of-self-2 : goal.invariant_of-self-2
invariant_of-self-2 g c =
    let view = c.self.view_is ∙ c.before_bring.ensures in
    let cache : c.self.inside.cache ≡ c.args.self.now.cache = ap (λ (v : PagesNow). v.cache) view in
    let before = ap (λ (v : PagesNow). v.marks) view ∙ ap (λ (x : CacheNow). filled x c.args.page c.args.self.now.marks) (sym cache) in
    let inside = subst (λ (x : CacheNow). c.args.page < x.pager.pages) (sym cache) c.requires in
    let absent = none_of _ (sym c.is_resident-resident.ensures.resident ∙ c.if-resident.false) in
    subst (IsMarked g.D.Digester.hash c.bring.new.self) (sym (c.apply_if.ensures ∙ ap (marked_if Goes c.in_ok-left.left) c.apply.ensures)) (bring_marked g.D.Digester.hash _ _ _ _ c.args.page c.in_ok-left.left inside absent before c.self.invariant c.in_ok-left.ensures.gives)

pub returns-clause-marked : goal.returns-clause-marked
returns-clause-marked g c =
    let view = c.self.view_is ∙ c.before_bring.ensures in
    let cache : c.self.inside.cache ≡ c.args.self.now.cache = ap (λ (v : PagesNow). v.cache) view in
    let before = ap (λ (v : PagesNow). v.marks) view ∙ ap (λ (x : CacheNow). filled x c.args.page c.args.self.now.marks) (sym cache) in
    let inside = subst (λ (x : CacheNow). c.args.page < x.pager.pages) (sym cache) c.requires in
    let absent = none_of _ (sym c.is_resident-resident.ensures.resident ∙ c.if-resident.false) in
    subst (IsMarked g.D.Digester.hash c.bring.new.self) (sym (c.apply_if.ensures ∙ ap (marked_if Goes c.in_ok-left.left) c.apply.ensures)) (bring_marked g.D.Digester.hash _ _ _ _ c.args.page c.in_ok-left.left inside absent before c.self.invariant c.in_ok-left.ensures.gives)
