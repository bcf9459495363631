use Rattle.std.proofs.Common.{sym, subst}
use Rattle.pg_pages.specs.Pages.{PagesNow, IsMarked}
use Rattle.std.specs.Prelude.{IsSome}
use Rattle.pg_cache.specs.Cache.{resident_page}
use Rattle.pg_pages.proofs.CallFacts.{put_marked}
use Rattle.pg_pages.proofs.pages.Pages.put.Goals as goal

pub invariant_of-self : goal.invariant_of-self
invariant_of-self g c =
    let there = subst (λ (v : PagesNow). IsSome (resident_page v.cache c.args.page)) (sym c.self.view_is) c.requires.resident in
    subst (IsMarked g.D.Digester.hash c.put.new.self) (sym c.apply.ensures) (put_marked g.D.Digester.hash _ _ _ c.args.page c.args.at c.args.bytes.now there c.self.invariant c.put.ensures.gives)

pub returns-clause-marked : goal.returns-clause-marked
returns-clause-marked g c =
    let there = subst (λ (v : PagesNow). IsSome (resident_page v.cache c.args.page)) (sym c.self.view_is) c.requires.resident in
    subst (IsMarked g.D.Digester.hash c.put.new.self) (sym c.apply.ensures) (put_marked g.D.Digester.hash _ _ _ c.args.page c.args.at c.args.bytes.now there c.self.invariant c.put.ensures.gives)
