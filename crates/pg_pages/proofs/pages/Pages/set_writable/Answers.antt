use Rattle.std.proofs.Common.{refl, sym, subst}
use Rattle.pg_pages.specs.Pages.{PagesNow, IsMarked}
use Rattle.std.specs.Prelude.{IsSome}
use Rattle.pg_cache.specs.Cache.{resident_page}
use Rattle.pg_pages.specs.declared.row.Row.TheVariants.{MapsWritable}
use Rattle.pg_pages.proofs.MarkFacts.{resident_hand}
use Rattle.pg_pages.proofs.CallFacts.{unvalidated_marked}
use Rattle.pg_pages.proofs.pages.Pages.set_writable.Goals as goal

pub invariant_of-self : goal.invariant_of-self
invariant_of-self g c =
    let there = subst (λ (v : PagesNow). IsSome (resident_page v.cache c.args.page)) (sym c.self.view_is) c.requires in
    subst (IsMarked g.D.Digester.hash c.self.inside.cache) (sym c.apply.ensures) (unvalidated_marked g.D.Digester.hash _ _ c.args.page MapsWritable (resident_hand c.self.inside.cache c.args.page there) (λ m. refl) c.self.invariant)

pub returns-clause-marked : goal.returns-clause-marked
returns-clause-marked g c =
    let there = subst (λ (v : PagesNow). IsSome (resident_page v.cache c.args.page)) (sym c.self.view_is) c.requires in
    subst (IsMarked g.D.Digester.hash c.self.inside.cache) (sym c.apply.ensures) (unvalidated_marked g.D.Digester.hash _ _ c.args.page MapsWritable (resident_hand c.self.inside.cache c.args.page there) (λ m. refl) c.self.invariant)
