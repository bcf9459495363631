use Rattle.std.proofs.Common.{◌≡◌, ◌∙◌, true, sym, subst, rules}
use Rattle.pg_pages.specs.Pages.{IsMarked}
use Rattle.pg_pages.proofs.MarkFacts.{resident_hand}
use Rattle.pg_pages.proofs.CallFacts.{unmapped_marked}
use Rattle.pg_pages.proofs.pages.Pages.clear_writable.Goals as goal

pub invariant_of-self : goal.invariant_of-self
invariant_of-self g c =
    let is : c.is_resident.result ≡ true = search rules in
    let there = sym c.is_resident.ensures.resident ∙ is in
    subst (IsMarked g.D.Digester.hash c.self.inside.cache) (sym c.apply.ensures) (unmapped_marked g.D.Digester.hash _ _ c.args.page (resident_hand c.self.inside.cache c.args.page there) c.self.invariant)

pub returns-clause-marked : goal.returns-clause-marked
returns-clause-marked g c =
    let is : c.is_resident.result ≡ true = search rules in
    let there = sym c.is_resident.ensures.resident ∙ is in
    subst (IsMarked g.D.Digester.hash c.self.inside.cache) (sym c.apply.ensures) (unmapped_marked g.D.Digester.hash _ _ c.args.page (resident_hand c.self.inside.cache c.args.page there) c.self.invariant)
