use Rattle.std.proofs.Common.{◌∙◌, ap, sym, subst}
use Rattle.pg_pages.specs.Pages.{IsMarked}
use Rattle.pg_pages.specs.Marks.{marked_if}
use Rattle.pg_pages.specs.declared.row.Row.TheVariants.{Goes}
use Rattle.pg_pages.proofs.MarkFacts.{spare_gone_marked}
use Rattle.pg_pages.proofs.pages.Pages.forget_spare.Goals as goal

pub invariant_of-self : goal.invariant_of-self
invariant_of-self g c =
    subst (IsMarked g.D.Digester.hash c.self.inside.cache) (sym (c.apply_if.ensures ∙ ap (λ o. marked_if Goes o c.self.inside.marks) c.spare.ensures.spare)) (spare_gone_marked g.D.Digester.hash _ _ c.self.invariant)

pub returns-clause-marked : goal.returns-clause-marked
returns-clause-marked g c =
    subst (IsMarked g.D.Digester.hash c.self.inside.cache) (sym (c.apply_if.ensures ∙ ap (λ o. marked_if Goes o c.self.inside.marks) c.spare.ensures.spare)) (spare_gone_marked g.D.Digester.hash _ _ c.self.invariant)
