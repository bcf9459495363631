use Rattle.std.proofs.Common.{sym, subst}
use Rattle.std.specs.Prelude.{Result, Ok, Bool}
use Rattle.pg_cache.specs.declared.fault.PagerFault.{PagerFault}
use Rattle.pg_cache.specs.Gives.{EvictGives}
use Rattle.pg_pages.specs.Pages.{IsMarked}
use Rattle.pg_pages.proofs.CallFacts.{evict_failed_marked, evict_marked}
use Rattle.pg_pages.proofs.pages.Pages.evict.Goals as goal

pub invariant_of-self : goal.invariant_of-self
invariant_of-self g c =
    evict_failed_marked g.D.Digester.hash _ _ _ c.args.page _ c.self.invariant c.in_err-evict.ensures.gives

pub returns-in_err-evict-clause-marked : goal.returns-in_err-evict-clause-marked
returns-in_err-evict-clause-marked g c =
    evict_failed_marked g.D.Digester.hash _ _ _ c.args.page _ c.self.invariant c.in_err-evict.ensures.gives

pub invariant_of-self-2 : goal.invariant_of-self-2
invariant_of-self-2 g c =
    let kept : Bool → Result Bool PagerFault = λ b. Ok b in
    let gives = subst (λ b. EvictGives c.self.inside.cache c.args.page (kept b) c.evict.new.self) c.if-not-branch.false c.in_ok-evict.ensures.gives in
    subst (IsMarked g.D.Digester.hash c.evict.new.self) (sym c.apply.ensures) (evict_marked g.D.Digester.hash _ _ _ c.args.page c.self.invariant gives)

pub returns-clause-marked : goal.returns-clause-marked
returns-clause-marked g c =
    let kept : Bool → Result Bool PagerFault = λ b. Ok b in
    let gives = subst (λ b. EvictGives c.self.inside.cache c.args.page (kept b) c.evict.new.self) c.if-not-branch.false c.in_ok-evict.ensures.gives in
    subst (IsMarked g.D.Digester.hash c.evict.new.self) (sym c.apply.ensures) (evict_marked g.D.Digester.hash _ _ _ c.args.page c.self.invariant gives)
