use Rattle.std.proofs.Common.{subst}
use Rattle.std.specs.Prelude.{IfSome}
use Rattle.pg_history.specs.Legal.{IsStamped, Agrees}
use Rattle.pg_parts.specs.Opened.{numbers_in, opening_in}
use Rattle.pg_machine.specs.Solo.{SoloNow, IsAnswered}
use Rattle.pg_machine.proofs.OpeningFacts.{opening-answers}
use Rattle.pg_machine.proofs.solo.Solo.close.Goals as goal

pub returns-clause-stamps : goal.returns-clause-stamps
returns-clause-stamps g c = subst (λ (s : SoloNow). IsStamped s.made) c.self.view_is c.self.invariant.0.stamps

pub returns-clause-agrees : goal.returns-clause-agrees
returns-clause-agrees g c = subst (λ (s : SoloNow). Agrees (numbers_in s.start) s.made) c.self.view_is c.self.invariant.0.agrees

pub returns-clause-answered : goal.returns-clause-answered
returns-clause-answered g c =
    subst (λ (s : SoloNow). IfSome (opening_in s.start) (IsAnswered g.D.Digester.hash (numbers_in s.start) s.made)) c.self.view_is
    (opening-answers g.D.Digester.hash _ _ _ c.self.invariant.0)
