use Rattle.std.proofs.Common.{ℕ, sym, subst}
use Rattle.pg_book.specs.Models.{BookOf}
use Rattle.pg_book.specs.Trials.{IsRun}
use Rattle.pg_book.proofs.Trials.{run_begins}
use Rattle.pg_book.proofs.tests.history_of.Goals as goal

pub loop-used-init : goal.loop-used-init
loop-used-init c = subst (λ (b : BookOf ℕ). IsRun b 0 c.in-Ok.spines.items c.in-Ok.passes.items) (sym c.book.view_is) (run_begins _ _ _ _ c.in-Ok.ensures.opened)
