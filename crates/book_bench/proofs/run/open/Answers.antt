use Rattle.std.proofs.Common.{◌≡◌, ◌≢◌, ℕ, ◌+◌, ◌<◌, sym, ap, ◌∙◌, subst}
use Rattle.pg_book.specs.declared.book.OpenFail.TheVariants.{Found}
use Rattle.pg_book.specs.Needs.{names_of, rows}
use Rattle.pg_book.specs.Fails.{IsRefused}
use Rattle.pg_book.specs.Opening.{IsOpenable, IsOpened}
use Rattle.book_bench.specs.declared.fail.BenchFail.TheVariants.{NoClock, NotOpened}
use Rattle.book_bench.specs.Fails.{IsRunFail}
use Rattle.book_bench.specs.Runs.{IsReady}
use Rattle.book_bench.proofs.OwnPartsFacts.{openable, own_names}
use Rattle.book_bench.proofs.RunFacts.{is_ready}
use Rattle.book_bench.proofs.run.open.Goals as goal

pub open-requires : goal.open-requires
open-requires c = record { openable = subst IsOpenable (sym c.in_ok-needs.ensures) (openable c.args.draws c.args.callers c.requires.callers.0 c.requires.callers.1 c.requires.entries) }

pub returns-in-Err-Found-clause-fails : goal.returns-in-Err-Found-clause-fails
returns-in-Err-Found-clause-fails c =
    let names : names_of (rows c.in_ok-needs.needs) ≡ c.args.callers + c.args.callers = ap names_of c.in_ok-needs.ensures ∙ own_names c.args.draws c.args.callers in
    let is : IsRefused c.in_ok-needs.needs (names_of (rows c.in_ok-needs.needs)) (Found c.in-Err-Found._needs c.in-Err-Found.wanted c.in-Err-Found.found) = subst (IsRefused _ _) c.in-Err-Found.field-0-is c.in-Err-Found.ensures.refused in
    let name : c.in-Err-Found.wanted < c.args.callers + c.args.callers = subst (λ n. c.in-Err-Found.wanted < n) names is.1 in
    subst (λ (x : ℕ × ℕ). (NotOpened x.0 x.1 ≢ NoClock) × IsRunFail c.args.callers (NotOpened x.0 x.1)) (λ i. (sym c.in-Err-Found.wanted-is i, sym c.in-Err-Found.found-is i)) ((λ e. cc), (name, is.2))

pub returns-clause-ready : goal.returns-clause-ready
returns-clause-ready c =
    let opened = subst (λ needs. IsOpened needs c.in-Ok.opened.0 c.in-Ok.opened.1.items c.in-Ok.opened.2.items) c.in_ok-needs.ensures c.in-Ok.ensures.opened in
    subst (IsReady c.args.callers c.args.draws c.in-Ok.opened.0) (sym c.in_ok-hands.ensures) (is_ready c.args.callers c.args.draws c.in-Ok.opened.0 c.in-Ok.opened.1.items c.in-Ok.opened.2.items opened)
