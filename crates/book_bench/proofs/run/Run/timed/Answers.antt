use Rattle.std.proofs.Common.{ℕ, List, sym, subst}
use Rattle.pg_book.specs.Models.{SpineOf, PassOf}
use Rattle.pg_book.specs.Closing.{AreSpinesOf, ArePassesOf, IsHistory}
use Rattle.book_bench.proofs.RunFacts.{can_draw, spines_are, passes_are, is_run_history}
use Rattle.book_bench.proofs.run.Run.timed.Goals as goal

pub draw_each-requires-after_bounds : goal.draw_each-requires-after_bounds
draw_each-requires-after_bounds g c κs within = can_draw c.args.callers c.args.draws c.in_ok-book.book c.in_ok-book.hands.items c.in_ok-book.ensures.ready

pub close-requires-clause-spines : goal.close-requires-clause-spines
close-requires-clause-spines g c = subst (AreSpinesOf c.in_ok-book.book) (sym c.in_ok-spines.ensures.spines)
    (spines_are c.args.callers c.args.draws c.in_ok-book.book c.in_ok-book.hands.items c.in_ok-hands.hands.items c.in_ok-book.ensures.ready c.in_ok-hands.ensures)

pub close-requires-clause-passes : goal.close-requires-clause-passes
close-requires-clause-passes g c = subst (ArePassesOf c.in_ok-book.book) (sym c.in_ok-spines.ensures.passes)
    (passes_are c.args.callers c.args.draws c.in_ok-book.book c.in_ok-book.hands.items c.in_ok-hands.hands.items c.in_ok-book.ensures.ready c.in_ok-hands.ensures)

pub returns-clause-history : goal.returns-clause-history
returns-clause-history g c = is_run_history c.args.callers c.args.draws c.in_ok-book.book c.in_ok-book.hands.items c.in_ok-hands.hands.items c.in_ok-book.ensures.ready c.in_ok-hands.ensures c.in-Ok-close.history.items
    (subst (λ (x : List (SpineOf ℕ) × List (PassOf ℕ)). IsHistory x.0 x.1 c.in-Ok-close.history.items) (λ i. (c.in_ok-spines.ensures.spines i, c.in_ok-spines.ensures.passes i)) c.in-Ok-close.ensures.closed)
