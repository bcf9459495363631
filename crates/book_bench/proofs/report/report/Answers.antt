use Rattle.std.proofs.Common.{◌≡◌, ℕ, List, [], ◌++◌, codes, refl, sym, ap, ◌∙◌, subst}
use Rattle.std.specs.Fmt.{decimal}
use Rattle.std.specs.String.{string_bytes}
use Rattle.pg_book.specs.declared.receipt.Stamped.{Stamped}
use Rattle.book_bench.specs.declared.asked.Asked.{Asked}
use Rattle.book_bench.specs.Runs.{IsRunHistory}
use Rattle.book_bench.specs.Reports.{run_text, AreTimes, IsReport}
use Rattle.book_bench.proofs.report.report.Goals as goal

told : (asked : Asked) (run text : List ℕ) (adds : ℕ) (times : List ℕ) → text ≡ run ++ (codes "adds " ++ (decimal adds ++ (codes "\n" ++ times))) → run ≡ run_text 4 asked.draws → AreTimes asked.timed times → IsReport 4 asked text
told asked run text adds times is run_is are_times = record { adds = adds; times = times; are_times = are_times; is = is ∙ ap (λ l. l ++ (codes "adds " ++ (decimal adds ++ (codes "\n" ++ times)))) run_is }

run_told : (draws : ℕ) (seen items : List (Stamped ℕ)) → seen ≡ items → IsRunHistory 4 draws items → IsRunHistory 4 draws seen
run_told draws seen items same is = subst (IsRunHistory 4 draws) (sym same) is

pub returns-then-not-asked-clause-told : goal.returns-then-not-asked-clause-told
returns-then-not-asked-clause-told g c =
    told c.args.asked _ _ c.in_ok-adds.adds.total [] c.in_ok-format.ensures.ok
    (c.in_ok-summary.ensures 4 c.args.asked.draws c.args.asked.some (run_told c.args.asked.draws _ _ c.as_slice.ensures.value c.in_ok-run.ensures.history))
    (subst (λ timed. AreTimes timed []) (sym c.if-not-asked.true) refl)

pub returns-clause-told : goal.returns-clause-told
returns-clause-told g c =
    let draws = c.in_ok-draw_times.ensures in
    let adds = c.in_ok-add_times.ensures in
    told c.args.asked _ _ c.in_ok-adds.adds.total (string_bytes c.in_ok-draw_times.draw_times ++ string_bytes c.in_ok-add_times.add_times) c.in_ok-format-2.ensures.ok
    (c.in_ok-summary.ensures 4 c.args.asked.draws c.args.asked.some (run_told c.args.asked.draws _ _ c.as_slice.ensures.value c.in_ok-run.ensures.history))
    (subst (λ timed. AreTimes timed (string_bytes c.in_ok-draw_times.draw_times ++ string_bytes c.in_ok-add_times.add_times)) (sym c.if-not-asked.false) (_, _, _, _, λ i. draws i ++ adds i))
