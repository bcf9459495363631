use Rattle.std.proofs.Common.{◌≡◌, ◌*◌, ◌-◌, ◌<◌, ℕ, List, length, get_or, ap, ◌∙◌, arith}
use Rattle.std.proofs.lemmas.Option.{slice_get-get_or}
use Rattle.pg_book.specs.declared.receipt.Stamped.{Stamped}
use Rattle.book_bench.specs.Runs.{IsRunHistory}
use Rattle.book_bench.specs.Reports.{lines_text, run_text}
use Rattle.book_bench.proofs.ListFacts.{both_ok}
use Rattle.book_bench.proofs.CountFacts.{counts_callers}
use Rattle.book_bench.proofs.report.summary.Goals as goal

stamp_at : (callers draws : ℕ) (history : List (Stamped ℕ)) → IsRunHistory callers draws history → (k : ℕ) (d : Stamped ℕ) → k < length history → (get_or history k d).stamp ≡ k
stamp_at callers draws history is k d lt = is.stamps k (get_or history k d) (slice_get-get_or history k d lt)

told : (callers draws n m a z : ℕ) (text : List ℕ) → text ≡ lines_text n m a z → n ≡ callers → m ≡ callers * draws → a ≡ 0 → z ≡ m - 1 → text ≡ run_text callers draws
told callers draws n m a z text is n_is m_is a_is z_is = is ∙ (λ i. lines_text (n_is i) (m_is i) (a_is i) ((z_is ∙ ap (λ (k : ℕ). k - 1) m_is) i))

pub returns : goal.returns
returns c = λ callers draws some is.
    let at = stamp_at callers draws c.args.history.now is in
    both_ok c.format.result _ _ _ (λ s h _. told callers draws _ _ _ _ _ h (c.first_draws-callers.ensures ∙ counts_callers callers draws c.args.history.now some is) is.count (at _ _ (omega (arith, c.requires))) (at _ _ (omega (arith, c.requires)))) c.format.ensures.ok c.format.ensures.ok
