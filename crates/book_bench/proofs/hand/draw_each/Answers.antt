use Rattle.std.proofs.Common.{get_or, subst, sym, ◌∙◌, rules}
use Rattle.book_bench.specs.declared.hand.Hand.{Hand}
use Rattle.book_bench.specs.Hands.{DrewAll}
use Rattle.book_bench.proofs.ListFacts.{both_ok, all_zip}
use Rattle.book_bench.proofs.hand.draw_each.Goals as goal

pub returns : goal.returns
returns g c = both_ok c.map_vec.result _ _ _
    (λ v len each. all_zip (DrewAll c.args.draws) c.args.hands.items v.items (sym c.args.hands.ok.0 ∙ sym len ∙ v.ok.0) (λ i d e lt. let k = (each i e lt).1 in subst (λ (h : Hand). DrewAll c.args.draws h (get_or v.items i e)) (sym (k.job_is d)) (search rules)))
    c.map_vec.ensures.len c.map_vec.ensures.each
