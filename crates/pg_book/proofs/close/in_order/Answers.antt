use Rattle.std.proofs.Common.{◌≡◌, length, drop, sym, ◌∙◌, subst}
use Rattle.std.specs.List.Sorted.{IsNonDecreasingBy}
use Rattle.pg_book.specs.declared.receipt.Stamped.{Stamped}
use Rattle.pg_book.proofs.Placing.{take_front}
use Rattle.pg_book.proofs.close.in_order.Goals as goal

pub returns-clause-sorted : goal.returns-clause-sorted
returns-clause-sorted g c =
    let new = c.sort_by_stamps.new.entries in
    let e : c.args.entries.len ≡ length new = sym (c.sort_by_stamps.ensures.len ∙ c.as_mut_slice.ensures.len) in
    subst (IsNonDecreasingBy (λ (s : Stamped g.row.E.Denot). s.stamp)) (sym (take_front c.args.entries.len new (drop (length new) c.args.entries.items) e)) c.sort_by_stamps.ensures.sorted
