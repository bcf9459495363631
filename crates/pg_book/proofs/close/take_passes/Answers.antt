use Rattle.std.proofs.Common.{◌≡◌, ℕ, ◌+◌, [], ◌∷◌, ◌++◌, length, append_assoc, append-nil, refl, sym, ap, ◌∙◌, subst, arith, rules}
use Rattle.std.specs.Vec.Iter.{into_iter_items}
use Rattle.pg_book.specs.Models.{PassOf, IsPassAt}
use Rattle.pg_book.specs.Opening.{EachFrom}
use Rattle.pg_book.specs.Gathering.{Gathered}
use Rattle.pg_book.proofs.Placing.{each_at}
use Rattle.pg_book.proofs.Gathering.{gathers_pass}
use Rattle.pg_book.proofs.close.take_passes.Goals as goal

pub take_pass-requires-clause-pass : goal.take_pass-requires-clause-pass
take_pass-requires-clause-pass g c =
    let at = c.loop-pass in
    let x = c.in-Some.pass in
    let P : ℕ → PassOf g.row.E.Denot → Type 0 = λ k s. IsPassAt c.args.seat.now.table_id k s in
    let steps : into_iter_items at.pass-iterator ≡ x ∷ into_iter_items c.next.new.self = c.in-Some.ensures.steps.0 in
    let all : c.args.passes.items ≡ at.yielded ++ x ∷ into_iter_items c.next.new.self = sym at.invariant.0 ∙ ap (λ l. at.yielded ++ l) steps in
    let here : P (0 + length at.yielded) x = each_at P 0 at.yielded (into_iter_items c.next.new.self) x (subst (EachFrom P 0) all c.requires.passes) in
    here.same_book ∙ sym at.invariant.2

pub loop-pass-preserved : goal.loop-pass-preserved
loop-pass-preserved g c =
    let at = c.loop-pass in
    let v = at.invariant in
    let x = c.in-Some.pass in
    let P : ℕ → PassOf g.row.E.Denot → Type 0 = λ k s. IsPassAt c.args.seat.now.table_id k s in
    let steps : into_iter_items at.pass-iterator ≡ x ∷ into_iter_items c.next.new.self = c.in-Some.ensures.steps.0 in
    let all : c.args.passes.items ≡ at.yielded ++ x ∷ into_iter_items c.next.new.self = sym v.0 ∙ ap (λ l. at.yielded ++ l) steps in
    let here : P (0 + length at.yielded) x = each_at P 0 at.yielded (into_iter_items c.next.new.self) x (subst (EachFrom P 0) all c.requires.passes) in
    let gone = c.in-Some.ensures.steps.1 in
    let short = ap length steps in
    let t = c.take_pass.ensures in (
      append_assoc at.yielded (x ∷ []) _ ∙ sym (ap (λ l. at.yielded ++ l) steps) ∙ v.0,
      (let was = v.1 in omega arith),
      t.same.0 ∙ v.2,
      t.same.1,
      (λ views count gathered. gathers_pass c.args.seat.now.me.0.needs views at.yielded x at.seat.me.0 c.take_pass.new.seat.me.0 count (v.4 views count gathered) (omega (arith, here.is_caller)) t.view),
    )

pub take_pass-requires-clause-live : goal.take_pass-requires-clause-live
take_pass-requires-clause-live g c =
    let h = c.requires.view in
    (c.loop-pass.invariant.4 h.views h.count h.gathered).ready.sound.live

pub loop-pass-init : goal.loop-pass-init
loop-pass-init g c =
    let gives = c.into_iter-pass-iterator.ensures.into_iter_gives in
    (gives.0, search rules, refl, c.requires.seat.1, λ views count h. subst (λ l. Gathered c.args.seat.now.me.0.needs l c.args.seat.now.me.0) (sym (append-nil views)) h)
