use Rattle.std.proofs.Common.{◌≡◌, ℕ, ◌+◌, [], ◌∷◌, ◌++◌, length, map, length-append, append_assoc, sym, ap, ◌∙◌, subst, arith}
use Rattle.std.specs.Vec.Iter.{into_iter_items}
use Rattle.pg_book.specs.Models.{SpineOf, IsSpineAt}
use Rattle.pg_book.specs.Opening.{EachFrom}
use Rattle.pg_book.specs.Closing.{stamped, flat}
use Rattle.std.proofs.Common.{deque_items, flat_map}
use Rattle.pg_book.proofs.Placing.{each_at}
use Rattle.pg_book.proofs.Gathering.{map_join, flat_join, gathers_spine}
use Rattle.pg_book.proofs.close.take_spines.Goals as goal

pub take_spine-requires-clause-spine : goal.take_spine-requires-clause-spine
take_spine-requires-clause-spine g c =
    let at = c.loop-spine in
    let x = c.in-Some.spine in
    let P : ℕ → SpineOf g.row.E.Denot → Type 0 = λ k s. IsSpineAt c.args.seat.now.table_id k s in
    let steps : into_iter_items at.spine-iterator ≡ x ∷ into_iter_items c.next.new.self = c.in-Some.ensures.steps.0 in
    let all : c.args.spines.items ≡ at.yielded ++ x ∷ into_iter_items c.next.new.self = sym at.invariant.0 ∙ ap (λ l. at.yielded ++ l) steps in
    let here : P (0 + length at.yielded) x = each_at P 0 at.yielded (into_iter_items c.next.new.self) x (subst (EachFrom P 0) all c.requires.spines) in
    here.same_book ∙ sym at.invariant.2

pub take_spine-requires-clause-room : goal.take_spine-requires-clause-room
take_spine-requires-clause-room g c =
    let at = c.loop-spine in
    let v = at.invariant in
    let x = c.in-Some.spine in
    let steps : into_iter_items at.spine-iterator ≡ x ∷ into_iter_items c.next.new.self = c.in-Some.ensures.steps.0 in
    let all : c.args.spines.items ≡ at.yielded ++ x ∷ into_iter_items c.next.new.self = sym v.0 ∙ ap (λ l. at.yielded ++ l) steps in
    let a = ap length all in
    let b = length-append at.yielded (x ∷ into_iter_items c.next.new.self) in
    let d = v.6 in
    let e = v.7 in
    let r = c.requires.room in
    omega (arith, a, b, d, e, r)

pub loop-spine-preserved : goal.loop-spine-preserved
loop-spine-preserved g c =
    let at = c.loop-spine in
    let v = at.invariant in
    let x = c.in-Some.spine in
    let P : ℕ → SpineOf g.row.E.Denot → Type 0 = λ k s. IsSpineAt c.args.seat.now.table_id k s in
    let steps : into_iter_items at.spine-iterator ≡ x ∷ into_iter_items c.next.new.self = c.in-Some.ensures.steps.0 in
    let all : c.args.spines.items ≡ at.yielded ++ x ∷ into_iter_items c.next.new.self = sym v.0 ∙ ap (λ l. at.yielded ++ l) steps in
    let here : P (0 + length at.yielded) x = each_at P 0 at.yielded (into_iter_items c.next.new.self) x (subst (EachFrom P 0) all c.requires.spines) in
    let gone = c.in-Some.ensures.steps.1 in
    let short = ap length steps in
    let t = c.take_spine.ensures in
    let joined : flat (at.yielded ++ x ∷ []) ≡ flat at.yielded ++ flat (x ∷ []) = flat_join at.yielded (x ∷ []) in (
      append_assoc at.yielded (x ∷ []) _ ∙ sym (ap (λ l. at.yielded ++ l) steps) ∙ v.0,
      (let was = v.1 in omega arith),
      t.same.0 ∙ v.2,
      t.same.1,
      gathers_spine c.args.seat.now.me.0.needs at.yielded x at.seat.me.0 c.take_spine.new.seat.me.0 v.4 (omega (arith, here.is_part)) t.view,
      t.items ∙ ap (λ l. l ++ map stamped (flat (x ∷ []))) v.5 ∙ append_assoc (flat_map deque_items c.args.lists.now.items) (map stamped (flat at.yielded)) (map stamped (flat (x ∷ []))) ∙ ap (λ l. flat_map deque_items c.args.lists.now.items ++ l) (sym (map_join stamped (flat at.yielded) (flat (x ∷ [])))) ∙ ap (λ l. flat_map deque_items c.args.lists.now.items ++ map stamped l) (sym joined),
      (let a = t.count in let b = v.6 in let d = length-append at.yielded (x ∷ []) in omega (arith, a, b, d)),
      t.capacity ∙ v.7,
    )
