use Rattle.std.proofs.Common.{◌≡◌, ℕ, ◌+◌, [], ◌∷◌, ◌++◌, length, length-append, append_assoc, sym, ap, ◌∙◌, subst, arith}
use Rattle.std.specs.Vec.Iter.{into_iter_items}
use Rattle.atomic_table.specs.Seated.{TableId}
use Rattle.atomic_table.specs.Table.{Me}
use Rattle.pg_book.specs.declared.open.PartRoom.{PartRoom}
use Rattle.pg_book.specs.declared.view.View.{View}
use Rattle.pg_book.specs.Needs.{part_entries}
use Rattle.pg_book.specs.Opening.{EachFrom, IsNewSpine}
use Rattle.pg_book.specs.Prepared.{IsPartRoom}
use Rattle.pg_book.proofs.Placing.{each_at, so_far_push}
use Rattle.pg_book.proofs.open.add_spines.Goals as goal

pub spine_of-requires-clause-room : goal.spine_of-requires-clause-room
spine_of-requires-clause-room g c =
    let at = c.loop-room in
    let x = c.in-Some.room in
    let P : ℕ → PartRoom g.row.E.Denot → Type 0 = λ k s. IsPartRoom c.args.seat.now.table_id (part_entries c.args.seat.now.me.0.needs k) s in
    let steps : into_iter_items at.room-iterator ≡ x ∷ into_iter_items c.next.new.self = c.in-Some.ensures.steps.0 in
    let all : c.args.rooms.items ≡ at.yielded ++ x ∷ into_iter_items c.next.new.self = sym at.invariant.0 ∙ ap (λ l. at.yielded ++ l) steps in
    let here : P (0 + length at.yielded) x = each_at P 0 at.yielded (into_iter_items c.next.new.self) x (subst (EachFrom P 0) all c.requires.rooms.1) in
    let number : 0 + length at.yielded ≡ at.part = omega (arith, at.invariant.2) in
    let there : P at.part x = subst (λ (n : ℕ). P n x) number here in
    subst (λ (y : TableId × Me (Unit {0}) (View g.row.E.Denot)). IsPartRoom y.0 (part_entries y.1.0.needs at.part) x) (λ i. (sym at.invariant.3 i, sym at.invariant.4 i)) there

pub loop-room-preserved : goal.loop-room-preserved
loop-room-preserved g c =
    let at = c.loop-room in
    let v = at.invariant in
    let x = c.in-Some.room in
    let steps : into_iter_items at.room-iterator ≡ x ∷ into_iter_items c.next.new.self = c.in-Some.ensures.steps.0 in
    let gone = c.in-Some.ensures.steps.1 in
    let short = ap length steps in
    let same = c.spine_of.ensures.same in
    let p = c.in-Ok.ensures in
    let made : IsNewSpine c.args.seat.now.me.0.needs c.args.seat.now.table_id at.part c.in_ok-spine_of.field-0 =
    subst (λ (y : TableId × Me (Unit {0}) (View g.row.E.Denot)). IsNewSpine y.1.0.needs y.0 at.part c.in_ok-spine_of.field-0) (λ i. (v.3 i, v.4 i)) c.in_ok-spine_of.ensures.ok in (
      append_assoc at.yielded (x ∷ []) _ ∙ sym (ap (λ l. at.yielded ++ l) steps) ∙ v.0,
      (let was = v.1 in omega arith),
      length-append at.yielded (x ∷ []) ∙ ap (λ (n : ℕ). n + 1) v.2,
      same.0 ∙ v.3,
      same.1 ∙ v.4,
      so_far_push _ _ _ _ _ _ v.5 made p.items p.len c.push.ensures.capacity,
    )
