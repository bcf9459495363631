use Rattle.std.proofs.Common.{◌≤◌, ℕ, ◌+◌, List, [], ◌∷◌, ◌++◌, vec_capacity, length, map, length-append, le_trans, le_of_eq, ap, sym, ◌∙◌, subst, arith}
use Rattle.pg_book.specs.declared.needs.Needs.{Needs}
use Rattle.pg_book.specs.Needs.{part_entries}
use Rattle.pg_book.specs.Views.{list_at}
use Rattle.pg_book.specs.Kinds.{receipt_of}
use Rattle.pg_book.specs.declared.receipt.Receipt.{Receipt}
use Rattle.pg_book.specs.Stamps.{stamped}
use Rattle.pg_book.specs.Models.{SpineOf, PassOf}
use Rattle.pg_book.proofs.Gathering.{map_join}
use Rattle.pg_book.specs.Knowing.{HasRoom}
use Rattle.pg_book.specs.Outcomes.{Draws}
use Rattle.pg_book.proofs.Models.{draws_of}
use Rattle.pg_book.proofs.spine.Spine.draw.Goals as goal

pub draw_between-stamp-requires-clause-room : goal.draw_between-stamp-requires-clause-room
draw_between-stamp-requires-clause-room g c =
    subst (λ (x : SpineOf g.row.E.Denot × PassOf g.row.E.Denot). HasRoom x.0.part x.1.caller x.1.view) (λ i. (sym c.self.view_is i, sym c.pass.view_is i)) c.requires.room

pub push_reserved-requires : goal.push_reserved-requires
push_reserved-requires g c =
    let d = c.draw_between-stamp.ensures.drawn.space in
    let r = c.self.invariant.3 in
    omega (arith, d, r)

pub invariant_of-self : goal.invariant_of-self
invariant_of-self g c =
    let d = c.draw_between-stamp.ensures.drawn in
    let t = c.draw_between-stamp.ensures.tables in
    let v = c.self.invariant in
    let pushed = c.push_reserved.ensures in
    let r : Receipt g.row.E.Denot = receipt_of c.self.inside.part c.pass.inside.number c.args.entry c.draw_between-stamp.result in
    let known = list_at c.self.inside.seat.me.0 c.self.inside.part in
    let longer = ap length d.spine_list ∙ length-append (list_at c.self.inside.seat.me.0 c.self.inside.part) (receipt_of c.self.inside.part c.pass.inside.number c.args.entry c.draw_between-stamp.result ∷ []) in (
      record { same = t.0 ∙ v.0.same; words = v.0.words },
      c.draw_between-stamp.ensures.slots.0 ∙ v.1,
      d.spine,
      record {
        items = pushed.items ∙ ap (λ l. l ++ stamped r ∷ []) v.3.items ∙ sym (map_join stamped known (r ∷ [])) ∙ ap (map stamped) (sym d.spine_list);
        count = pushed.len ∙ ap (λ (n : ℕ). n + 1) v.3.count ∙ sym longer;
        room = le_trans (subst (λ (n : List (List Needs)). part_entries n c.self.inside.part ≤ vec_capacity c.self.inside.entries) (sym d.spine_kept.needs) v.3.room) (le_of_eq (sym pushed.capacity));
      },
    )

pub invariant_of-pass : goal.invariant_of-pass
invariant_of-pass g c = (
  c.draw_between-stamp.ensures.slots.1 ∙ c.pass.invariant.0,
  ap (λ z. z.words) c.draw_between-stamp.ensures.tables.1 ∙ c.pass.invariant.1,
  c.draw_between-stamp.ensures.drawn.pass,
)

pub returns : goal.returns
returns g c =
    let d = c.draw_between-stamp.ensures.drawn in
    record {
      drawn = subst (λ (x : SpineOf g.row.E.Denot × PassOf g.row.E.Denot). Draws x.0 x.1 c.args.entry record { part = c.self.inside.part; caller = c.pass.inside.number; stamp = c.draw_between-stamp.result; entry = c.args.twin }
          record { book = c.draw_between-stamp.new.spine.table_id; part = c.self.inside.part; view = c.draw_between-stamp.new.spine.me.0 } record { book = c.draw_between-stamp.new.pass.table_id; caller = c.pass.inside.number; view = c.draw_between-stamp.new.pass.me.0 })
          (λ i. (c.self.view_is i, c.pass.view_is i)) (draws_of _ _ _ _ _ _ _ _ _ _ _ _ _ c.requires.twin c.draw_between-stamp.ensures.tables d);
    }
