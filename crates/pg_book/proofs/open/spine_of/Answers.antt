use Rattle.std.proofs.Common.{◌≡◌, ℕ, [], length, map, refl, sym, ap, ◌∙◌, subst, le_of_eq, arith, ◌<◌}
use Rattle.pg_book.specs.declared.view.View.{View}
use Rattle.pg_book.specs.Needs.{part_entries, names_of}
use Rattle.pg_book.specs.Views.{list_at, Sound}
use Rattle.pg_book.specs.Kinds.{first, note, named}
use Rattle.pg_book.specs.Models.{IsSpineView}
use Rattle.pg_book.specs.Stamps.{stamped}
use Rattle.pg_book.specs.Opening.{KnowsNothing}
use Rattle.pg_book.proofs.Openings.{new_spine, knows_nothing}
use Rattle.pg_book.proofs.open.spine_of.Goals as goal

pub invariant_of-result : goal.invariant_of-result
invariant_of-result g c =
    let o = c.in_ok-made.ensures.ok in
    let is : c.in_ok-made.made.me ≡ (named (note (first c.args.seat.now.me.0.needs)) c.args.part, []) = o.1 ∙ ap (λ (n : ℕ). (named (note c.args.seat.now.me.0) n, [])) c.from.ensures ∙ ap (λ m. (named (note m.0) c.args.part, [])) c.requires.view.is in
    let view : c.in_ok-made.made.me.0 ≡ named (note (first c.args.seat.now.me.0.needs)) c.args.part = ap (λ m. m.0) is in
    let s = c.requires.room in
    let sound : Sound (named (note (first c.args.seat.now.me.0.needs)) c.args.part) = subst (λ (v : View g.row.E.Denot). Sound v) view o.2 in
    let lt : c.args.part < names_of c.args.seat.now.me.0.needs = omega (arith, c.requires.part) in
    let none = ap (λ v. list_at v c.args.part) view ∙ (knows_nothing g.row.E.Denot c.args.seat.now.me.0.needs c.requires.view.small c.args.part lt).lists c.args.part in (
      record { same = o.0 ∙ sym s.same; words = ap (λ z. z.words) s.same ∙ c.requires.words },
      ap (λ m. m.1) is,
      subst (λ (v : View g.row.E.Denot). IsSpineView c.args.part v) (sym view) (new_spine c.args.seat.now.me.0.needs c.requires.view.small c.args.part c.requires.part sound),
      record { items = s.empty ∙ sym (ap (map stamped) none); count = s.count ∙ sym (ap length none); room = le_of_eq (ap (λ (v : View g.row.E.Denot). part_entries v.needs c.args.part) view ∙ sym s.roomy) },
    )

pub returns-clause-ok : goal.returns-clause-ok
returns-clause-ok g c =
    let o = c.in_ok-made.ensures.ok in
    let view : c.in_ok-made.made.me.0 ≡ named (note (first c.args.seat.now.me.0.needs)) c.args.part = ap (λ m. m.0) o.1 ∙ ap (λ (n : ℕ). named (note c.args.seat.now.me.0) n) c.from.ensures ∙ ap (λ m. named (note m.0) c.args.part) c.requires.view.is in
    let lt : c.args.part < names_of c.args.seat.now.me.0.needs = omega (arith, c.requires.part) in
    record { place = record { same_book = o.0; is_part = refl }; view = subst (λ (v : View g.row.E.Denot). KnowsNothing c.args.seat.now.me.0.needs v) (sym view) (knows_nothing g.row.E.Denot c.args.seat.now.me.0.needs c.requires.view.small c.args.part lt) }
