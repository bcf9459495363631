use Rattle.std.proofs.Common.{◌≡◌, List, length, sym, ap, ◌∙◌, subst}
use Rattle.atomic_table.specs.Seated.{TableId}
use Rattle.pg_book.specs.declared.needs.Needs.{Needs}
use Rattle.pg_book.specs.declared.view.View.{View}
use Rattle.pg_book.specs.Kinds.{first}
use Rattle.pg_book.specs.Models.{IsBookView}
use Rattle.pg_book.specs.Opening.{EachFrom, KnowsNothing, IsNewSpine, IsNewPass}
use Rattle.pg_book.proofs.Openings.{new_book, book_nothing}
use Rattle.pg_book.proofs.open.fill.Goals as goal

pub invariant_of-result : goal.invariant_of-result
invariant_of-result g c =
    let l = c.requires.prepared in
    let s = c.add_spines.ensures.same in
    let t = c.add_passes.ensures.same in
    let is = t.1 ∙ s.1 ∙ l.view in
    let view : c.add_passes.new.seat.me.0 ≡ first c.args.prepared.seat.me.0.needs = ap (λ m. m.0) is in (
      record { same = t.0 ∙ s.0 ∙ l.seat.same; words = l.seat.words },
      ap (λ m. m.1) is,
      subst (λ (v : View g.row.E.Denot). IsBookView v) (sym view) (new_book c.args.prepared.seat.me.0.needs c.requires.small),
    )

pub returns-clause-ok : goal.returns-clause-ok
returns-clause-ok g c =
    let l = c.requires.prepared in
    let needs = c.args.prepared.seat.me.0.needs in
    let s = c.add_spines.ensures.same in
    let t = c.add_passes.ensures.same in
    let view : c.add_passes.new.seat.me.0 ≡ first needs = ap (λ m. m.0) (t.1 ∙ s.1 ∙ l.view) in
    let spines = c.in_ok-spines.ensures.ok in
    let passes = c.in_ok-passes.ensures.ok in
    let same_needs : c.add_spines.new.seat.me.0.needs ≡ needs = ap (λ m. m.0.needs) s.1 in
    record {
      knows = subst (λ (v : View g.row.E.Denot). KnowsNothing needs v) (sym view) (book_nothing needs);
      spine_count = spines.0;
      pass_count = passes.0 ∙ ap length same_needs;
      spines_are = subst (λ (z : TableId). EachFrom (IsNewSpine needs z) 0 c.in_ok-spines.spines.items) (sym (t.0 ∙ s.0)) spines.1;
      passes_are = subst (λ (x : List (List Needs) × TableId). EachFrom (IsNewPass x.0 x.1) 0 c.in_ok-passes.passes.items) (λ i. (same_needs i, sym t.0 i)) passes.1;
    }
