use Rattle.std.proofs.Common.{◌≡◌, ◌<◌, ◌+◌, ℕ, [], refl, sym, ap, ◌∙◌, subst, arith}
use Rattle.pg_book.specs.declared.view.View.{View}
use Rattle.pg_book.specs.Needs.{parts_of, names_of}
use Rattle.pg_book.specs.Views.{Sound}
use Rattle.pg_book.specs.Kinds.{first, note, named}
use Rattle.pg_book.specs.Models.{IsPassView}
use Rattle.pg_book.specs.Opening.{KnowsNothing}
use Rattle.pg_book.proofs.Openings.{new_pass, knows_nothing}
use Rattle.pg_book.proofs.open.pass_of.Goals as goal

pub invariant_of-result : goal.invariant_of-result
invariant_of-result g c =
    let needs = c.args.seat.now.me.0.needs in
    let o = c.in_ok-made.ensures.ok in
    let name = c.args.parts + c.from.result in
    let k : name ≡ parts_of needs + c.args.caller = omega (arith, c.requires.parts.0, c.from.ensures) in
    let is : c.in_ok-made.made.me ≡ (named (note (first needs)) (parts_of needs + c.args.caller), []) = o.1 ∙ ap (λ m. (named (note m.0) name, [])) c.requires.view.is ∙ ap (λ (n : ℕ). (named (note (first needs)) n, [])) k in
    let view : c.in_ok-made.made.me.0 ≡ named (note (first needs)) (parts_of needs + c.args.caller) = ap (λ m. m.0) is in
    let sound : Sound (named (note (first needs)) (parts_of needs + c.args.caller)) = subst (λ (v : View g.row.E.Denot). Sound v) view o.2 in (
      ap (λ m. m.1) is,
      ap (λ z. z.words) (o.0 ∙ c.requires.table.same) ∙ c.requires.table.words,
      subst (λ (v : View g.row.E.Denot). IsPassView c.args.caller v) (sym view) (new_pass needs c.requires.view.small c.args.caller c.requires.caller sound),
    )

pub returns-clause-ok : goal.returns-clause-ok
returns-clause-ok g c =
    let needs = c.args.seat.now.me.0.needs in
    let o = c.in_ok-made.ensures.ok in
    let name = c.args.parts + c.from.result in
    let k : name ≡ parts_of needs + c.args.caller = omega (arith, c.requires.parts.0, c.from.ensures) in
    let view : c.in_ok-made.made.me.0 ≡ named (note (first needs)) (parts_of needs + c.args.caller) = ap (λ m. m.0) o.1 ∙ ap (λ m. named (note m.0) name) c.requires.view.is ∙ ap (λ (n : ℕ). named (note (first needs)) n) k in
    let lt : parts_of needs + c.args.caller < names_of needs = omega (arith, c.requires.caller) in
    record { place = record { same_book = o.0; is_caller = refl }; view = subst (λ (v : View g.row.E.Denot). KnowsNothing needs v) (sym view) (knows_nothing g.row.E.Denot needs c.requires.view.small (parts_of needs + c.args.caller) lt) }
