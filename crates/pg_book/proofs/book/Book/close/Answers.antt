use Rattle.std.proofs.Common.{◌≡◌, List, ◌++◌, length, map, flat_map, deque_items, IsPermutation, refl, sym, ap, ◌∙◌, subst, arith}
use Rattle.std.proofs.lemmas.List.Sorted.{IsPermutation-trans}
use Rattle.pg_book.specs.declared.receipt.Stamped.{Stamped}
use Rattle.pg_book.specs.Models.{BookOf, IsPassAt}
use Rattle.pg_book.specs.Opening.{EachFrom}
use Rattle.pg_book.specs.Gathering.{spine_views, pass_views}
use Rattle.pg_book.specs.Closing.{stamped, flat, AreSpinesOf, ArePassesOf}
use Rattle.pg_book.proofs.Gathering.{gathers_none, has_parts, has_all, looked_gathered}
use Rattle.pg_book.proofs.Closings.{history}
use Rattle.pg_book.proofs.book.Book.close.Goals as goal

pub take_spines-requires-clause-view : goal.take_spines-requires-clause-view
take_spines-requires-clause-view g c = gathers_none _ _ refl c.self.invariant.2

pub take_spines-requires-clause-spines : goal.take_spines-requires-clause-spines
take_spines-requires-clause-spines g c = (subst (λ (b : BookOf g.row.E.Denot). AreSpinesOf b c.args.spines.items) (sym c.self.view_is) c.requires.spines).each

pub take_spines-requires-clause-room : goal.take_spines-requires-clause-room
take_spines-requires-clause-room g c =
    let a = c.in-Some.ensures.no_lists.1 in
    let b = c.in-Some.ensures.list_room in
    let d = ap length c.as_slice.ensures.value in
    omega (arith, a, b, d)

pub take_passes-requires-clause-view : goal.take_passes-requires-clause-view
take_passes-requires-clause-view g c =
    let s = subst (λ (b : BookOf g.row.E.Denot). AreSpinesOf b c.args.spines.items) (sym c.self.view_is) c.requires.spines in
    has_parts c.self.inside.seat.me.0.needs c.args.spines.items c.take_spines.new.seat.me.0 s.count c.take_spines.ensures.view

pub take_passes-requires-clause-passes : goal.take_passes-requires-clause-passes
take_passes-requires-clause-passes g c =
    let p = subst (λ (b : BookOf g.row.E.Denot). ArePassesOf b c.args.passes.items) (sym c.self.view_is) c.requires.passes in
    subst (λ z. EachFrom (IsPassAt z) 0 c.args.passes.items) (sym c.take_spines.ensures.same.0) p.each

pub look-requires-clause-live : goal.look-requires-clause-live
look-requires-clause-live g c =
    let s = subst (λ (b : BookOf g.row.E.Denot). AreSpinesOf b c.args.spines.items) (sym c.self.view_is) c.requires.spines in
    (has_all c.self.inside.seat.me.0.needs c.args.spines.items c.args.passes.items c.take_spines.new.seat.me.0 c.take_passes.new.seat.me.0 s.count c.take_spines.ensures.view c.take_passes.ensures.view).ready.sound.live

pub returns-clause-closed : goal.returns-clause-closed
returns-clause-closed g c =
    let needs = c.self.inside.seat.me.0.needs in
    let spines = c.args.spines.items in
    let passes = c.args.passes.items in
    let s = subst (λ (b : BookOf g.row.E.Denot). AreSpinesOf b spines) (sym c.self.view_is) c.requires.spines in
    let p = subst (λ (b : BookOf g.row.E.Denot). ArePassesOf b passes) (sym c.self.view_is) c.requires.passes in
    let all = has_all needs spines passes c.take_spines.new.seat.me.0 c.take_passes.new.seat.me.0 s.count c.take_spines.ensures.view c.take_passes.ensures.view in
    let last = looked_gathered needs (spine_views spines ++ pass_views passes) c.take_passes.new.seat.me.0 c.look.new.seat.me.0 all c.look.ensures.looked in
    let items : flat_map deque_items c.take_spines.new.lists.items ≡ map stamped (flat spines) = c.take_spines.ensures.items ∙ ap (λ l. flat_map deque_items l ++ map stamped (flat spines)) c.in-Some.ensures.no_lists.0 in
    let perm = IsPermutation-trans _ _ _ (subst (λ (l : List (Stamped g.row.E.Denot)). IsPermutation l c.merged.result.items) items c.merged.ensures) c.in_order.ensures.same in
    history needs _ _ spines passes c.look.new.seat.me.0 last c.look.ensures.looked.sees s.count p.count s.each p.each c.in_order.result.items perm c.in_order.ensures.sorted
