use Rattle.std.proofs.Common.{◌≡◌, ◌∙◌, ℕ, List, set, map, false, vec_capacity, Some, None, ap, sym, subst}
use Rattle.std.specs.Prelude.{position, AllPairs}
use Rattle.pg_io.specs.PageBytes.{written_over}
use Rattle.pg_regions.specs.Lookups.{Copy, is_copy}
use Rattle.pg_regions.specs.Copies.{CopiesNow}
use Rattle.pg_regions.specs.Steps.{put_at}
use Rattle.pg_regions.proofs.ListFacts.{position_none-map}
use Rattle.pg_regions.proofs.PairFacts.{position-map}
use Rattle.pg_regions.proofs.FoundFacts.{copy_alike}
use Rattle.pg_regions.proofs.copies.Copies.put.Goals as goal

-- bytes are put at a place of a copy
abbrev put : ℕ → List ℕ → Copy → Copy
put at bytes copy = record copy { bytes = written_over copy.bytes at bytes }

pub returns-in-Some : goal.returns-in-Some
returns-in-Some c =
    let copies = c.self.inside.held.items in
    let is_of = is_copy c.args.id c.args.page in
    let change = put c.args.at c.args.bytes.now in
    let at : position is_of copies ≡ Some c.in-Some.place = ap (position is_of) (sym c.deref.ensures.value) ∙ sym c.in-Some.ensures in
    let one = subst (λ (v : CopiesNow). AllPairs (λ (x y : Copy). is_copy x.region x.page y ≡ false) v.list) (sym c.self.view_is) c.requires.one in
    let changed =
    ap (set copies c.in-Some.place) c.put.ensures
    ∙ position-map (λ (x y : Copy). is_copy x.region x.page y) is_of (copy_alike c.args.id c.args.page) change copies
    c.in-Some.place c.index_mut.result.now at c.index_mut.ensures.value one in
    ap (λ (l : List Copy). record { page = c.self.inside.page; list = l; room = vec_capacity c.self.inside.held }) changed
    ∙ ap (λ (v : CopiesNow). record v { list = map (put_at c.args.id c.args.page c.args.at c.args.bytes.now) v.list }) c.self.view_is

pub returns-in_default : goal.returns-in_default
returns-in_default c =
    let copies = c.self.inside.held.items in
    let is_of = is_copy c.args.id c.args.page in
    let none : position is_of copies ≡ None = ap (position is_of) (sym c.deref.ensures.value) ∙ sym c.in_default.ensures in
    let same = position_none-map is_of (put c.args.at c.args.bytes.now) copies none in
    sym c.self.view_is ∙ ap (λ (l : List Copy). record { page = c.self.inside.page; list = l; room = vec_capacity c.self.inside.held }) (sym same)
    ∙ ap (λ (v : CopiesNow). record v { list = map (put_at c.args.id c.args.page c.args.at c.args.bytes.now) v.list }) c.self.view_is
