use Rattle.std.proofs.Common.{◌/◌, sym, subst, ◌∙◌, arith, IsTrue}
use Rattle.cs_policy.specs.Data.{data_bytes}
use Rattle.pg_bytes.specs.PageSize.{is_page_size}
use Rattle.pg_object.specs.Writes.{WroteSoFar}
use Rattle.pg_object.proofs.StepFacts.{turn_of, turn_inside, turn_begins, turn_ends, turns, stops, starts_wrote, ends_at, from_before_end}
use Rattle.pg_object.proofs.write.write_pages.Goals as goal

pub loop-page-init : goal.loop-page-init
loop-page-init g c =
    let size = c.page_size-size.ensures in
    subst (λ n. WroteSoFar g.D.Digester.hash c.args.pages.now c.args.at (data_bytes c.args.piece.now) (c.args.at / n) c.args.pages.now) (sym (c.from.ensures ∙ size.size))
    (starts_wrote g.D.Digester.hash c.args.pages.now c.args.at (data_bytes c.args.piece.now) (subst (λ s. IsTrue (is_page_size s)) size.size size.known) size.sound c.requires.marked)

pub write_page-requires-clause-inside : goal.write_page-requires-clause-inside
write_page-requires-clause-inside g c =
    let size = c.page_size-size.ensures in
    turn_inside g.D.Digester.hash c.args.pages.now c.loop-page.pages c.loop-page.pages c.args.at (data_bytes c.args.piece.now) c.loop-page.page
    (turn_of c.args.pages.now c.args.at c.args.count (data_bytes c.args.piece.now) c.loop-page.page c.page_size-size.result c.from.result c.end_reached-page-end.result
    size.size size.known c.from.ensures c.end_reached-page-end.ensures c.requires.count c.loop-page.auto.page c.loop-page-test.true c.requires.inside) c.loop-page.invariant

pub write_page-requires-clause-begins : goal.write_page-requires-clause-begins
write_page-requires-clause-begins g c =
    let size = c.page_size-size.ensures in
    turn_begins g.D.Digester.hash c.args.pages.now c.loop-page.pages c.loop-page.pages c.args.at (data_bytes c.args.piece.now) c.loop-page.page
    (turn_of c.args.pages.now c.args.at c.args.count (data_bytes c.args.piece.now) c.loop-page.page c.page_size-size.result c.from.result c.end_reached-page-end.result
    size.size size.known c.from.ensures c.end_reached-page-end.ensures c.requires.count c.loop-page.auto.page c.loop-page-test.true c.requires.inside) c.loop-page.invariant
    c.args.count c.requires.count

pub write_page-requires-clause-ends : goal.write_page-requires-clause-ends
write_page-requires-clause-ends g c =
    let size = c.page_size-size.ensures in
    turn_ends g.D.Digester.hash c.args.pages.now c.loop-page.pages c.loop-page.pages c.args.at (data_bytes c.args.piece.now) c.loop-page.page
    (turn_of c.args.pages.now c.args.at c.args.count (data_bytes c.args.piece.now) c.loop-page.page c.page_size-size.result c.from.result c.end_reached-page-end.result
    size.size size.known c.from.ensures c.end_reached-page-end.ensures c.requires.count c.loop-page.auto.page c.loop-page-test.true c.requires.inside) c.loop-page.invariant

pub returns-then-is_err-clause-before : goal.returns-then-is_err-clause-before
returns-then-is_err-clause-before g c =
    let size = c.page_size-size.ensures in
    stops g.D.Digester.hash c.args.pages.now c.loop-page.pages c.write_page.new.pages c.args.at (data_bytes c.args.piece.now) c.loop-page.page
    (turn_of c.args.pages.now c.args.at c.args.count (data_bytes c.args.piece.now) c.loop-page.page c.page_size-size.result c.from.result c.end_reached-page-end.result
    size.size size.known c.from.ensures c.end_reached-page-end.ensures c.requires.count c.loop-page.auto.page c.loop-page-test.true c.requires.inside) c.loop-page.invariant
    c.write_page.result (sym c.is_err.ensures.value ∙ c.if-is_err.true) c.write_page.ensures.marked c.write_page.ensures.calls c.write_page.ensures.gives c.write_page.ensures.marks

pub loop-page-preserved : goal.loop-page-preserved
loop-page-preserved g c =
    let size = c.page_size-size.ensures in
    turns g.D.Digester.hash c.args.pages.now c.loop-page.pages c.write_page.new.pages c.args.at (data_bytes c.args.piece.now) c.loop-page.page
    (turn_of c.args.pages.now c.args.at c.args.count (data_bytes c.args.piece.now) c.loop-page.page c.page_size-size.result c.from.result c.end_reached-page-end.result
    size.size size.known c.from.ensures c.end_reached-page-end.ensures c.requires.count c.loop-page.auto.page c.loop-page-test.true c.requires.inside) c.loop-page.invariant
    c.write_page.result (sym c.is_err.ensures.value ∙ c.if-is_err.false) c.write_page.ensures.marked c.write_page.ensures.calls c.write_page.ensures.gives c.write_page.ensures.marks

pub returns : goal.returns
returns g c =
    let size = c.page_size-size.ensures in
    let first = from_before_end c.page_size-size.result c.args.at c.args.count c.from.result c.end_reached-page-end.result size.known c.from.ensures c.end_reached-page-end.ensures in
    let below = c.loop-page.auto.page-end first in
    let past = c.loop-page-test.false in
    record {
      all = ends_at g.D.Digester.hash c.args.pages.now c.loop-page.pages c.args.at c.args.count (data_bytes c.args.piece.now) c.loop-page.page c.page_size-size.result c.from.result c.end_reached-page-end.result
          size.size size.known c.from.ensures c.end_reached-page-end.ensures c.requires.count (omega arith) c.loop-page.invariant;
      before = tt;
    }
