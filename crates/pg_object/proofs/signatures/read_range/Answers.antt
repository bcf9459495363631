use Rattle.std.proofs.Common.{length, sym, ap, ◌∙◌, arith}
use Rattle.pg_object.proofs.ReadFacts.{turn_of, turn_inside, turn_begins, turn_ends, turn_long, turns, stops, starts, ends_at, from_before_end, of_ok}
use Rattle.pg_object.proofs.signatures.read_range.Goals as goal

pub loop-page-init : goal.loop-page-init
loop-page-init g c =
    let size = c.page_size-size.ensures in
    starts g.D.Digester.hash c.args.pages.now c.args.at c.args.count c.args.bytes.now c.from.result c.page_size-size.result size.size size.known c.from.ensures size.sound c.requires.marked
    c.requires.empty (omega (arith, c.args.bytes.now.ok.0, ap length c.requires.empty)) c.requires.room

pub read_page-requires : goal.read_page-requires
read_page-requires g c =
    let size = c.page_size-size.ensures in
    let turn = turn_of c.args.pages.now c.args.at c.args.count c.loop-page.page c.page_size-size.result c.from.result c.end_reached-page-end.result
    size.size size.known c.from.ensures c.end_reached-page-end.ensures c.loop-page.auto.page c.loop-page-test.true c.requires.inside in
    let was = c.loop-page.invariant in
    record {
      room = was.room;
      read = turn_long g.D.Digester.hash c.args.pages.now c.loop-page.pages c.args.at c.args.count c.loop-page.page c.loop-page.bytes turn was;
      below = c.requires.below;
      inside = turn_inside g.D.Digester.hash c.args.pages.now c.loop-page.pages c.args.at c.args.count c.loop-page.page c.loop-page.bytes turn was;
      begins = turn_begins g.D.Digester.hash c.args.pages.now c.loop-page.pages c.args.at c.args.count c.loop-page.page c.loop-page.bytes turn was;
      ends = turn_ends g.D.Digester.hash c.args.pages.now c.loop-page.pages c.args.at c.args.count c.loop-page.page c.loop-page.bytes turn was;
    }

pub returns-then-is_err-clause-failed : goal.returns-then-is_err-clause-failed
returns-then-is_err-clause-failed g c =
    let size = c.page_size-size.ensures in
    let turn = turn_of c.args.pages.now c.args.at c.args.count c.loop-page.page c.page_size-size.result c.from.result c.end_reached-page-end.result
    size.size size.known c.from.ensures c.end_reached-page-end.ensures c.loop-page.auto.page c.loop-page-test.true c.requires.inside in
    let call = c.read_page in
    stops g.D.Digester.hash c.args.pages.now c.loop-page.pages c.args.at c.args.count c.loop-page.page c.loop-page.bytes turn c.loop-page.invariant call.new.pages call.ensures.looks
    _ (sym c.is_err.ensures.value ∙ c.if-is_err.true) call.ensures.leaves

pub loop-page-preserved : goal.loop-page-preserved
loop-page-preserved g c =
    let size = c.page_size-size.ensures in
    let turn = turn_of c.args.pages.now c.args.at c.args.count c.loop-page.page c.page_size-size.result c.from.result c.end_reached-page-end.result
    size.size size.known c.from.ensures c.end_reached-page-end.ensures c.loop-page.auto.page c.loop-page-test.true c.requires.inside in
    let call = c.read_page in
    let well = sym c.is_err.ensures.value ∙ c.if-is_err.false in
    turns g.D.Digester.hash c.args.pages.now c.loop-page.pages c.args.at c.args.count c.loop-page.page c.loop-page.bytes turn c.loop-page.invariant call.new.pages call.ensures.looks
    _ call.new.bytes well call.ensures.leaves (of_ok call.result well call.ensures.found) (of_ok call.result well call.ensures.bytes) (of_ok call.result well call.ensures.long) call.ensures.room

pub returns-clause-all : goal.returns-clause-all
returns-clause-all g c =
    let size = c.page_size-size.ensures in
    let first = from_before_end c.page_size-size.result c.args.at c.args.count c.from.result c.end_reached-page-end.result size.known c.from.ensures c.end_reached-page-end.ensures in
    let below = c.loop-page.auto.page-end first in
    let past = c.loop-page-test.false in
    ends_at g.D.Digester.hash c.args.pages.now c.loop-page.pages c.args.at c.args.count c.loop-page.page c.loop-page.bytes c.page_size-size.result c.end_reached-page-end.result
    size.size c.end_reached-page-end.ensures (omega arith) c.loop-page.invariant
