use Rattle.std.proofs.Common.{◌≡◌, true, false, ◌<◌, ℕ, List, [], length, get_or, Some, sym, ap, ◌∙◌}
use Rattle.std.specs.Borrow.{Bor}
use Rattle.std.proofs.lemmas.List.{get_or-map, length-map}
use Rattle.pg_words.specs.Lines.{texts}
use Rattle.pg_report.specs.Reading.{is_arrow, at_arrow}
use Rattle.pg_report.proofs.ArrowFacts.{passed, found, nowhere, blank, texts_taken, texts_dropped}
use Rattle.pg_report.proofs.journal_lines.at_arrow.Goals as goal

pub returns-then-is_text : goal.returns-then-is_text
returns-then-is_text c =
    let words = c.args.words.now in
    let i = c.loop-i.i in
    let lt : i < length (texts words) = simp length-map c.loop-i-test.true in
    let there = get_or-map (λ (w : Bor (List ℕ)). w.now) words i blank [] c.loop-i-test.true in
    let arrow : is_arrow (get_or (texts words) i []) ≡ true = ap is_arrow there ∙ sym c.if-is_text.ensures in
    (λ k. Some (texts_taken i words k, texts_dropped i words c.loop-i-test.true k)) ∙ sym (found (texts words) i [] (at_arrow (texts words)) lt arrow c.loop-i.invariant)

pub loop-i-preserved : goal.loop-i-preserved
loop-i-preserved c =
    let words = c.args.words.now in
    let i = c.loop-i.i in
    let lt : i < length (texts words) = simp length-map c.loop-i-test.true in
    let there = get_or-map (λ (w : Bor (List ℕ)). w.now) words i blank [] c.loop-i-test.true in
    let other : is_arrow (get_or (texts words) i []) ≡ false = ap is_arrow there ∙ sym c.if-is_text.ensures in
    passed (texts words) i [] (at_arrow (texts words)) lt other c.loop-i.invariant

pub returns : goal.returns
returns c =
    let words = c.args.words.now in
    sym (nowhere (texts words) c.loop-i.i (at_arrow (texts words)) (simp length-map c.loop-i-test.false) c.loop-i.invariant)
