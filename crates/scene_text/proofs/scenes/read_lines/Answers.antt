use Rattle.std.proofs.Common.{[], ◌∷◌, ◌+◌, ℕ, sym, ap, ◌∙◌}
use Rattle.std.proofs.lemmas.Result.{err_from_is_err_and}
use Rattle.pg_words.specs.Cut.{lines_behind}
use Rattle.scene_text.specs.Texts.{said_behind}
use Rattle.scene_text.specs.Drafts.{draft_lines}
use Rattle.scene_text.proofs.LoopFacts.{turned, skips, ends, goes_on, at_end}
use Rattle.scene_text.proofs.scenes.read_lines.Goals as goal

pub returns-in_err-known : goal.returns-in_err-known
returns-in_err-known c =
    let loop = c.lines in
    let first = c.cut.result.0.now in
    let more = lines_behind c.cut.result.1 in
    let total = said_behind [] 2 (lines_behind c.args.behind) in
    let here = ap (λ (n : ℕ). said_behind (draft_lines loop.draft) n (first ∷ more)) c.in_ok-number.ensures ∙ turned (draft_lines loop.draft) (loop.number + 1) loop.rest c.in-Some.text first more total c.in-Some.is c.cut.ensures.lines loop.invariant.said in
    let p = err_from_is_err_and c.from_residual-in_err-known.result c.from_residual-in_err-known.ensures.1 in
    rw (p.1, p.2) (ends c.in_err-known.field-0.0 loop.draft c.take_line.new.draft loop.known c.in_ok-number.number first more total (sym c.if-not-is_skipped.ensures) loop.invariant.known_is here c.in_err-known.ensures)

pub lines-preserved-in_ok-known : goal.lines-preserved-in_ok-known
lines-preserved-in_ok-known c =
    let loop = c.lines in
    let first = c.cut.result.0.now in
    let more = lines_behind c.cut.result.1 in
    let total = said_behind [] 2 (lines_behind c.args.behind) in
    let here = ap (λ (n : ℕ). said_behind (draft_lines loop.draft) n (first ∷ more)) c.in_ok-number.ensures ∙ turned (draft_lines loop.draft) (loop.number + 1) loop.rest c.in-Some.text first more total c.in-Some.is c.cut.ensures.lines loop.invariant.said in
    goes_on loop.draft c.take_line.new.draft loop.known c.in_ok-known.known c.in_ok-number.number first more total (sym c.if-not-is_skipped.ensures) loop.invariant.known_is here c.in_ok-known.ensures

pub lines-preserved : goal.lines-preserved
lines-preserved c =
    let loop = c.lines in
    let first = c.cut.result.0.now in
    let more = lines_behind c.cut.result.1 in
    let total = said_behind [] 2 (lines_behind c.args.behind) in
    let here = ap (λ (n : ℕ). said_behind (draft_lines loop.draft) n (first ∷ more)) c.in_ok-number.ensures ∙ turned (draft_lines loop.draft) (loop.number + 1) loop.rest c.in-Some.text first more total c.in-Some.is c.cut.ensures.lines loop.invariant.said in
    record {
      said = sym (skips (draft_lines loop.draft) c.in_ok-number.number first more (sym c.if-not-is_skipped.ensures)) ∙ here;
      known_is = loop.invariant.known_is;
      whole = loop.invariant.whole;
      begun = loop.invariant.begun;
    }

pub returns : goal.returns
returns c =
    sym c.lines.invariant.said ∙ ap (said_behind (draft_lines c.lines.draft) (c.lines.number + 1)) (ap lines_behind c.in_default.is) ∙ at_end (draft_lines c.lines.draft) (c.lines.number + 1)
