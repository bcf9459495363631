use Rattle.std.proofs.Common.{[], List, Ok, sym, ap, ◌∙◌, length}
use Rattle.std.proofs.lemmas.Result.{err_from_is_err_and}
use Rattle.pg_words.specs.Lines.{lines_of}
use Rattle.pg_report.specs.declared.line.Line.{Line}
use Rattle.pg_report.specs.Reading.{said_behind, sums}
use Rattle.pg_report.proofs.LineFacts.{is_missing, goes_on, sums_up, fails_so}
use Rattle.pg_report.proofs.journal_lines.read_lines.Goals as goal

pub returns-in_default : goal.returns-in_default
returns-in_default c =
    is_missing c.events.lines.items c.count-due.result c.events.rest.now c.cut.result.0.now c.cut.result.1 (said_behind [] (lines_of c.args.text.now))
    (c.count-due.ensures.value ∙ ap length c.deref.ensures.value) c.cut.ensures.lines c.events.invariant c.in_default.is

pub events-preserved : goal.events-preserved
events-preserved c =
    let total = said_behind [] (lines_of c.args.text.now) in
    ap (λ (lines : List Line). said_behind lines (lines_of c.in-Some.more.now)) c.in_ok-push-in-Ok.ensures.items
    ∙ goes_on c.events.lines.items c.count-due.result c.events.rest.now c.cut.result.0.now c.cut.result.1 total
    (c.count-due.ensures.value ∙ ap length c.deref.ensures.value) c.cut.ensures.lines c.events.invariant c.in-Some.more c.in-Some.is c.in-Ok.line c.in-Ok.ensures

pub returns-in_err-calls-in-Err-OtherForm : goal.returns-in_err-calls-in-Err-OtherForm
returns-in_err-calls-in-Err-OtherForm c =
    let total = said_behind [] (lines_of c.args.text.now) in
    let none = rw c.in-Err-OtherForm.field-0-is at c.in-Err-OtherForm.ensures in
    let up = sums_up c.events.lines.items c.count-due.result c.events.rest.now c.cut.result.0.now c.cut.result.1 total
    (c.count-due.ensures.value ∙ ap length c.deref.ensures.value) c.cut.ensures.lines c.events.invariant c.in-Some.more c.in-Some.is none in
    let p = err_from_is_err_and c.from_residual-in_err-calls-in-Err-OtherForm.result c.from_residual-in_err-calls-in-Err-OtherForm.ensures.1 in
    rw (p.1, p.2) (fails_so c.in_err-calls-in-Err-OtherForm.field-0.0 (sums c.deref-in-Err-OtherForm.result.now (lines_of c.events.rest.now)) total
    (ap (λ (lines : List Line). sums lines (lines_of c.events.rest.now)) c.deref-in-Err-OtherForm.ensures.value ∙ up) c.in_err-calls-in-Err-OtherForm.ensures)

pub returns-in-Err-OtherForm : goal.returns-in-Err-OtherForm
returns-in-Err-OtherForm c =
    let total = said_behind [] (lines_of c.args.text.now) in
    let none = rw c.in-Err-OtherForm.field-0-is at c.in-Err-OtherForm.ensures in
    let up = sums_up c.events.lines.items c.count-due.result c.events.rest.now c.cut.result.0.now c.cut.result.1 total
    (c.count-due.ensures.value ∙ ap length c.deref.ensures.value) c.cut.ensures.lines c.events.invariant c.in-Some.more c.in-Some.is none in
    sym up ∙ ap (λ (lines : List Line). sums lines (lines_of c.events.rest.now)) (sym c.deref-in-Err-OtherForm.ensures.value) ∙ c.in_ok-calls-in-Err-OtherForm.ensures
    ∙ ap (λ (lines : List Line). Ok (lines, c.in_ok-calls-in-Err-OtherForm.calls)) c.deref-in-Err-OtherForm.ensures.value
