use Rattle.std.proofs.lemmas.Result.{err_from_is_err_and}
use Rattle.cs_directory.proofs.RuleFacts.{broken_by_frame, broken_by_hash, broken_by_slot}
use Rattle.cs_directory.proofs.grammar.directory.Goals as goal

pub returns-in_err-framed-clause-refused : goal.returns-in_err-framed-clause-refused
returns-in_err-framed-clause-refused c =
    let exit = err_from_is_err_and c.from_residual.result c.from_residual.ensures.1 in
    rw (exit.1, exit.2) (broken_by_frame _ _ c.in_err-framed.ensures.tries)

pub returns-in_err-page-clause-refused : goal.returns-in_err-page-clause-refused
returns-in_err-page-clause-refused c =
    let exit = err_from_is_err_and c.from_residual-in_err-page.result c.from_residual-in_err-page.ensures.1 in
    rw (exit.1, exit.2) (broken_by_hash _ _ c.in_ok-framed.ensures.tries c.in_err-page.ensures.tries)

pub returns-in_err-slots_placed-clause-refused : goal.returns-in_err-slots_placed-clause-refused
returns-in_err-slots_placed-clause-refused c =
    let exit = err_from_is_err_and c.from_residual-in_err-slots_placed.result c.from_residual-in_err-slots_placed.ensures.1 in
    rw (exit.1, exit.2)
    (broken_by_slot _ _ c.in_ok-framed.ensures.tries c.in_ok-page.ensures.tries c.in_err-slots_placed.ensures)
