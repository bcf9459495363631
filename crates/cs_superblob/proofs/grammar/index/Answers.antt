use Rattle.std.proofs.lemmas.Result.{err_from_is_err_and}
use Rattle.cs_superblob.proofs.IndexFacts.{broken_by_frame, broken_by_repeat, Refuses-place, seats-inside}
use Rattle.cs_superblob.proofs.grammar.index.Goals as goal

pub returns-in_err-framed-clause-refused : goal.returns-in_err-framed-clause-refused
returns-in_err-framed-clause-refused c =
    let exit = err_from_is_err_and c.from_residual.result c.from_residual.ensures.1 in
    rw (exit.1, exit.2) (broken_by_frame _ _ c.in_err-framed.ensures.tries)

pub returns-in_err-found-clause-refused : goal.returns-in_err-found-clause-refused
returns-in_err-found-clause-refused c =
    let exit = err_from_is_err_and c.from_residual-in_err-found.result c.from_residual-in_err-found.ensures.1 in
    rw (exit.1, exit.2) (Refuses-place _ _ c.in_ok-framed.ensures.tries c.in_err-found.ensures.refused)

pub returns-in_err-distinct-clause-refused : goal.returns-in_err-distinct-clause-refused
returns-in_err-distinct-clause-refused c =
    let exit = err_from_is_err_and c.from_residual-in_err-distinct.result c.from_residual-in_err-distinct.ensures.1 in
    rw (exit.1, exit.2) (broken_by_repeat _ _ c.in_ok-framed.ensures.tries c.in_ok-found.ensures.kept c.in_err-distinct.ensures)

pub returns-clause-accepted : goal.returns-clause-accepted
returns-clause-accepted c = record {
  unbroken = broken_by_repeat _ _ c.in_ok-framed.ensures.tries c.in_ok-found.ensures.kept c.in_ok-distinct.ensures;
  seats = c.in_ok-found.ensures.seats;
}

pub returns-clause-inside : goal.returns-clause-inside
returns-clause-inside c = seats-inside _ _ c.in_ok-framed.ensures.framed c.in_ok-found.ensures.kept c.in_ok-found.ensures.seats
