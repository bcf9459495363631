use Rattle.std.proofs.Common.{None}
use Rattle.std.proofs.lemmas.Result.{err_from_is_err_and}
use Rattle.cs_sign.proofs.RuleFacts.{own_by_past, own_by_place, own_by_request}
use Rattle.cs_sign.proofs.rules.planned.Goals as goal

pub returns-in_err-none_past-clause-tries : goal.returns-in_err-none_past-clause-tries
returns-in_err-none_past-clause-tries c =
    let exit = err_from_is_err_and c.from_residual.result c.from_residual.ensures.1 in
    let e = c.in_err-none_past.ensures in
    rw (exit.1, exit.2) (own_by_past c.args.image.now c.args.length c.args.commands_end c.args.request.now _ (rw (c.linkedit_place-place.ensures, c.items-segments.ensures) at e))

pub returns-in_err-linkedit-clause-tries : goal.returns-in_err-linkedit-clause-tries
returns-in_err-linkedit-clause-tries c =
    let exit = err_from_is_err_and c.from_residual-in_err-linkedit.result c.from_residual-in_err-linkedit.ensures.1 in
    let past = rw (c.linkedit_place-place.ensures, c.items-segments.ensures) at c.in_ok-none_past.ensures in
    rw (exit.1, exit.2) (own_by_place c.args.image.now c.args.length c.args.commands_end c.args.request.now _ past c.in_err-linkedit.ensures.tries)

pub returns-in_err-asked-clause-tries : goal.returns-in_err-asked-clause-tries
returns-in_err-asked-clause-tries c =
    let exit = err_from_is_err_and c.from_residual-in_err-asked.result c.from_residual-in_err-asked.ensures.1 in
    let past = rw (c.linkedit_place-place.ensures, c.items-segments.ensures) at c.in_ok-none_past.ensures in
    rw (exit.1, exit.2) (own_by_request c.args.image.now c.args.length c.args.commands_end c.args.request.now _ past c.in_ok-linkedit.ensures.tries c.in_err-asked.ensures.tries)

pub returns-clause-tries : goal.returns-clause-tries
returns-clause-tries c =
    let past = rw (c.linkedit_place-place.ensures, c.items-segments.ensures) at c.in_ok-none_past.ensures in
    own_by_request c.args.image.now c.args.length c.args.commands_end c.args.request.now None past c.in_ok-linkedit.ensures.tries c.in_ok-asked.ensures.tries
