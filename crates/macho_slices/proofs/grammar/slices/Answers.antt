use Rattle.std.proofs.Common.{◌≡◌, None, Some, ap, ◌∙◌, refl}
use Rattle.std.proofs.lemmas.Result.{err_from_is_err_and, IfOk-weaker}
use Rattle.macho_slices.specs.declared.form.Form.TheVariants.{Thin, Fat}
use Rattle.macho_slices.specs.Layout.{form_of}
use Rattle.macho_slices.proofs.SliceFacts.{broken_by_start, broken_by_form, by_table, by_overlap, Refuses-place, slices-within}
use Rattle.macho_slices.proofs.grammar.slices.Goals as goal

pub returns-in_err-begun-clause-refused : goal.returns-in_err-begun-clause-refused
returns-in_err-begun-clause-refused c =
    let exit = err_from_is_err_and c.from_residual.result c.from_residual.ensures.1 in
    rw (exit.1, exit.2) (broken_by_start _ _ c.in_err-begun.ensures.tries)

pub returns-in_err-tabled-in-Fat-clause-refused : goal.returns-in_err-tabled-in-Fat-clause-refused
returns-in_err-tabled-in-Fat-clause-refused c =
    let exit = err_from_is_err_and c.from_residual-in_err-tabled-in-Fat.result c.from_residual-in_err-tabled-in-Fat.ensures.1 in
    let form : form_of c.args.bytes.now ≡ Some (Fat c.in-Fat.width) = c.in_ok-begun.ensures.form ∙ ap Some c.in-Fat.is in
    rw (exit.1, exit.2) (broken_by_form _ _ _ c.in_ok-begun.ensures.tries form (by_table _ _ _ c.in_err-tabled-in-Fat.ensures.tries))

pub returns-in_err-found-in-Fat-clause-refused : goal.returns-in_err-found-in-Fat-clause-refused
returns-in_err-found-in-Fat-clause-refused c =
    let exit = err_from_is_err_and c.from_residual-in_err-found-in-Fat.result c.from_residual-in_err-found-in-Fat.ensures.1 in
    let form : form_of c.args.bytes.now ≡ Some (Fat c.in-Fat.width) = c.in_ok-begun.ensures.form ∙ ap Some c.in-Fat.is in
    rw (exit.1, exit.2) (Refuses-place _ _ _ c.in_ok-begun.ensures.tries form c.in_ok-tabled-in-Fat.ensures.tries c.in_err-found-in-Fat.ensures.refused)

pub returns-in_err-apart-in-Fat-clause-refused : goal.returns-in_err-apart-in-Fat-clause-refused
returns-in_err-apart-in-Fat-clause-refused c =
    let exit = err_from_is_err_and c.from_residual-in_err-apart-in-Fat.result c.from_residual-in_err-apart-in-Fat.ensures.1 in
    let form : form_of c.args.bytes.now ≡ Some (Fat c.in-Fat.width) = c.in_ok-begun.ensures.form ∙ ap Some c.in-Fat.is in
    let known = c.deref.ensures.value ∙ c.in_ok-found-in-Fat.ensures.slices in
    rw (exit.1, exit.2) (broken_by_form _ _ _ c.in_ok-begun.ensures.tries form (by_overlap _ _ _ _ c.in_ok-tabled-in-Fat.ensures.tries c.in_ok-found-in-Fat.ensures.kept known c.in_err-apart-in-Fat.ensures))

pub returns-in-Thin-clause-accepted : goal.returns-in-Thin-clause-accepted
returns-in-Thin-clause-accepted c =
    let form : form_of c.args.bytes.now ≡ Some Thin = c.in_ok-begun.ensures.form ∙ ap Some c.in-Thin.is in
    IfOk-weaker c.whole.result _ _ (λ found e. record {
      unbroken = broken_by_form _ _ None c.in_ok-begun.ensures.tries form refl;
      slices = rw form e;
    }) c.whole.ensures.slices

pub returns-in_ok-apart-in-Fat-clause-accepted : goal.returns-in_ok-apart-in-Fat-clause-accepted
returns-in_ok-apart-in-Fat-clause-accepted c =
    let form : form_of c.args.bytes.now ≡ Some (Fat c.in-Fat.width) = c.in_ok-begun.ensures.form ∙ ap Some c.in-Fat.is in
    let known = c.deref.ensures.value ∙ c.in_ok-found-in-Fat.ensures.slices in
    record {
      unbroken = broken_by_form _ _ None c.in_ok-begun.ensures.tries form (by_overlap _ _ _ _ c.in_ok-tabled-in-Fat.ensures.tries c.in_ok-found-in-Fat.ensures.kept known c.in_ok-apart-in-Fat.ensures);
      slices = rw form c.in_ok-found-in-Fat.ensures.slices;
    }

pub returns-in_ok-apart-in-Fat-clause-within : goal.returns-in_ok-apart-in-Fat-clause-within
returns-in_ok-apart-in-Fat-clause-within c = slices-within _ _ _ c.in_ok-found-in-Fat.ensures.kept c.in_ok-found-in-Fat.ensures.slices
