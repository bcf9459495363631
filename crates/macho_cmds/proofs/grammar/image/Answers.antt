use Rattle.std.proofs.Common.{None, ◌∙◌}
use Rattle.std.proofs.lemmas.Result.{err_from_is_err_and}
use Rattle.macho_cmds.proofs.ImageFacts.{broken-bytes, broken_by_header, broken_by_signature, Refuses-commands, image_of-bytes}
use Rattle.macho_cmds.proofs.grammar.image.Goals as goal

pub returns-in_err-headed-clause-refused : goal.returns-in_err-headed-clause-refused
returns-in_err-headed-clause-refused c =
    let exit = err_from_is_err_and c.from_residual.result c.from_residual.ensures.1 in
    rw (exit.1, exit.2) (broken-bytes _ _ _ _ c.bytes_in-bytes.ensures.bytes (broken_by_header _ _ _ c.in_err-headed.ensures.tries))

pub returns-in_err-commands-clause-refused : goal.returns-in_err-commands-clause-refused
returns-in_err-commands-clause-refused c =
    let exit = err_from_is_err_and c.from_residual-in_err-commands.result c.from_residual-in_err-commands.ensures.1 in
    rw (exit.1, exit.2) (Refuses-commands _ _ _ _ c.bytes_in-bytes.ensures.bytes c.in_ok-headed.ensures.tries c.in_err-commands.ensures.refused)

pub returns-in_err-sig_at-clause-refused : goal.returns-in_err-sig_at-clause-refused
returns-in_err-sig_at-clause-refused c =
    let exit = err_from_is_err_and c.from_residual-in_err-sig_at.result c.from_residual-in_err-sig_at.ensures.1 in
    rw (exit.1, exit.2) (broken-bytes _ _ _ _ c.bytes_in-bytes.ensures.bytes (broken_by_signature _ _ _ c.in_ok-headed.ensures.tries c.in_ok-commands.ensures.kept c.in_err-sig_at.ensures.tries))

pub returns-clause-accepted : goal.returns-clause-accepted
returns-clause-accepted c = record {
  unbroken = broken-bytes _ _ _ _ c.bytes_in-bytes.ensures.bytes (broken_by_signature _ _ None c.in_ok-headed.ensures.tries c.in_ok-commands.ensures.kept c.in_ok-sig_at.ensures.tries);
  says = image_of-bytes c.args.bytes.now c.args.slice.now _ _ _ _ _ _ _ c.bytes_in-bytes.ensures.bytes c.le32_at.ensures c.le32_at-2.ensures c.le32_at-3.ensures (c.new.ensures ∙ c.in_ok-commands.ensures.segments) c.in_ok-sig_at.ensures.place c.in_ok-sig_at.ensures.range;
}
