use Rattle.std.proofs.Common.{Some, option_copied, string_bytes, ◌∙◌, ap, sym}
use Rattle.pg_io.proofs.FilesFacts.{contents-place, contents-no_place}
use Rattle.pg_io.proofs.mem_files.find.Goals as goal

pub returns-in_err-at : goal.returns-in_err-at
returns-in_err-at c =
    ap option_copied c.from_residual.ensures
    ∙ sym (contents-no_place string_bytes (λ v. v.items) c.args.name.now c.args.names.now c.args.contents.now c.in_err-at.ensures)

pub returns : goal.returns
returns c =
    ap Some c.deref.ensures.value
    ∙ sym (contents-place string_bytes (λ v. v.items) c.args.name.now c.args.names.now c.args.contents.now _ c.index-contents-at.result c.in_ok-at.ensures c.requires c.index-contents-at.is)
