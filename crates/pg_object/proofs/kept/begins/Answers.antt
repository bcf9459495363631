use Rattle.std.proofs.Common.{◌≡◌, ◌<◌, ◌*◌, ◌-◌, sym, ap, ◌∙◌, subst, arith}
use Rattle.cs_directory.specs.Fields.{Fields}
use Rattle.pg_plain.specs.Covers.{begins}
use Rattle.pg_object.proofs.SizeFacts.{begins_of}
use Rattle.pg_object.proofs.kept.begins.Goals as goal

pub overflow_sub-result : goal.overflow_sub-result
overflow_sub-result c = (begins_of c.args.blob.now c.args.size c.args.page c.first_covered.result c.requires.size c.requires.covers c.requires.fits c.first_covered.ensures.first).0

pub overflow_mul-result : goal.overflow_mul-result
overflow_mul-result c =
    let of = begins_of c.args.blob.now c.args.size c.args.page c.first_covered.result c.requires.size c.requires.covers c.requires.fits c.first_covered.ensures.first in
    let same : c.limit-limit.result ≡ c.args.blob.now.best.limit = c.limit-limit.ensures ∙ ap (λ (d : Fields). d.limit) c.best.ensures in
    let below = c.limit-limit.type_inv in
    let less : (c.args.page - c.first_covered.result) * c.from.result < c.args.blob.now.best.limit = subst (λ n. (c.args.page - c.first_covered.result) * n < c.args.blob.now.best.limit) (sym c.from.ensures) of.2 in
    omega arith

pub returns : goal.returns
returns c =
    let of = begins_of c.args.blob.now c.args.size c.args.page c.first_covered.result c.requires.size c.requires.covers c.requires.fits c.first_covered.ensures.first in
    record {
      value = subst (λ n. (c.args.page - c.first_covered.result) * n ≡ begins c.args.size c.args.blob.now c.args.page) (sym c.from.ensures) of.1;
      below = subst (λ n. (c.args.page - c.first_covered.result) * n < c.args.blob.now.best.limit) (sym c.from.ensures) of.2;
    }
