use Rattle.std.proofs.Common.{rules, arith, ◌<◌, ◌^◌, ◌/◌, subst, sym}
use Rattle.pg_object.proofs.SizeFacts.{few_pages}
use Rattle.pg_object.proofs.kept.first_covered.Goals as goal

pub returns : goal.returns
returns c = record {
  first = search rules;
  few = subst (λ n. c.slice.result.now.at / n < 2 ^ 52) (sym c.from.ensures) (few_pages c.slice.result.now.at c.args.size c.requires (omega arith));
}
