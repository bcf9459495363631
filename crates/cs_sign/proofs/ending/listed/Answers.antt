use Rattle.std.proofs.Common.{List, ℕ, Ok, ap, sym, arith}
use Rattle.cs_sign.proofs.CacheFacts.{few-kept}
use Rattle.cs_sign.proofs.ending.listed.Goals as goal

pub returns-in-Ok-clause-told : goal.returns-in-Ok-clause-told
returns-in-Ok-clause-told c = ap (λ (made : List ℕ). Ok made) (sym c.in-Ok.ensures.made.value)

pub unreachable-requires : goal.unreachable-requires
unreachable-requires c = few-kept c.args.hashes.now _ (omega (arith, c.requires)) (rw c.in-Err-Version.field-0-is at c.in-Err-Version.ensures.refused)

pub unreachable-requires-in-Err-TooMany : goal.unreachable-requires-in-Err-TooMany
unreachable-requires-in-Err-TooMany c = few-kept c.args.hashes.now _ (omega (arith, c.requires)) (rw c.in-Err-TooMany.field-0-is at c.in-Err-TooMany.ensures.refused)
