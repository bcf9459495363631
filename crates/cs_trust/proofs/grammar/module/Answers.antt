use Rattle.std.proofs.Common.{List, length, sym, ap, ◌∙◌, arith}
use Rattle.std.proofs.lemmas.Result.{err_from_is_err_and}
use Rattle.cs_trust.specs.declared.entries.Entry.{Entry}
use Rattle.cs_trust.specs.Order.{cdhashes_of}
use Rattle.pg_bytes.specs.Rules.{first}
use Rattle.cs_trust.specs.Rules.{order_rules}
use Rattle.cs_trust.proofs.RuleFacts.{broken_by_frame, broken_by_order, length-entries, IsTable-from}
use Rattle.cs_trust.proofs.grammar.module.Goals as goal

pub returns-in_err-frame-clause-refused : goal.returns-in_err-frame-clause-refused
returns-in_err-frame-clause-refused c =
    let exit = err_from_is_err_and c.from_residual.result c.from_residual.ensures.1 in
    rw (exit.1, exit.2) (broken_by_frame _ _ c.in_err-frame.ensures.tries)

pub returns-in_err-ordered-clause-refused : goal.returns-in_err-ordered-clause-refused
returns-in_err-ordered-clause-refused c =
    let exit = err_from_is_err_and c.from_residual-in_err-ordered.result c.from_residual-in_err-ordered.ensures.1 in
    let found = c.deref.ensures.value ∙ c.in_ok-entries.ensures in
    rw (exit.1, exit.2)
    (broken_by_order _ _ c.in_ok-frame.ensures.tries (ap (λ (xs : List Entry). first (order_rules (cdhashes_of xs))) (sym found) ∙ c.in_err-ordered.ensures))

pub of-requires : goal.of-requires
of-requires c =
    let long = ap length c.in_ok-entries.ensures ∙ length-entries c.args.bytes.now in
    IsTable-from c.in_ok-entries.entries.items (omega (arith, long, c.in_ok-frame.ensures.framed.limit, c.in_ok-frame.ensures.framed.count))
    (ap (λ (xs : List Entry). first (order_rules (cdhashes_of xs))) (sym c.deref.ensures.value) ∙ c.in_ok-ordered.ensures)

pub returns-clause-accepted : goal.returns-clause-accepted
returns-clause-accepted c =
    let found = c.deref.ensures.value ∙ c.in_ok-entries.ensures in
    rw c.of.ensures record {
      unbroken = broken_by_order _ _ c.in_ok-frame.ensures.tries (ap (λ (xs : List Entry). first (order_rules (cdhashes_of xs))) (sym found) ∙ c.in_ok-ordered.ensures);
      listed = c.in_ok-entries.ensures;
    }
