use Rattle.std.proofs.Common.{◌∙◌, ap, sym}
use Rattle.cs_verify.specs.Text.{slice_lines}
use Rattle.cs_verify.proofs.TextFacts.{lines_next, lines_all}
use Rattle.cs_verify.proofs.text.verify_text.Goals as goal

pub loop-i-preserved : goal.loop-i-preserved
loop-i-preserved c =
    lines_next (λ numbered. slice_lines numbered.0 numbered.1) c.args.reports.now c.loop-i.i c.index-reports-i.result _ _ c.loop-i-test.true (sym c.index-reports-i.is) c.loop-i.invariant c.in_ok-put_slice.ensures

pub returns : goal.returns
returns c = ap (λ v. v.items) c.into_bytes.ensures.value ∙ lines_all (λ numbered. slice_lines numbered.0 numbered.1) c.args.reports.now c.loop-i.i _ c.loop-i-test.false c.loop-i.invariant
