use Rattle.std.proofs.Common.{ℕ, ◌≡◌, length, subst, ◌∙◌, sym, arith}
use Rattle.macho_slices.specs.Rules.{overlap_rule}
use Rattle.pg_bytes.proofs.RuleFacts.{KeptBelow, KeptBelow-end}
use Rattle.macho_slices.proofs.SliceFacts.{overlap-broken, overlap-kept}
use Rattle.macho_slices.proofs.grammar.apart.Goals as goal

pub returns-in-Some : goal.returns-in-Some
returns-in-Some c =
    overlap-broken _ _ _ _ c.loop-b.invariant c.loop-b-test.true (sym c.first_meeting.ensures ∙ c.in-Some.is)

pub loop-b-preserved : goal.loop-b-preserved
loop-b-preserved c =
    overlap-kept _ _ _ c.loop-b.invariant c.loop-b-test.true (sym c.first_meeting.ensures ∙ c.in_default.is)

pub returns : goal.returns
returns c =
    let P : ℕ → Type 0 = λ b. KeptBelow (overlap_rule c.args.found.now) b (length c.args.found.now) in
    let done : c.loop-b.b ≡ length c.args.found.now = omega arith in
    KeptBelow-end _ _ (subst P done c.loop-b.invariant)
