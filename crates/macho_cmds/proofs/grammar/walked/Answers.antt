use Rattle.std.proofs.Common.{None, List, sym, subst, arith}
use Rattle.std.proofs.lemmas.Result.{err_from_is_err_and}
use Rattle.macho_cmds.specs.declared.segment.Segment.{Segment}
use Rattle.macho_cmds.proofs.RuleFacts.{broken_here}
use Rattle.macho_cmds.proofs.WalkFacts.{IsWalked, IsWalked-start, IsWalked-next}
use Rattle.macho_cmds.proofs.grammar.walked.Goals as goal

pub loop-index-init : goal.loop-index-init
loop-index-init c =
    let P : List Segment → Type 0 = λ segments. IsWalked c.args.bytes.now 0 32 segments None in
    subst P (sym c.new.ensures.items) (IsWalked-start c.args.bytes.now)

pub returns-in_err-command-clause-refused : goal.returns-in_err-command-clause-refused
returns-in_err-command-clause-refused c =
    let exit = err_from_is_err_and c.from_residual.result c.from_residual.ensures.1 in
    rw (exit.1, exit.2) (broken_here _ _ _ _ c.loop-index.invariant.kept (omega arith) c.in_err-command.ensures.tries)

pub loop-index-preserved : goal.loop-index-preserved
loop-index-preserved c =
    IsWalked-next _ _ _ _ _ _ _ _ c.loop-index.invariant (omega arith) c.in_ok-command.ensures.tries c.in_ok-command.ensures.command c.in_ok-add.ensures.segments c.in_ok-add.ensures.signature
