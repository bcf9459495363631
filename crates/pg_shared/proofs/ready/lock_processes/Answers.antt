use Rattle.std.proofs.Common.{◌≡◌, ◌+◌, ◌∷◌, ◌++◌, length, sym, ap, ◌∙◌, subst}
use Rattle.std.specs.Vec.Iter.{into_iter_items}
use Rattle.std.specs.Prelude.{slice_get, Some}
use Rattle.pg_book.specs.Opening.{EachFrom, IsNewSpine}
use Rattle.pg_history.proofs.ListFacts.{get-end}
use Rattle.pg_shared.proofs.OpenFacts.{new-process}
use Rattle.pg_shared.proofs.ready.lock_processes.Goals as goal

pub new-requires : goal.new-requires
new-requires g c =
    let at = c.loop-process in
    let p = c.in-Some.process in
    let s = c.in-Some-next.spine in
    let plan = g.B.Naming.plan in
    let steps : into_iter_items at.process-iterator ≡ p ∷ into_iter_items c.next.new.self = c.in-Some.ensures.steps.0 in
    let all : c.args.processes.items ≡ at.yielded ++ p ∷ into_iter_items c.next.new.self = sym at.invariant.0 ∙ ap (λ xs. at.yielded ++ xs) steps in
    let here : slice_get plan.start.processes (length at.yielded) ≡ Some p =
    ap (λ xs. slice_get xs (length at.yielded)) (sym c.requires.processes ∙ all) ∙ get-end at.yielded p (into_iter_items c.next.new.self) in
    let taken : into_iter_items at.spines ≡ s ∷ into_iter_items c.next-in-loop-process.new.self = c.in-Some-next.ensures.items in
    record { kept = new-process g.D.Digester.hash plan c.requires.openable s (length at.yielded) p here (subst (EachFrom (IsNewSpine plan.start.needs plan.book) (length plan.start.files + length at.yielded)) taken at.invariant.1).0 }
