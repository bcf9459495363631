use Rattle.std.proofs.Common.{◌≡◌, ℕ, suc, ◌+◌, [], ◌∷◌, ◌++◌, length, append_assoc, length-append, sym, ap, ◌∙◌, subst, arith}
use Rattle.std.specs.Vec.Iter.{into_iter_items}
use Rattle.std.specs.Prelude.{slice_get, Some}
use Rattle.pg_book.specs.Opening.{EachFrom, IsNewSpine}
use Rattle.pg_history.proofs.ListFacts.{get-end}
use Rattle.pg_shared.proofs.OpenFacts.{new-file}
use Rattle.pg_shared.proofs.ready.lock_files.Goals as goal

pub new-requires : goal.new-requires
new-requires g c =
    let at = c.loop-object in
    let o = c.in-Some.object in
    let s = c.in-Some-next.spine in
    let plan = g.B.Naming.plan in
    let steps : into_iter_items at.object-iterator ≡ o ∷ into_iter_items c.next.new.self = c.in-Some.ensures.steps.0 in
    let all : c.args.files.items ≡ at.yielded ++ o ∷ into_iter_items c.next.new.self = sym at.invariant.0 ∙ ap (λ xs. at.yielded ++ xs) steps in
    let here : slice_get plan.start.files (length at.yielded) ≡ Some o =
    ap (λ xs. slice_get xs (length at.yielded)) (sym c.requires.files ∙ all) ∙ get-end at.yielded o (into_iter_items c.next.new.self) in
    let taken : into_iter_items at.spines ≡ s ∷ into_iter_items c.next-in-loop-object.new.self = c.in-Some-next.ensures.items in
    record { kept = new-file g.D.Digester.hash plan c.requires.openable s (length at.yielded) o here (subst (EachFrom (IsNewSpine plan.start.needs plan.book) (length at.yielded)) taken at.invariant.2).0 }

pub loop-object-preserved : goal.loop-object-preserved
loop-object-preserved g c =
    let at = c.loop-object in
    let o = c.in-Some.object in
    let s = c.in-Some-next.spine in
    let plan = g.B.Naming.plan in
    let steps : into_iter_items at.object-iterator ≡ o ∷ into_iter_items c.next.new.self = c.in-Some.ensures.steps.0 in
    let gone = c.in-Some.ensures.steps.1 in
    let short = ap length steps in
    let taken : into_iter_items at.spines ≡ s ∷ into_iter_items c.next-in-loop-object.new.self = c.in-Some-next.ensures.items in
    let fewer = ap length taken in
    let longer : length (at.yielded ++ o ∷ []) ≡ length at.yielded + 1 = length-append at.yielded (o ∷ []) in
    let count : suc (length at.yielded) ≡ length (at.yielded ++ o ∷ []) = omega (arith, longer) in (
      append_assoc at.yielded (o ∷ []) _ ∙ sym (ap (λ xs. at.yielded ++ xs) steps) ∙ at.invariant.0,
      (let was = at.invariant.1 in omega (arith, was, gone, short)),
      subst (λ (n : ℕ). EachFrom (IsNewSpine plan.start.needs plan.book) n (into_iter_items c.next-in-loop-object.new.self)) count
          (subst (EachFrom (IsNewSpine plan.start.needs plan.book) (length at.yielded)) taken at.invariant.2).1,
      (let was = at.invariant.3 in omega (arith, was, fewer, longer)),
      ap length c.in_ok-push.ensures.items ∙ length-append at.cells.items _ ∙ ap (λ (n : ℕ). n + 1) at.invariant.4 ∙ sym longer,
    )

pub returns-clause-count : goal.returns-clause-count
returns-clause-count g c =
    let at = c.loop-object in
    let all = ap length at.invariant.0 in
    let long = length-append at.yielded (into_iter_items at.object-iterator) in
    let none = c.in-None.ensures.steps.0 in
    let len = at.invariant.1 in
    let cells = at.invariant.4 in
    omega (arith, all, long, none, len, cells)

pub returns-clause-others : goal.returns-clause-others
returns-clause-others g c =
    let at = c.loop-object in
    let plan = g.B.Naming.plan in
    let all = ap length at.invariant.0 in
    let long = length-append at.yielded (into_iter_items at.object-iterator) in
    let none = c.in-None.ensures.steps.0 in
    let len = at.invariant.1 in
    let count : length at.yielded ≡ length c.args.files.items = omega (arith, all, long, none, len) in
    subst (λ (n : ℕ). EachFrom (IsNewSpine plan.start.needs plan.book) n (into_iter_items at.spines)) count at.invariant.2
