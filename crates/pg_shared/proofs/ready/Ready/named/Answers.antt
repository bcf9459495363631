use Rattle.std.proofs.Common.{◌≡◌, ℕ, ◌+◌, ◌∷◌, length, sym, ap, subst}
use Rattle.std.specs.Vec.Iter.{into_iter_items}
use Rattle.pg_book.specs.Opening.{EachFrom, IsNewSpine}
use Rattle.pg_trusted.specs.TrustStep.{TrustList}
use Rattle.pg_shared.specs.Cells.{IsTrustOf}
use Rattle.pg_shared.proofs.OpenFacts.{new-trust, named-ready, shares}
use Rattle.pg_shared.proofs.ready.Ready.named.Goals as goal

pub new-requires : goal.new-requires
new-requires g c =
    let hash = g.D.Digester.hash in
    let plan = g.B.Naming.plan in
    let ready = named-ready hash plan _ _ _ c.self.invariant c.self.view_is c.requires.name in
    let s = c.in-Some.spine in
    let taken : into_iter_items c.lock_processes.new.spines ≡ s ∷ into_iter_items c.next.new.self = c.in-Some.ensures.items in
    let count : length plan.start.files + length c.self.inside.processes.items ≡ length plan.start.files + length plan.start.processes = ap (λ (n : ℕ). length plan.start.files + n) (ap length ready.processes) in
    let new : IsNewSpine plan.start.needs plan.book (length plan.start.files + length plan.start.processes) s =
    subst (λ (n : ℕ). IsNewSpine plan.start.needs plan.book n s) count
    (subst (EachFrom (IsNewSpine plan.start.needs plan.book) (length plan.start.files + length c.self.inside.processes.items)) taken c.in_ok-processes.ensures.others).0 in
    record { kept = subst (λ (l : TrustList). IsTrustOf plan (record { trust = l; spine = s })) (sym ready.trust) (new-trust hash plan ready.openable s new) }

pub invariant_of-shared : goal.invariant_of-shared
invariant_of-shared g c =
    let ready = named-ready g.D.Digester.hash g.B.Naming.plan _ _ _ c.self.invariant c.self.view_is c.requires.name in
    shares g.D.Digester.hash g.B.Naming.plan _ ready (length c.in_ok-files.files.items) (length c.in_ok-processes.processes.items) c.in_ok-files.ensures.count c.in_ok-processes.ensures.count

pub returns : goal.returns
returns g c =
    let ready = named-ready g.D.Digester.hash g.B.Naming.plan _ _ _ c.self.invariant c.self.view_is c.requires.name in
    record { book = record { same_book = ready.book; needs = ready.needs } }
