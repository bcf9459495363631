-- What the first broken rule of groups of rules tells of each group, whatever the refusals are.
use Rattle.std.proofs.Common.{◌≡◌, ℕ, suc, ◌+◌, ◌-◌, ◌<◌, List, ◌++◌, Some, None, refl, sym, ap, ◌∙◌, arith}
use Rattle.std.specs.List.{range_with_len, flat_map}
use Rattle.pg_bytes.specs.Rules.{Rule, first}
use Rattle.pg_bytes.proofs.RuleFacts.{first-append-kept, first-append-broken}

-- Groups of rules that stand one for each number below `n`: those below `i` are kept.
pub record KeptBelow {R : Type 0} (group : ℕ → List (Rule R)) (i n : ℕ) : Type 0 where
  pub same : first (flat_map group (range_with_len i (n - i))) ≡ first (flat_map group (range_with_len 0 n))

-- the groups from a number on, by the first of them
from_here : {R : Type 0} (group : ℕ → List (Rule R)) (i n : ℕ) → i < n → flat_map group (range_with_len i (n - i)) ≡ group i ++ flat_map group (range_with_len (i + 1) (n - (i + 1)))
from_here group i n lt =
    let next : n - i ≡ suc (n - (i + 1)) = omega arith in
    rw next refl

pub KeptBelow-start : {R : Type 0} (group : ℕ → List (Rule R)) (n : ℕ) → KeptBelow group 0 n
KeptBelow-start group n = record { same = let e : n - 0 ≡ n = omega arith in rw e refl }

pub KeptBelow-next : {R : Type 0} (group : ℕ → List (Rule R)) (i n : ℕ) → KeptBelow group i n → i < n → first (group i) ≡ None → KeptBelow group (i + 1) n
KeptBelow-next group i n known lt kept =
    let here = ap first (from_here group i n lt) in
    let step = first-append-kept (group i) (flat_map group (range_with_len (i + 1) (n - (i + 1)))) kept in
    record { same = sym (here ∙ step) ∙ known.same }

pub broken_here : {R : Type 0} (group : ℕ → List (Rule R)) (i n : ℕ) (refusal : R) → KeptBelow group i n → i < n → first (group i) ≡ Some refusal → first (flat_map group (range_with_len 0 n)) ≡ Some refusal
broken_here group i n refusal known lt broken =
    let here = ap first (from_here group i n lt) in
    let step = first-append-broken (group i) (flat_map group (range_with_len (i + 1) (n - (i + 1)))) refusal broken in
    sym known.same ∙ (here ∙ step)

pub KeptBelow-end : {R : Type 0} (group : ℕ → List (Rule R)) (n : ℕ) → KeptBelow group n n → first (flat_map group (range_with_len 0 n)) ≡ None
KeptBelow-end group n known =
    let e : n - n ≡ 0 = omega arith in
    sym known.same ∙ rw e refl
