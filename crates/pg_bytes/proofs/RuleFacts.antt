-- What the first broken rule of a list tells of its parts, whatever the refusals are.
use Rattle.std.proofs.Common.{◌≡◌, ℕ, suc, cond, ◌+◌, ◌-◌, ◌<◌, true, false, List, [], ◌∷◌, ◌++◌, map, Some, None, refl, sym, ap, ◌∙◌, arith}
use Rattle.std.specs.List.{range_with_len}
use Rattle.pg_bytes.specs.Rules.{Rule, first}

-- no rule of the list is broken
abbrev pub NoneBroken : {R : Type 0} → List (Rule R) → Type 0
NoneBroken [] = Unit {0}
NoneBroken (rule ∷ more) = (rule.0 ≡ false) × NoneBroken more

pub NoneBroken-from : {R : Type 0} (some : List (Rule R)) → first some ≡ None → NoneBroken some
NoneBroken-from [] e = tt
NoneBroken-from ((true, refusal) ∷ more) e = absurd cc
NoneBroken-from ((false, refusal) ∷ more) e = (refl, NoneBroken-from more e)

-- neither the first rule nor one of the others is broken
pub kept-cons : {R : Type 0} (rule : Rule R) (more : List (Rule R)) → first (rule ∷ more) ≡ None → (rule.0 ≡ false) × (first more ≡ None)
kept-cons (true, refusal) more e = absurd cc
kept-cons (false, refusal) more e = (refl, e)

-- rules of which none is broken, and those after them
pub first-append-kept : {R : Type 0} (some more : List (Rule R)) → first some ≡ None → first (some ++ more) ≡ first more
first-append-kept [] more e = refl
first-append-kept ((true, refusal) ∷ some) more e = absurd cc
first-append-kept ((false, refusal) ∷ some) more e = first-append-kept some more e

-- rules of which one is broken, and those after them
pub first-append-broken : {R : Type 0} (some more : List (Rule R)) (refusal : R) → first some ≡ Some refusal → first (some ++ more) ≡ Some refusal
first-append-broken [] more refusal e = absurd cc
first-append-broken ((true, other) ∷ some) more refusal e = e
first-append-broken ((false, other) ∷ some) more refusal e = first-append-broken some more refusal e

-- of two lists of rules no rule is broken
pub kept-append : {R : Type 0} (some more : List (Rule R)) → first (some ++ more) ≡ None → (first some ≡ None) × (first more ≡ None)
kept-append [] more e = (refl, e)
kept-append ((true, refusal) ∷ some) more e = absurd cc
kept-append ((false, refusal) ∷ some) more e = kept-append some more e

-- Rules that stand one for each number below `n`: those below `i` are kept.
pub record KeptBelow {R : Type 0} (rule : ℕ → Rule R) (i n : ℕ) : Type 0 where
  pub same : first (map rule (range_with_len i (n - i))) ≡ first (map rule (range_with_len 0 n))

-- the rules from a number on, by the first of them
from_here : {R : Type 0} (rule : ℕ → Rule R) (i n : ℕ) → i < n → map rule (range_with_len i (n - i)) ≡ rule i ∷ map rule (range_with_len (i + 1) (n - (i + 1)))
from_here rule i n lt =
    let next : n - i ≡ suc (n - (i + 1)) = omega arith in
    rw next refl

pub KeptBelow-start : {R : Type 0} (rule : ℕ → Rule R) (n : ℕ) → KeptBelow rule 0 n
KeptBelow-start rule n = record { same = let e : n - 0 ≡ n = omega arith in rw e refl }

pub KeptBelow-next : {R : Type 0} (rule : ℕ → Rule R) (i n : ℕ) → KeptBelow rule i n → i < n → (rule i).0 ≡ false → KeptBelow rule (i + 1) n
KeptBelow-next rule i n known lt kept =
    let here = ap first (from_here rule i n lt) in
    let step : cond (rule i).0 (Some (rule i).1) (first (map rule (range_with_len (i + 1) (n - (i + 1))))) ≡ first (map rule (range_with_len (i + 1) (n - (i + 1)))) = rw kept refl in
    record { same = sym (here ∙ step) ∙ known.same }

pub broken_here : {R : Type 0} (rule : ℕ → Rule R) (i n : ℕ) → KeptBelow rule i n → i < n → (rule i).0 ≡ true → first (map rule (range_with_len 0 n)) ≡ Some (rule i).1
broken_here rule i n known lt broken =
    let here = ap first (from_here rule i n lt) in
    let step : cond (rule i).0 (Some (rule i).1) (first (map rule (range_with_len (i + 1) (n - (i + 1))))) ≡ Some (rule i).1 = rw broken refl in
    sym known.same ∙ (here ∙ step)

pub KeptBelow-end : {R : Type 0} (rule : ℕ → Rule R) (n : ℕ) → KeptBelow rule n n → first (map rule (range_with_len 0 n)) ≡ None
KeptBelow-end rule n known =
    let e : n - n ≡ 0 = omega arith in
    sym known.same ∙ rw e refl
