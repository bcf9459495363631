-- How many callers the history of a run has: each has one entry that is its first.
use Rattle.std.proofs.Common.{◌≡◌, ℕ, zero, suc, ◌+◌, ◌<◌, ◌≤◌, Bool, true, false, cond, eqb, List, [], ◌∷◌, map, Some, refl, ap, ◌∙◌, arith}
use Rattle.std.specs.Prelude.{slice_get, count_by}
use Rattle.std.specs.List.{range_with_len, sum_by}
use Rattle.std.proofs.lemmas.Bool.{eqb-true, eqb-false, eq-eqb, ne_eqb}
use Rattle.std.proofs.lemmas.List.Sums.{sum_by-cons}
use Rattle.pg_book.specs.declared.receipt.Stamped.{Stamped}
use Rattle.book_bench.specs.Runs.{IsRunHistory, by_caller}

-- 1 for the first entry of a caller
abbrev first : Stamped ℕ → ℕ
first e = cond (eqb e.entry 0) 1 0

-- how many are first, added up over the callers below n
abbrev total : ℕ → List (Stamped ℕ) → ℕ
total zero es = 0
total (suc n) es = total n es + sum_by first (by_caller n es)

total_nil : (n : ℕ) → total n [] ≡ 0
total_nil zero = refl
total_nil (suc n) = let k = total_nil n in omega arith

total_other : (n : ℕ) (e : Stamped ℕ) (es : List (Stamped ℕ)) → n ≤ e.caller → total n (e ∷ es) ≡ total n es
total_other zero e es ge = refl
total_other (suc n) e es ge =
    let other : eqb e.caller n ≡ false = ne_eqb e.caller n (λ is. omega arith) in
    let rest = total_other n e es (omega arith) in
    ap (λ (b : Bool). total n (e ∷ es) + sum_by first (cond b (e ∷ by_caller n es) (by_caller n es))) other ∙ omega arith

total_own : (n : ℕ) (e : Stamped ℕ) (es : List (Stamped ℕ)) → e.caller < n → total n (e ∷ es) ≡ first e + total n es
total_own zero e es lt = absurd (omega arith)
total_own (suc n) e es lt = pick (eqb e.caller n) refl (total_own n e es)
  where
    pick : (b : Bool) → eqb e.caller n ≡ b → (e.caller < n → total n (e ∷ es) ≡ first e + total n es) → total n (e ∷ es) + sum_by first (cond b (e ∷ by_caller n es) (by_caller n es)) ≡ first e + (total n es + sum_by first (by_caller n es))
    pick true is own = let same = eqb-true e.caller n is in let a = total_other n e es (omega arith) in let s = sum_by-cons first e (by_caller n es) in omega arith
    pick false is own = let ne = eqb-false e.caller n is in let a = own (omega arith) in omega arith

total_all : (n : ℕ) (es : List (Stamped ℕ)) → ((k : ℕ) (e : Stamped ℕ) → slice_get es k ≡ Some e → e.caller < n) → sum_by first es ≡ total n es
total_all n [] below = let k = total_nil n in omega arith
total_all n (e ∷ es) below = let s = sum_by-cons first e es in let a = total_own n e es (below 0 e refl) in let k = total_all n es (λ j x is. below (suc j) x is) in omega arith

total_each : (n : ℕ) (es : List (Stamped ℕ)) → ((k : ℕ) → k < n → sum_by first (by_caller k es) ≡ 1) → total n es ≡ n
total_each zero es each = refl
total_each (suc n) es each = let a = each n (omega arith) in let k = total_each n es (λ j lt. each j (omega arith)) in omega arith

abbrev numbers : List (Stamped ℕ) → List ℕ
numbers es = map (λ (e : Stamped ℕ). e.entry) es

later_none : (a n : ℕ) (es : List (Stamped ℕ)) → 0 < a → numbers es ≡ range_with_len a n → sum_by first es ≡ 0
later_none a n [] some is = refl
later_none a zero (e ∷ es) some is = cc
later_none a (suc n) (e ∷ es) some is =
    let head : e.entry ≡ a = cc in
    let tail : numbers es ≡ range_with_len (a + 1) n = cc in
    let other : first e ≡ 0 = ap (λ (b : Bool). cond b 1 0) (ne_eqb e.entry 0 (λ z. omega arith)) in
    let s = sum_by-cons first e es in let k = later_none (a + 1) n es (omega arith) tail in omega arith

one_first : (n : ℕ) (es : List (Stamped ℕ)) → 0 < n → numbers es ≡ range_with_len 0 n → sum_by first es ≡ 1
one_first zero es some is = absurd (omega arith)
one_first (suc n) [] some is = cc
one_first (suc n) (e ∷ es) some is =
    let head : e.entry ≡ 0 = cc in
    let tail : numbers es ≡ range_with_len 1 n = cc in
    let own : first e ≡ 1 = ap (λ (b : Bool). cond b 1 0) (eq-eqb e.entry 0 head) in
    let s = sum_by-cons first e es in let k = later_none 1 n es (omega arith) tail in omega arith

pub counts_callers : (callers draws : ℕ) (history : List (Stamped ℕ)) → 0 < draws → IsRunHistory callers draws history → count_by (λ (e : Stamped ℕ). eqb e.entry 0) history ≡ callers
counts_callers callers draws history some is = total_all callers history is.of_callers ∙ total_each callers history (λ k lt. one_first draws (by_caller k history) some (is.numbers k lt))
