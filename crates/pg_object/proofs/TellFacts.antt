-- What a pager that tells says of the calls that an event made.
use Rattle.std.proofs.Common.{◌≡◌, ℕ, zero, suc, ◌+◌, ◌-◌, ◌≤◌, List, [], ◌∷◌, ◌++◌, length, replicate, Bool, true, false, Option, Some, None, refl, ap, sym, subst, ◌∙◌, arith, length-append}
use Rattle.std.specs.Prelude.{IfSome, IsSomeAnd}
use Rattle.std.proofs.lemmas.List.{length-replicate}
use Rattle.pg_io.specs.Calls.{count_after, outcomes, one_later, first_failed, first_failing}
use Rattle.pg_io.specs.Pager.{ToldPages, PagerNow, FaultsAfter, Follow, MadeCalls}
use Rattle.pg_io.proofs.CallLaws.{outcomes-append}
use Rattle.pg_plain.specs.Calls.{calls_made}
use Rattle.pg_object.specs.Acts.{results, Tells}

pub length-results : (count outcome : ℕ) → length (results count outcome) ≡ calls_made outcome count
length-results count zero = length-replicate count false
length-results count (suc before) = length-append (replicate before false) (true ∷ []) ∙ ap (λ n. n + 1) (length-replicate before false) ∙ omega arith

-- ---- the first that failed

none_failed : (count : ℕ) → first_failed (replicate count false) ≡ 0
none_failed zero = refl
none_failed (suc count) = ap one_later (none_failed count)

last_failed : (before : ℕ) (others : List Bool) → first_failed (replicate before false ++ true ∷ others) ≡ suc before
last_failed zero others = refl
last_failed (suc before) others = ap one_later (last_failed before others)

append_one : {X : Type 0} (xs : List X) (x : X) (ys : List X) → (xs ++ x ∷ []) ++ ys ≡ xs ++ x ∷ ys
append_one [] x ys = refl
append_one (z ∷ xs) x ys = ap (λ rest. z ∷ rest) (append_one xs x ys)

-- the calls that are told to follow have this outcome, where no more are made than there are
first_of : (made : ℕ) (fails : List ℕ) (count outcome : ℕ) → outcome ≤ count → results count outcome ≡ outcomes made fails (calls_made outcome count)
    → outcome ≡ first_failing made fails count
first_of made fails count zero inside e = sym (ap first_failed (sym e) ∙ none_failed count)
first_of made fails count (suc before) inside e =
    let all : suc before + (count - suc before) ≡ count = omega arith in
    sym (ap (λ n. first_failed (outcomes made fails n)) (sym all)
    ∙ ap first_failed (outcomes-append made fails (suc before) (count - suc before)
    ∙ ap (λ l. l ++ outcomes (count_after made (suc before)) fails (count - suc before)) (sym e)
    ∙ append_one (replicate before false) true (outcomes (count_after made (suc before)) fails (count - suc before)))
    ∙ last_failed before (outcomes (count_after made (suc before)) fails (count - suc before)))

-- ---- what is told after these calls

pub tells_of : (old new : PagerNow) (count outcome : ℕ) → outcome ≤ count → MadeCalls old (results count outcome) new
    → IfSome old.told (λ before. IsSomeAnd new.told (λ now. Tells before count outcome now))
tells_of old new count outcome inside made = by_told old.told new.told made
  where
    told_of : (before now : ToldPages) → Follow before (results count outcome) now → Tells before count outcome now
    told_of before now follow =
        let long = length-results count outcome in
        record {
          first = first_of before.made before.fails count outcome inside (follow.outcomes ∙ ap (outcomes before.made before.fails) long);
          made = follow.made ∙ ap (count_after before.made) long;
          fails = follow.fails;
        }

    by_told : (before now : Option ToldPages) → IfSome before (λ b. IsSomeAnd now (λ n. Follow b (results count outcome) n))
        → IfSome before (λ b. IsSomeAnd now (λ n. Tells b count outcome n))
    by_told None now follow = tt
    by_told (Some b) None follow = absurd follow
    by_told (Some b) (Some n) follow = told_of b n follow

-- ---- faults

-- a call that succeeded, and others
pub faults_later : (old between new : ℕ) (failed : Bool) → between ≡ old → FaultsAfter failed between new → FaultsAfter failed old new
faults_later old between new failed same after = subst (λ n. FaultsAfter failed n new) same after
