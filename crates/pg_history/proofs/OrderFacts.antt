-- The entries of all scripts, one script after another, are those of their calls in order.
use Rattle.std.proofs.Common.{◌≡◌, ◌<◌, ◌≤◌, ◌+◌, ◌-◌, ℕ, Bool, true, false, List, [], ◌∷◌, ◌++◌, refl, sym, ap, subst, ◌∙◌, arith, append_assoc}
use Rattle.std.specs.Prelude.{◌==◌, nat_le}
use Rattle.std.specs.List.{AllByRecursion}
use Rattle.std.proofs.lemmas.Grind.{common_steps}
use Rattle.std.proofs.lemmas.Bool.Decides.{nat_tests}
use Rattle.pg_digest.specs.Kinds.{Hash}
use Rattle.cs_policy.specs.declared.call.Call.{Call}
use Rattle.cs_policy.specs.declared.entry.Who.{Who}
use Rattle.pg_history.specs.Machine.{Line}
use Rattle.pg_history.specs.Opening.{Numbers}
use Rattle.pg_history.specs.Legal.{Follows, AreOf, Begins, Scripted, entries_by, script_at}
use Rattle.pg_history.specs.Solo.{calls_of, all_calls, InOrder}
use Rattle.pg_history.proofs.FewFacts.{by_from, none_from, all_from_zero}

-- ---- calls one after another

-- the entries of the first call, and of the others
pub record RunsFirst (hash : Hash) (numbers : Numbers) (made : Who × Call) (es own others : List Line) : Type 0 where
  pub whole : es ≡ own ++ others
  pub same_call : AllByRecursion (λ e. e.entry.who ≡ made.0) own
  pub follows : Follows hash numbers made.1 [] own

abbrev pub Runs : Hash → Numbers → List (Who × Call) → List Line → Type 0
Runs hash numbers [] es = es ≡ []
Runs hash numbers (made ∷ rest) es = (own : List Line) × (others : List Line) × RunsFirst hash numbers made es own others × Runs hash numbers rest others

module _ (hash : Hash) (numbers : Numbers) where
  all_of : (worker number : ℕ) (es : List Line) → AreOf worker number es → AllByRecursion (λ e. e.entry.who ≡ record { worker = worker; call = number }) es
  all_of worker number [] are = tt
  all_of worker number (e ∷ es) are = (are.0, all_of worker number es are.1)

  script_runs : (worker number : ℕ) (calls : List Call) (es : List Line) → Scripted hash numbers worker number calls es → Runs hash numbers (calls_of worker number calls) es
  script_runs worker number [] es is = is
  script_runs worker number (c ∷ calls) es is =
      let begins : Begins hash numbers worker number c es is.0 is.1 = is.2 in (
        is.0,
        is.1,
        record { whole = begins.whole; same_call = all_of worker number is.0 begins.same_call; follows = begins.follows },
        script_runs worker (number + 1) calls is.1 is.3,
      )

  runs_both : (xs ys : List (Who × Call)) (es fs : List Line) → Runs hash numbers xs es → Runs hash numbers ys fs → Runs hash numbers (xs ++ ys) (es ++ fs)
  runs_both [] ys es fs one other = subst (λ gs. Runs hash numbers ys (gs ++ fs)) (sym one) other
  runs_both (x ∷ xs) ys es fs one other =
      let first : RunsFirst hash numbers x es one.0 one.1 = one.2 in (
        one.0,
        one.1 ++ fs,
        record { whole = ap (λ gs. gs ++ fs) first.whole ∙ append_assoc one.0 one.1 fs; same_call = first.same_call; follows = first.follows },
        runs_both xs ys one.1 fs one.3 other,
      )

-- ---- scripts one after another

-- none of these entries is of the worker
none_by : (worker : ℕ) (es : List Line) → AllByRecursion (λ e. worker < e.entry.who.worker) es → entries_by worker es ≡ []
none_by worker [] all = refl
none_by worker (e ∷ es) all = grind (arith, common_steps, nat_tests, all.0, none_by worker es all.1)

above : (worker least : ℕ) (es : List Line) → worker < least → AllByRecursion (λ e. least ≤ e.entry.who.worker) es → AllByRecursion (λ e. worker < e.entry.who.worker) es
above worker least [] lt all = tt
above worker least (e ∷ es) lt all = (omega (arith, lt, all.0), above worker least es lt all.1)

split_order : (worker : ℕ) (history : List Line) → InOrder history → by_from worker history ≡ entries_by worker history ++ by_from (worker + 1) history
split_order worker [] order = refl
split_order worker (e ∷ es) order = by_test (e.entry.who.worker == worker) (nat_le worker e.entry.who.worker) (nat_le (worker + 1) e.entry.who.worker) refl refl refl (split_order worker es order.1)
  where
    no_other : (nat_le (worker + 1) e.entry.who.worker) ≡ true → entries_by worker es ≡ []
    no_other h = none_by worker es (above worker e.entry.who.worker es (grind (arith, common_steps, nat_tests, h)) order.0)

    by_test : (a b c : Bool) → (e.entry.who.worker == worker) ≡ a → nat_le worker e.entry.who.worker ≡ b → nat_le (worker + 1) e.entry.who.worker ≡ c
        → by_from worker es ≡ entries_by worker es ++ by_from (worker + 1) es → by_from worker (e ∷ es) ≡ entries_by worker (e ∷ es) ++ by_from (worker + 1) (e ∷ es)
    by_test true true false f g h rest = grind (arith, common_steps, f, g, h, rest)
    by_test true true true f g h rest = absurd (grind (arith, common_steps, nat_tests, f, g, h))
    by_test true false c f g h rest = absurd (grind (arith, common_steps, nat_tests, f, g, h))
    by_test false true true f g h rest = grind (arith, common_steps, f, g, h, rest, no_other h)
    by_test false true false f g h rest = absurd (grind (arith, common_steps, nat_tests, f, g, h))
    by_test false false true f g h rest = absurd (grind (arith, common_steps, nat_tests, f, g, h))
    by_test false false false f g h rest = grind (arith, common_steps, f, g, h, rest)

module _ (hash : Hash) (numbers : Numbers) (all : List (List Call)) (history : List Line) (order : InOrder history)
    (scripted : (worker : ℕ) → Scripted hash numbers worker 0 (script_at all worker) (entries_by worker history)) where
  runs_from : (worker : ℕ) (scripts : List (List Call)) → ((k : ℕ) → script_at all (worker + k) ≡ script_at scripts k) → Runs hash numbers (all_calls worker scripts) (by_from worker history)
  runs_from worker [] at = none_from worker history (λ w le. no_script w (ap (script_at all) (behind worker w le) ∙ at (w - worker) ∙ grind (arith, common_steps)))
    where
      behind : (a b : ℕ) → a ≤ b → b ≡ a + (b - a)
      behind a b le = omega (arith, le)

      no_script : (w : ℕ) → script_at all w ≡ [] → entries_by w history ≡ []
      no_script w none = subst (λ calls. Scripted hash numbers w 0 calls (entries_by w history)) none (scripted w)
  runs_from worker (script ∷ scripts) at =
      subst (Runs hash numbers (all_calls worker (script ∷ scripts))) (sym (split_order worker history order))
      (runs_both hash numbers (calls_of worker 0 script) (all_calls (worker + 1) scripts) (entries_by worker history) (by_from (worker + 1) history)
      (script_runs hash numbers worker 0 script (entries_by worker history)
      (subst (λ calls. Scripted hash numbers worker 0 calls (entries_by worker history)) (ap (script_at all) (zero_more worker) ∙ at 0) (scripted worker)))
      (runs_from (worker + 1) scripts (λ k. ap (script_at all) (one_more worker k) ∙ at (k + 1) ∙ later script scripts k)))
    where
      zero_more : (n : ℕ) → n ≡ n + 0
      zero_more n = omega arith

      one_more : (n k : ℕ) → n + 1 + k ≡ n + (k + 1)
      one_more n k = omega arith

      later : (s : List Call) (ss : List (List Call)) (k : ℕ) → script_at (s ∷ ss) (k + 1) ≡ script_at ss k
      later s ss k = grind (arith, common_steps)

  pub all_run : Runs hash numbers (all_calls 0 all) history
  all_run = subst (Runs hash numbers (all_calls 0 all)) (all_from_zero history) (runs_from 0 all (λ k. ap (script_at all) (none_more k)))
    where
      none_more : (k : ℕ) → 0 + k ≡ k
      none_more k = omega arith
