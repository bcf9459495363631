-- Elements of lists that pass a test, or are found.
use Rattle.std.proofs.Common.{◌≡◌, ℕ, suc, Bool, true, false, List, [], ◌∷◌, Some, refl, subst, arith, inl, inr}
use Rattle.std.specs.Prelude.{find, Any, slice_get}
use Rattle.std.specs.List.{AllByRecursion}
use Rattle.std.proofs.lemmas.Grind.{common_steps}
use Rattle.pg_process.proofs.ListFacts.{any_cases, any_none}

module _ {X : Type 0} (P : X → Type 0) where
  -- what is found is one of them
  pub found-of : (test : X → Bool) (xs : List X) (x : X) → find test xs ≡ Some x → AllByRecursion P xs → P x
  found-of test [] x e all = absurd (grind (arith, common_steps, e))
  found-of test (y ∷ ys) x e all = by_test (test y) refl (found-of test ys x)
    where
      by_test : (b : Bool) → test y ≡ b → (find test ys ≡ Some x → AllByRecursion P ys → P x) → P x
      by_test true f rest = subst P (grind (arith, common_steps, e, f)) all.0
      by_test false f rest = rest (grind (arith, common_steps, e, f)) all.1

  -- some element is this, and each is that
  pub any-of : (Q : X → Type 0) (xs : List X) → Any Q xs → AllByRecursion P xs → (x : X) × Q x × P x
  any-of Q [] any all = absurd (any_none Q any)
  any-of Q (y ∷ ys) any all = elim (any_cases Q y ys any) [
    | inl here ↦ (y, here, all.0)
    | inr later ↦ any-of Q ys later all.1
  ]

  -- each, by its place
  pub all-placed : (xs : List X) → ((k : ℕ) (x : X) → slice_get xs k ≡ Some x → P x) → AllByRecursion P xs
  all-placed [] each = tt
  all-placed (y ∷ ys) each = (each 0 y refl, all-placed ys (λ k x e. each (suc k) x e))
