-- A history with one entry more.
use Rattle.std.proofs.Common.{◌≡◌, ℕ, zero, suc, ◌<◌, Bool, true, false, List, [], ◌∷◌, ◌++◌, length, Some, refl, sym, ap, subst, ◌∙◌, arith, inl, inr}
use Rattle.std.specs.Prelude.{Contains, slice_get, if◌then◌else◌}
use Rattle.std.specs.List.{AllByRecursion}
use Rattle.std.proofs.lemmas.Grind.{common_steps}
use Rattle.std.proofs.lemmas.List.Elements.{filter-append}
use Rattle.std.proofs.lemmas.Option.{slice_get-get_or}
use Rattle.cs_policy.specs.declared.entry.Place.{Place}
use Rattle.pg_history.specs.Machine.{Line}
use Rattle.pg_history.specs.Opening.{Numbers}
use Rattle.pg_history.specs.ByParts.{is_at, entries_at}
use Rattle.pg_history.specs.Legal.{IsStamped, Agrees, AgreesIn}
use Rattle.pg_history.proofs.ListFacts.{get-last}
use Rattle.pg_parts.proofs.ListFacts.{all-placed}
use Rattle.pg_parts.proofs.ReadingFacts.{IsIn}

-- ---- entries of a part

one_at : (at : Place) (e : Line) (b : Bool) → is_at at e.entry.place ≡ b → entries_at at (e ∷ []) ≡ (if b then e ∷ [] else [])
one_at at e b is = ap (λ v. if v then e ∷ [] else []) is

pub entries-own : (at : Place) (es : List Line) (e : Line) → is_at at e.entry.place ≡ true → entries_at at (es ++ e ∷ []) ≡ entries_at at es ++ e ∷ []
entries-own at es e here = filter-append (λ x. is_at at x.entry.place) es (e ∷ []) ∙ ap (λ l. entries_at at es ++ l) (one_at at e true here)

pub entries-other : (at : Place) (es : List Line) (e : Line) → is_at at e.entry.place ≡ false → entries_at at (es ++ e ∷ []) ≡ entries_at at es
entries-other at es e apart = filter-append (λ x. is_at at x.entry.place) es (e ∷ []) ∙ ap (λ l. entries_at at es ++ l) (one_at at e false apart) ∙ append_none (entries_at at es)
  where
    append_none : (xs : List Line) → xs ++ [] ≡ xs
    append_none [] = refl
    append_none (x ∷ xs) = ap (λ l. x ∷ l) (append_none xs)

-- ---- stamps

pub stamped-more : (es : List Line) (e : Line) → IsStamped es → e.stamp ≡ length es → IsStamped (es ++ e ∷ [])
stamped-more es e stamps is k x there = elim (get-last es e x k there) [
  | inl old ↦ stamps k x old
  | inr last ↦ sym (ap (λ (l : Line). l.stamp) last.1) ∙ is ∙ sym last.0
]

pub agrees-more : (numbers : Numbers) (es : List Line) (e : Line) → Agrees numbers es → AgreesIn numbers e → Agrees numbers (es ++ e ∷ [])
agrees-more numbers es e agrees one k x there = elim (get-last es e x k there) [
  | inl old ↦ agrees k x old
  | inr last ↦ subst (AgreesIn numbers) last.1 one
]

-- every stamp is below the next
pub stamps-below : (es : List Line) → IsStamped es → AllByRecursion (λ e. e.stamp < length es) es
stamps-below es stamps = all-placed (λ e. e.stamp < length es) es (λ k e there. let is = stamps k e there in let inside = within es k e there in omega (arith, is, inside))
  where
    within : (xs : List Line) (k : ℕ) (x : Line) → slice_get xs k ≡ Some x → k < length xs
    within [] k x there = absurd (grind (arith, common_steps, there))
    within (y ∷ ys) zero x there = omega arith
    within (y ∷ ys) (suc k) x there = let rest = within ys k x (grind (arith, common_steps, there)) in omega (arith, rest)

-- ---- an entry that is contained

pub placed-of : (es : List Line) (x : Line) → Contains es x → (k : ℕ) × (slice_get es k ≡ Some x)
placed-of es x (k, inside, is) = (k, slice_get-get_or es k x inside ∙ ap (λ (l : Line). Some l) is)

pub in-of : (es : List Line) (k : ℕ) (x : Line) → slice_get es k ≡ Some x → IsIn x es
in-of [] k x there = absurd (grind (arith, common_steps, there))
in-of (y ∷ ys) zero x there = inl (grind (arith, common_steps, there))
in-of (y ∷ ys) (suc k) x there = inr (in-of ys k x (grind (arith, common_steps, there)))

-- it is the only one with its stamp
pub only-of : (es : List Line) (x : Line) → IsStamped es → Contains es x → AllByRecursion (λ e. e.stamp ≡ x.stamp → e ≡ x) es
only-of es x stamps there =
    let here = placed-of es x there in
    all-placed (λ (e : Line). e.stamp ≡ x.stamp → e ≡ x) es (λ k e found same.
    let at : k ≡ here.0 = sym (stamps k e found) ∙ same ∙ stamps here.0 x here.1 in
    some_same e x (sym found ∙ ap (slice_get es) at ∙ here.1))
  where
    some_same : (a b : Line) → Some a ≡ Some b → a ≡ b
    some_same a b e = grind (arith, common_steps, e)
