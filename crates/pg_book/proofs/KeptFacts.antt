-- How a step keeps what the rule says of the other views.
use Rattle.std.proofs.Common.{◌≡◌, ◌≢◌, ℕ, zero, suc, ◌<◌, ◌≤◌, false, List, [], ◌∷◌, length, set, sym, ◌∙◌, subst, ⊎_elim, arith, le_trans, lt_of_lt_of_le}
use mathlib.Core.Option.{some, some-injective, some-ne-none}
use lib.ListN.{get_elem?}
use Rattle.atomic_table.proofs.Lists.{at_set, set_here, set_else}
use Rattle.pg_book.specs.declared.needs.Needs.{Needs}
use Rattle.pg_book.specs.declared.view.View.{View}
use Rattle.pg_book.specs.Lists.{IsPrefix}
use Rattle.pg_book.specs.Views.{Holds}
use Rattle.pg_book.specs.Rule.{Truth, HoldsAt, Fits}
use Rattle.pg_book.proofs.ListFacts.{prefix_trans}
use Rattle.pg_book.proofs.ViewFacts.{nat_cases}

pub at_below : {A : Type 0} (xs : List A) (i : ℕ) (a : A) → get_elem? xs i ≡ some a → i < length xs
at_below [] i a e = absurd (some-ne-none a (sym e))
at_below (x ∷ xs) zero a e = omega arith
at_below (x ∷ xs) (suc i) a e = let h = at_below xs i a e in omega arith

module _ {E : Type 0} where
  -- what is known may grow
  pub record Grows (t u : Truth E) : Type 0 where
    pub log : length t.log ≤ length u.log
    pub registered : t.registered ≤ u.registered
    pub own : (k : ℕ) → IsPrefix (t.own k) (u.own k)

  pub fits_on : (needs : List (List Needs)) (t u : Truth E) (seat : ℕ) (v : View E) → Grows t u → Fits needs t seat v → ((k : ℕ) → Holds v k → (u.owner k ≡ t.owner k) × (u.own k ≡ t.own k)) → Fits needs u seat v
  fits_on needs t u seat v g f h = record {
    same = f.same;
    floor = le_trans f.floor g.log;
    registered = λ k held. lt_of_lt_of_le (f.registered k held) g.registered;
    owner = λ k held. (h k held).0 ∙ f.owner k held;
    own = λ k held. f.own k held ∙ sym (h k held).1;
    known = λ k. prefix_trans _ _ _ (f.known k) (g.own k);
    sound = f.sound;
  }

  pub fits_set : (needs : List (List Needs)) (u : Truth E) (views : List (View E)) (id : ℕ) (w : View E) → Fits needs u id w → ((j : ℕ) (x : View E) → j ≢ id → get_elem? views j ≡ some x → x.spent ≡ false → Fits needs u j x) → (j : ℕ) (x : View E) → get_elem? (set views id w) j ≡ some x → x.spent ≡ false → Fits needs u j x
  fits_set needs u views id w mine others j x e live =
      ⊎_elim
      (λ (p : (j ≡ id) × (w ≡ x)). subst (λ (y : ℕ × View E). Fits needs u y.0 y.1) (λ i. (sym p.0 i, p.1 i)) mine)
      (λ (p : (j ≢ id) × (get_elem? views j ≡ some x)). others j x p.0 p.1 live)
      (at_set views id j w x e)

  -- a name stays held where its seat keeps it
  pub held_set : (views : List (View E)) (id : ℕ) (v w : View E) (seat k : ℕ) → get_elem? views id ≡ some v → w.spent ≡ false → (Holds v k → Holds w k) → HoldsAt views seat k → HoldsAt (set views id w) seat k
  held_set views id v w seat k there live keeps h =
      ⊎_elim
      (λ (e : seat ≡ id).
      let same : h.view ≡ v = some-injective _ _ (sym h.there ∙ subst (λ (i : ℕ). get_elem? views i ≡ some v) (sym e) there) in
      let r : HoldsAt (set views id w) id k = record { view = w; there = set_here views id w (at_below views id v there); live = live; holds = keeps (subst (λ (x : View E). Holds x k) same h.holds) } in
      subst (λ (i : ℕ). HoldsAt (set views id w) i k) (sym e) r)
      (λ (n : seat ≢ id). record { view = h.view; there = set_else views id seat w n ∙ h.there; live = h.live; holds = h.holds })
      (nat_cases seat id)
