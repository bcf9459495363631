-- A view's names, read after a write, a note or a receipt more.
use Rattle.std.proofs.Common.{◌≡◌, ◌≢◌, ◌⊎◌, ℕ, zero, suc, ◌<◌, true≢false, List, [], ◌∷◌, ◌++◌, map, length, get_or, set, replicate, refl, sym, ap, ◌∙◌, subst, inl, inr, ⊎_elim, arith}
use mathlib.Core.Logic.{dite}
use native.Mathlib.Decide.{ℕ_discrete}
use Rattle.pg_book.specs.declared.receipt.Receipt.{Receipt}
use Rattle.pg_book.specs.declared.view.Name.{Name}
use Rattle.pg_book.specs.declared.view.View.{View}
use Rattle.pg_book.specs.Lists.{Among, IsPrefix}
use Rattle.pg_book.specs.Views.{blank, name_at, list_at, Holds, Stands, IsDue}
use Rattle.pg_book.specs.Kinds.{not_held, note, with_receipt}
use Rattle.pg_book.proofs.ListFacts.{among_last, among_push, prefix_refl, prefix_push}

pub nat_cases : (j k : ℕ) → (j ≡ k) ⊎ (j ≢ k)
nat_cases j k = dite (ℕ_discrete j k) (λ e. inl e) (λ n. inr n)

module _ {A : Type 0} where
  pub set_same : (xs : List A) (k : ℕ) (a d : A) → k < length xs → get_or (set xs k a) k d ≡ a
  set_same [] k a d h = absurd (omega arith)
  set_same (x ∷ xs) zero a d h = refl
  set_same (x ∷ xs) (suc k) a d h = set_same xs k a d (omega arith)

  pub set_other : (xs : List A) (k j : ℕ) (a d : A) → j ≢ k → get_or (set xs k a) j d ≡ get_or xs j d
  set_other [] k j a d n = refl
  set_other (x ∷ xs) zero zero a d n = absurd (n refl)
  set_other (x ∷ xs) zero (suc j) a d n = refl
  set_other (x ∷ xs) (suc k) zero a d n = refl
  set_other (x ∷ xs) (suc k) (suc j) a d n = set_other xs k j a d (λ e. n (ap suc e))

  pub get_or-replicated : (n k : ℕ) (a : A) → get_or (replicate n a) k a ≡ a
  get_or-replicated zero k a = refl
  get_or-replicated (suc n) zero a = refl
  get_or-replicated (suc n) (suc k) a = get_or-replicated n k a

module _ {E : Type 0} where
  get_or-not_held : (names : List (Name E)) (k : ℕ) → get_or (map not_held names) k blank ≡ not_held (get_or names k blank)
  get_or-not_held [] k = refl
  get_or-not_held (x ∷ xs) zero = refl
  get_or-not_held (x ∷ xs) (suc k) = get_or-not_held xs k

  pub note_name : (v : View E) (k : ℕ) → name_at (note v) k ≡ not_held (name_at v k)
  note_name v k = get_or-not_held v.names k

  pub note_list : (v : View E) (k : ℕ) → list_at (note v) k ≡ list_at v k
  note_list v k = ap (λ (n : Name E). n.list) (note_name v k)

  pub note_holds : (v : View E) (k : ℕ) → Holds (note v) k → ⊥
  note_holds v k h = true≢false (sym h ∙ ap (λ (n : Name E). n.held) (note_name v k))

  -- the names where one list has a receipt more at its end
  pub record Pushes (names now : List (Name E)) (k : ℕ) (r : Receipt E) : Type 0 where
    pub here : get_or now k blank ≡ with_receipt (get_or names k blank) r
    pub else : (j : ℕ) → j ≢ k → get_or now j blank ≡ get_or names j blank

  pub pushes : (names : List (Name E)) (k : ℕ) (r : Receipt E) → k < length names → Pushes names (set names k (with_receipt (get_or names k blank) r)) k r
  pushes names k r h = record { here = set_same names k (with_receipt (get_or names k blank) r) blank h; else = λ j n. set_other names k j (with_receipt (get_or names k blank) r) blank n }

  module _ {names now : List (Name E)} {k : ℕ} {r : Receipt E} (p : Pushes names now k r) where
    -- nothing else of a name changes
    pub pushed_held : (j : ℕ) → (get_or now j blank).held ≡ (get_or names j blank).held
    pushed_held j = ⊎_elim (λ (e : j ≡ k). subst (λ (i : ℕ). (get_or now i blank).held ≡ (get_or names i blank).held) (sym e) (ap (λ (n : Name E). n.held) p.here)) (λ (n : j ≢ k). ap (λ (n : Name E). n.held) (p.else j n)) (nat_cases j k)

    pub pushed_former : (j : ℕ) → (get_or now j blank).former ≡ (get_or names j blank).former
    pushed_former j = ⊎_elim (λ (e : j ≡ k). subst (λ (i : ℕ). (get_or now i blank).former ≡ (get_or names i blank).former) (sym e) (ap (λ (n : Name E). n.former) p.here)) (λ (n : j ≢ k). ap (λ (n : Name E). n.former) (p.else j n)) (nat_cases j k)

    pub pushed_former_other : (j : ℕ) → (get_or now j blank).former_other ≡ (get_or names j blank).former_other
    pushed_former_other j = ⊎_elim (λ (e : j ≡ k). subst (λ (i : ℕ). (get_or now i blank).former_other ≡ (get_or names i blank).former_other) (sym e) (ap (λ (n : Name E). n.former_other) p.here)) (λ (n : j ≢ k). ap (λ (n : Name E). n.former_other) (p.else j n)) (nat_cases j k)

    pub pushed_here : (get_or now k blank).list ≡ (get_or names k blank).list ++ r ∷ []
    pushed_here = ap (λ (n : Name E). n.list) p.here

    pub pushed_else : (j : ℕ) → j ≢ k → (get_or now j blank).list ≡ (get_or names j blank).list
    pushed_else j n = ap (λ (n : Name E). n.list) (p.else j n)

    pub pushed_prefix : (j : ℕ) → IsPrefix (get_or names j blank).list (get_or now j blank).list
    pushed_prefix j =
        ⊎_elim
        (λ (e : j ≡ k). subst (λ (i : ℕ). IsPrefix (get_or names i blank).list (get_or now i blank).list) (sym e) (subst (IsPrefix (get_or names k blank).list) (sym pushed_here) (prefix_push _ r)))
        (λ (n : j ≢ k). subst (IsPrefix (get_or names j blank).list) (sym (pushed_else j n)) (prefix_refl _))
        (nat_cases j k)

    pub pushed_among : (j : ℕ) (x : Receipt E) → Among x (get_or now j blank).list → Among x (get_or names j blank).list ⊎ ((j ≡ k) × (r ≡ x))
    pushed_among j x a =
        ⊎_elim
        (λ (e : j ≡ k). ⊎_elim (λ (b : Among x (get_or names k blank).list). inl (subst (λ (i : ℕ). Among x (get_or names i blank).list) (sym e) b)) (λ (f : r ≡ x). inr (e, f)) (among_push x r (get_or names k blank).list (subst (Among x) pushed_here (subst (λ (i : ℕ). Among x (get_or now i blank).list) e a))))
        (λ (n : j ≢ k). inl (subst (Among x) (pushed_else j n) a))
        (nat_cases j k)

  -- a due receipt stands in its part's list
  pub due_stands : (v : View E) (r : Receipt E) → IsDue v r → Stands v r
  due_stands v r d = record { part = d.part; there = subst (Among r) (sym d.last) (among_last r d.before) }
