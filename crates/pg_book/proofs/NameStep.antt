-- Registering a name keeps the rule.
use Rattle.std.proofs.Common.{◌≡◌, ◌≢◌, ◌⊎◌, ℕ, ◌+◌, ◌<◌, Bool, true, false, cond, List, [], ◌∷◌, length, set, MatchBool, ◌==◌, refl, sym, ap, ◌∙◌, subst, inl, inr, ⊎_elim, arith, le_of_eq, eqb, eqb-true, ne_eqb, eq-eqb, length-set}
use Rattle.std.specs.Prelude.{slice_index, slice_set}
use mathlib.Core.Option.{none, some}
use lib.ListN.{get_elem?}
use prog.Atomic.{either}
use Rattle.atomic_table.specs.Table.{Me, step, Allows, Act, Valid, carried_after, keeps}
use Rattle.pg_book.specs.declared.needs.Needs.{Needs}
use Rattle.pg_book.specs.declared.receipt.Receipt.{Receipt}
use Rattle.pg_book.specs.declared.view.Name.{Name}
use Rattle.pg_book.specs.declared.view.View.{View}
use Rattle.pg_book.specs.Needs.{parts_of, names_of}
use Rattle.pg_book.specs.Lists.{Among, IsPrefix}
use Rattle.pg_book.specs.Views.{blank, name_at, list_at, Holds, Stands, IsListOf, Sound}
use Rattle.pg_book.specs.Kinds.{named, fresh}
use Rattle.pg_book.specs.Rule.{Truth, HoldsAt, Fits, Kept}
use Rattle.pg_book.specs.Tells.{Registered}
use Rattle.pg_book.proofs.ListFacts.{prefix_nil, prefix_refl}
use Rattle.pg_book.proofs.ViewFacts.{nat_cases, set_same, set_other}
use Rattle.pg_book.proofs.KeptFacts.{Grows, fits_on, fits_set, held_set, at_below}
use Rattle.atomic_table.proofs.Lists.{set_here}

module _ {E : Type 0} where
  prefix_of_nil : (xs : List (Receipt E)) → IsPrefix xs [] → xs ≡ []
  prefix_of_nil [] p = refl
  prefix_of_nil (x ∷ xs) p = absurd (cc (p.1))

  module _ (v : View E) (k : ℕ) (within : k < length v.names) (empty : list_at v k ≡ []) where
    pub named_here : name_at (named v k) k ≡ fresh
    named_here = set_same v.names k fresh blank within

    named_else : (j : ℕ) → j ≢ k → name_at (named v k) j ≡ name_at v j
    named_else j n = set_other v.names k j fresh blank n

    pub named_list : (j : ℕ) → list_at (named v k) j ≡ list_at v j
    named_list j =
        ⊎_elim
        (λ (e : j ≡ k). ap (λ (i : ℕ). list_at (named v k) i) e ∙ ap (λ (n : Name E). n.list) named_here ∙ sym empty ∙ sym (ap (λ (i : ℕ). list_at v i) e))
        (λ (n : j ≢ k). ap (λ (n : Name E). n.list) (named_else j n))
        (nat_cases j k)

    pub named_keeps : (j : ℕ) → Holds v j → Holds (named v k) j
    named_keeps j h =
        ⊎_elim
        (λ (e : j ≡ k). ap (λ (i : ℕ). (name_at (named v k) i).held) e ∙ ap (λ (n : Name E). n.held) named_here)
        (λ (n : j ≢ k). ap (λ (n : Name E). n.held) (named_else j n) ∙ h)
        (nat_cases j k)

    pub named_held : (j : ℕ) → Holds (named v k) j → (j ≡ k) ⊎ Holds v j
    named_held j h = ⊎_elim (λ (e : j ≡ k). inl e) (λ (n : j ≢ k). inr (sym (ap (λ (n : Name E). n.held) (named_else j n)) ∙ h)) (nat_cases j k)

    named_old : (j : ℕ) (F : Name E → List (Receipt E)) → F fresh ≡ [] → IsPrefix (F (name_at v j)) (list_at v j) → IsPrefix (F (name_at (named v k) j)) (list_at (named v k) j)
    named_old j F nil p =
        ⊎_elim
        (λ (e : j ≡ k). subst (λ (l : List (Receipt E)). IsPrefix l (list_at (named v k) j)) (sym (ap (λ (i : ℕ). F (name_at (named v k) i)) e ∙ ap F named_here ∙ nil)) (prefix_nil _))
        (λ (n : j ≢ k). subst (λ (m : Name E). IsPrefix (F m) m.list) (sym (named_else j n)) p)
        (nat_cases j k)

    named_stands : (r : Receipt E) → Stands v r → Stands (named v k) r
    named_stands r h = record { part = h.part; there = subst (Among r) (sym (named_list r.part)) h.there }

    named_sound : Sound v → Sound (named v k)
    named_sound s = record {
      live = s.live;
      same_needs = s.same_needs;
      small = s.small;
      whole = length-set v.names k fresh ∙ s.whole;
      former = λ j. named_old j (λ n. n.former) refl (s.former j);
      former_other = λ j. named_old j (λ n. n.former_other) refl (s.former_other j);
      lists = λ j. subst (IsListOf v.needs v.floor j) (sym (named_list j)) (s.lists j);
      callers = λ c r a. let q = s.callers c r (subst (Among r) (named_list (parts_of v.needs + c)) a) in (q.0, named_stands r q.1);
      due = λ r e. let d = s.due r e in record { part = d.part; held = named_keeps r.part d.held; before = d.before; last = named_list r.part ∙ d.last };
      sent = λ r e. named_stands r (s.sent r e);
      settled = λ j r h held a.
          let there : Among r (list_at v j) = subst (Among r) (named_list j) a in
          ⊎_elim
          (λ (e : j ≡ k). absurd (subst (Among r) (ap (λ (i : ℕ). list_at v i) e ∙ empty) there))
          (λ (b : Holds v j). ⊎_elim (λ q. inl q) (λ q. inr (subst (Among r) (sym (named_list (parts_of v.needs + r.caller))) q)) (s.settled j r h b there))
          (named_held j held);
    }

  hit : (needs : List (List Needs)) (words : List ℕ) (views : List (View E)) (id : ℕ) (v : View E) (k : ℕ) → k < names_of needs → v.spent ≡ false → get_elem? views id ≡ some v → (h : Kept needs words views) → h.truth.registered ≡ k
      → Kept needs (slice_set words 1 (k + 1)) (set views id (named v k)) × Sound (named v k)
  hit needs words views id v k lt live at h is = (
    record {
      truth = u;
      is = record {
        words_are = ap (λ (ws : List ℕ). slice_set ws 1 (k + 1)) h.is.words_are;
        few = omega arith;
        small = h.is.small;
        logged = h.is.logged;
        parts = h.is.parts;
        empty = λ j b. h.is.empty j (omega arith);
        owned = owned;
        fits = fits_set needs u views id (named v k) mine (λ j x n e alive. others j x (h.is.fits j x e alive));
      };
    },
    mine.sound,
  )
    where
      t : Truth E
      t = h.truth

      f : Fits needs t id v
      f = h.is.fits id v at live

      u : Truth E
      u = record { log = t.log; registered = k + 1; own = t.own; owner = λ j. cond (eqb j k) id (t.owner j) }

      at_k : u.owner k ≡ id
      at_k = ap (λ (b : Bool). cond b id (t.owner k)) (eq-eqb k k refl)

      apart : (j : ℕ) → j ≢ k → u.owner j ≡ t.owner j
      apart j n = ap (λ (b : Bool). cond b id (t.owner j)) (ne_eqb j k n)

      grows : Grows t u
      grows = record { log = le_of_eq refl; registered = omega arith; own = λ j. prefix_refl (t.own j) }

      others : (j : ℕ) (x : View E) → Fits needs t j x → Fits needs u j x
      others j x g = fits_on needs t u j x grows g (λ i held. let b = g.registered i held in (apart i (λ e. omega arith), refl))

      within : k < length v.names
      within = subst (λ (n : ℕ). k < n) (sym f.sound.whole) (subst (λ (n : List (List Needs)). k < names_of n) (sym f.same) lt)

      nothing : t.own k ≡ []
      nothing = h.is.empty k (omega arith)

      empty : list_at v k ≡ []
      empty = prefix_of_nil (list_at v k) (subst (IsPrefix (list_at v k)) nothing (f.known k))

      mine : Fits needs u id (named v k)
      mine = record {
        same = f.same;
        floor = f.floor;
        registered = λ j held. ⊎_elim (λ (e : j ≡ k). omega arith) (λ (b : Holds v j). let c = f.registered j b in omega arith) (named_held v k within empty j held);
        owner = λ j held. ⊎_elim (λ (e : j ≡ k). ap u.owner e ∙ at_k) (λ (b : Holds v j). let c = f.registered j b in apart j (λ e. omega arith) ∙ f.owner j b) (named_held v k within empty j held);
        own = λ j held. ⊎_elim (λ (e : j ≡ k). named_list v k within empty j ∙ ap (λ (i : ℕ). list_at v i) e ∙ empty ∙ sym nothing ∙ sym (ap t.own e)) (λ (b : Holds v j). named_list v k within empty j ∙ f.own j b) (named_held v k within empty j held);
        known = λ j. subst (λ (l : List (Receipt E)). IsPrefix l (t.own j)) (sym (named_list v k within empty j)) (f.known j);
        sound = named_sound v k within empty f.sound;
      }

      owned : (j : ℕ) → j < k + 1 → HoldsAt (set views id (named v k)) (u.owner j) j
      owned j b =
          ⊎_elim
          (λ (e : j ≡ k).
          let here : HoldsAt (set views id (named v k)) id k = record { view = named v k; there = set_here views id (named v k) (at_below views id v at); live = live; holds = ap (λ (n : Name E). n.held) (named_here v k within empty) } in
          subst (λ (i : ℕ). HoldsAt (set views id (named v k)) (u.owner i) i) (sym e) (subst (λ (o : ℕ). HoldsAt (set views id (named v k)) o k) (sym at_k) here))
          (λ (n : j ≢ k). subst (λ (o : ℕ). HoldsAt (set views id (named v k)) o j) (sym (apart j n)) (held_set views id v (named v k) _ j at live (named_keeps v k within empty j) (h.is.owned j (omega arith))))
          (nat_cases j k)

  miss : (needs : List (List Needs)) (words : List ℕ) (views : List (View E)) (id : ℕ) (v : View E) → v.spent ≡ false → get_elem? views id ≡ some v → (h : Kept needs words views) → Kept needs (slice_set words 1 (slice_index words 1)) (set views id v) × Sound v
  miss needs words views id v live at h = (
    record {
      truth = h.truth;
      is = record {
        words_are = ap (λ (ws : List ℕ). slice_set ws 1 (slice_index ws 1)) h.is.words_are;
        few = h.is.few;
        small = h.is.small;
        logged = h.is.logged;
        parts = h.is.parts;
        empty = h.is.empty;
        owned = λ k b. held_set views id v v _ k at live (λ x. x) (h.is.owned k b);
        fits = fits_set needs h.truth views id v (h.is.fits id v at live) (λ j x _ e alive. h.is.fits j x e alive);
      };
    },
    (h.is.fits id v at live).sound,
  )

  pub registers : (needs : List (List Needs)) (slots id : ℕ) (me : Me (Unit {0}) (View E)) (k : ℕ) → k < names_of me.0.needs → me.0.spent ≡ false → Allows (λ s. Kept needs s.words s.views) slots id me 1 (λ n. either (n == k) (k + 1) n) (Registered (step slots 1 k (k + 1) none) me)
  registers needs slots id me k lt live s h len at small =
      pick (slice_index s.words 1 == k) refl
    where
      found : ℕ
      found = slice_index s.words 1

      pick : (b : Bool) → (found == k) ≡ b → (w : View E) × (a : Act (Unit {0})) × Valid s.homes me.1 a × Kept needs (slice_set s.words 1 (either (found == k) (k + 1) found)) (set s.views id w) × Registered (step slots 1 k (k + 1) none) me found (w, carried_after me.1 a)
      pick true e =
          let n : h.truth.registered ≡ k = sym (ap (λ (ws : List ℕ). slice_index ws 1) h.is.words_are) ∙ eqb-true _ _ e in
          let r = hit needs s.words s.views id me.0 k (subst (λ (m : List (List Needs)). k < names_of m) (h.is.fits id me.0 at live).same lt) live at h n in (
            named me.0 k,
            keeps,
            tt,
            subst (λ (b : Bool). Kept needs (slice_set s.words 1 (either b (k + 1) found)) (set s.views id (named me.0 k))) (sym e) r.0,
            record { slots = refl; view = subst (λ (b : Bool). MatchBool b (named me.0 k ≡ named me.0 k) (named me.0 k ≡ me.0)) (sym e) refl; sound = r.1 },
          )
      pick false e =
          let r = miss needs s.words s.views id me.0 live at h in (
            me.0,
            keeps,
            tt,
            subst (λ (b : Bool). Kept needs (slice_set s.words 1 (either b (k + 1) found)) (set s.views id me.0)) (sym e) r.0,
            record { slots = refl; view = subst (λ (b : Bool). MatchBool b (me.0 ≡ named me.0 k) (me.0 ≡ me.0)) (sym e) refl; sound = r.1 },
          )
