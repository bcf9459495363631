-- A caller's own list that grows by a receipt keeps the rule.
use Rattle.std.proofs.Common.{◌≡◌, ◌≢◌, ℕ, ◌+◌, ◌<◌, Bool, true, false, true≢false, cond, ◌&&◌, List, [], ◌∷◌, ◌++◌, length, set, refl, sym, ap, ◌∙◌, subst, inl, inr, ⊎_elim, arith, le_of_eq, eqb, ne_eqb, eq-eqb, length-set}
use mathlib.Core.Option.{some}
use lib.ListN.{get_elem?}
use Rattle.pg_book.specs.declared.needs.Needs.{Needs}
use Rattle.pg_book.specs.declared.receipt.Receipt.{Receipt}
use Rattle.pg_book.specs.declared.view.View.{View}
use Rattle.pg_book.specs.Needs.{parts_of, names_of}
use Rattle.pg_book.specs.Lists.{Among, IsPrefix, is_above}
use Rattle.pg_book.specs.Views.{name_at, list_at, caller_name, caller_list, Holds, Stands, IsListOf, Sound}
use Rattle.pg_book.specs.Kinds.{with_own, with_receipt, takes}
use Rattle.pg_book.specs.Rule.{Truth, Fits, Kept}
use Rattle.pg_book.proofs.ListFacts.{among_push, prefix_refl, prefix_push, prefix_trans, prefix_among, rising_push, above_all}
use Rattle.pg_book.proofs.ViewFacts.{nat_cases, Pushes, pushes, pushed_held, pushed_former, pushed_former_other, pushed_here, pushed_else, pushed_prefix, pushed_among}
use Rattle.pg_book.proofs.KeptFacts.{Grows, fits_on, fits_set, held_set}

both_true : (b c : Bool) → (b && c) ≡ true → (b ≡ true) × (c ≡ true)
both_true true c h = (refl, h)
both_true false c h = absurd (true≢false (sym h))

module _ {E : Type 0} where
  pub kept_grow : (needs : List (List Needs)) (words : List ℕ) (views : List (View E)) (id : ℕ) (v : View E) (r : Receipt E) → v.spent ≡ false → get_elem? views id ≡ some v → takes v r ≡ true → Stands v r → Kept needs words views → Kept needs words (set views id (with_own v r))
  kept_grow needs words views id v r live at taken stands h = record {
    truth = u;
    is = record {
      words_are = h.is.words_are;
      few = h.is.few;
      small = h.is.small;
      logged = h.is.logged;
      parts = λ j b. apart j (λ e. below_callers j (subst (λ (m : List (List Needs)). j < parts_of m) (sym f.same) b) e) ∙ h.is.parts j b;
      empty = λ j b. apart j (λ e. let c = f.registered k holds in omega arith) ∙ h.is.empty j b;
      owned = λ j b. held_set views id v w _ j at live (λ x. pushed_held q j ∙ x) (h.is.owned j b);
      fits = fits_set needs u views id w mine (λ j x n e alive. others j x n (h.is.fits j x e alive));
    };
  }
    where
      t : Truth E
      t = h.truth

      f : Fits needs t id v
      f = h.is.fits id v at live

      s : Sound v
      s = f.sound

      k : ℕ
      k = caller_name v r.caller

      w : View E
      w = with_own v r

      holds : Holds v k
      holds = (both_true (name_at v (caller_name v r.caller)).held (is_above r.stamp (caller_list v r.caller)) taken).0

      above : is_above r.stamp (list_at v k) ≡ true
      above = (both_true (name_at v (caller_name v r.caller)).held (is_above r.stamp (caller_list v r.caller)) taken).1

      few_names : k < length v.names
      few_names = let a = f.registered k holds in let b = h.is.few in let c = s.whole in let d : names_of v.needs ≡ names_of needs = ap names_of f.same in omega arith

      q : Pushes v.names w.names k r
      q = pushes v.names k r few_names

      below_callers : (j : ℕ) → j < parts_of v.needs → j ≢ k
      below_callers j b e = omega arith

      u : Truth E
      u = record { log = t.log; registered = t.registered; own = λ j. cond (eqb k j) (t.own j ++ r ∷ []) (t.own j); owner = t.owner }

      here : u.own k ≡ t.own k ++ r ∷ []
      here = ap (λ (b : Bool). cond b (t.own k ++ r ∷ []) (t.own k)) (eq-eqb k k refl)

      apart : (j : ℕ) → j ≢ k → u.own j ≡ t.own j
      apart j m = ap (λ (b : Bool). cond b (t.own j ++ r ∷ []) (t.own j)) (ne_eqb k j (λ e. m (sym e)))

      grows : Grows t u
      grows = record { log = le_of_eq refl; registered = le_of_eq refl; own = λ j. ⊎_elim (λ (e : j ≡ k). subst (λ (i : ℕ). IsPrefix (t.own i) (u.own i)) (sym e) (subst (IsPrefix (t.own k)) (sym here) (prefix_push _ r))) (λ (m : j ≢ k). subst (IsPrefix (t.own j)) (sym (apart j m)) (prefix_refl _)) (nat_cases j k) }

      others : (j : ℕ) (x : View E) → j ≢ id → Fits needs t j x → Fits needs u j x
      others j x m g = fits_on needs t u j x grows g (λ i held. (refl, apart i (λ e. m (sym (g.owner i held) ∙ ap t.owner e ∙ f.owner k holds))))

      w_stands : (x : Receipt E) → Stands v x → Stands w x
      w_stands x d = record { part = d.part; there = prefix_among x _ _ (pushed_prefix q x.part) d.there }

      lists_here : IsListOf v.needs v.floor k (list_at w k)
      lists_here =
          let l = s.lists k in
          subst (IsListOf v.needs v.floor k) (sym (pushed_here q)) record {
            rising = rising_push (list_at v k) r l.rising (above_all r.stamp (list_at v k) above);
            below = λ x a. ⊎_elim (λ b. l.below x b) (λ (e : r ≡ x). subst (λ (z : Receipt E). z.stamp < v.floor) e ((s.lists r.part).below r stands.there)) (among_push x r (list_at v k) a);
            of_part = λ x b a. absurd (below_callers k b refl);
            callers = λ x b a. absurd (below_callers k b refl);
            within = λ c b. absurd (below_callers k b refl);
          }

      w_sound : Sound w
      w_sound = record {
        live = s.live;
        same_needs = s.same_needs;
        small = s.small;
        whole = length-set v.names k (with_receipt (name_at v k) r) ∙ s.whole;
        former = λ j. subst (λ (l : List (Receipt E)). IsPrefix l (list_at w j)) (sym (pushed_former q j)) (prefix_trans _ _ _ (s.former j) (pushed_prefix q j));
        former_other = λ j. subst (λ (l : List (Receipt E)). IsPrefix l (list_at w j)) (sym (pushed_former_other q j)) (prefix_trans _ _ _ (s.former_other j) (pushed_prefix q j));
        lists = λ j. ⊎_elim (λ (e : j ≡ k). subst (λ (i : ℕ). IsListOf v.needs v.floor i (list_at w i)) (sym e) lists_here) (λ (m : j ≢ k). subst (IsListOf v.needs v.floor j) (sym (pushed_else q j m)) (s.lists j)) (nat_cases j k);
        callers = λ c x a. ⊎_elim
            (λ (b : Among x (caller_list v c)). let d = s.callers c x b in (d.0, w_stands x d.1))
            (λ (b : (parts_of v.needs + c ≡ k) × (r ≡ x)). (let e : r.caller ≡ x.caller = ap (λ (z : Receipt E). z.caller) b.1 in let g = b.0 in omega arith, subst (Stands w) b.1 (w_stands r stands)))
            (pushed_among q (parts_of v.needs + c) x a);
        due = λ x e. let d = s.due x e in record { part = d.part; held = pushed_held q x.part ∙ d.held; before = d.before; last = pushed_else q x.part (below_callers x.part d.part) ∙ d.last };
        sent = λ x e. w_stands x (s.sent x e);
        settled = λ j x b held a. ⊎_elim (λ d. inl d) (λ d. inr (prefix_among x _ _ (pushed_prefix q (parts_of v.needs + x.caller)) d)) (s.settled j x b (sym (pushed_held q j) ∙ held) (subst (Among x) (pushed_else q j (below_callers j b)) a));
      }

      mine : Fits needs u id w
      mine = record {
        same = f.same;
        floor = f.floor;
        registered = λ j held. f.registered j (sym (pushed_held q j) ∙ held);
        owner = λ j held. f.owner j (sym (pushed_held q j) ∙ held);
        own = λ j held. ⊎_elim
            (λ (e : j ≡ k). subst (λ (i : ℕ). list_at w i ≡ u.own i) (sym e) (pushed_here q ∙ ap (λ l. l ++ r ∷ []) (f.own k holds) ∙ sym here))
            (λ (m : j ≢ k). pushed_else q j m ∙ f.own j (sym (pushed_held q j) ∙ held) ∙ sym (apart j m))
            (nat_cases j k);
        known = λ j. ⊎_elim
            (λ (e : j ≡ k). subst (λ (i : ℕ). IsPrefix (list_at w i) (u.own i)) (sym e) (subst (IsPrefix (list_at w k)) (pushed_here q ∙ ap (λ l. l ++ r ∷ []) (f.own k holds) ∙ sym here) (prefix_refl _)))
            (λ (m : j ≢ k). subst (λ (l : List (Receipt E)). IsPrefix l (u.own j)) (sym (pushed_else q j m)) (subst (IsPrefix (list_at v j)) (sym (apart j m)) (f.known j)))
            (nat_cases j k);
        sound = w_sound;
      }
