-- A draw keeps the rule.
use Rattle.std.proofs.Common.{◌≡◌, ◌≢◌, ℕ, ◌+◌, ◌%◌, ◌<◌, ◌≤◌, ◌^◌, Bool, true, false, cond, filter, List, [], ◌∷◌, ◌++◌, length, set, Option, Some, refl, sym, ap, ◌∙◌, subst, inl, inr, ⊎_elim, arith, le_of_eq, eqb, eqb-true, ne_eqb, eq-eqb, length-set, length-append, append-nil, mod-eq_of_lt}
use Rattle.std.specs.Prelude.{slice_index, slice_set}
use Rattle.std.proofs.lemmas.List.Elements.{filter-append}
use mathlib.Core.Option.{none, some}
use lib.ListN.{get_elem?}
use Rattle.atomic_table.specs.Table.{Me, step, Allows, keeps}
use Rattle.pg_book.specs.declared.needs.Needs.{Needs}
use Rattle.pg_book.specs.declared.receipt.Receipt.{Receipt}
use Rattle.pg_book.specs.declared.view.View.{View}
use Rattle.pg_book.specs.Needs.{parts_of, entries_at}
use Rattle.pg_book.specs.Lists.{Among, IsPrefix, IsLog, of_part, of_caller}
use Rattle.pg_book.specs.Views.{name_at, list_at, Stands, IsDue, IsListOf, Sound}
use Rattle.pg_book.specs.Kinds.{drawn, receipt_of, with_receipt}
use Rattle.pg_book.specs.Rule.{Truth, Fits, Kept}
use Rattle.pg_book.specs.Tells.{Drew, DrewFor, MayDraw}
use Rattle.pg_book.proofs.ListFacts.{among_push, prefix_refl, prefix_push, prefix_trans, prefix_among, rising_push, numbered_push}
use Rattle.pg_book.proofs.SumFacts.{length-log}
use Rattle.pg_book.proofs.ViewFacts.{nat_cases, Pushes, pushes, pushed_held, pushed_former, pushed_former_other, pushed_here, pushed_else, pushed_prefix, pushed_among}
use Rattle.pg_book.proofs.KeptFacts.{Grows, fits_on, fits_set, held_set}

module _ {E : Type 0} where
  filter_push : (test : Receipt E → Bool) (xs : List (Receipt E)) (r : Receipt E) → filter test (xs ++ r ∷ []) ≡ filter test xs ++ cond (test r) (r ∷ []) []
  filter_push test xs r = filter-append test xs (r ∷ [])

  -- one caller's receipts on one part, after one more
  counted : (c p : ℕ) (xs : List (Receipt E)) (r : Receipt E) (n : ℕ) → length (of_caller c (of_part p xs)) ≤ n → (r.part ≡ p → r.caller ≡ c → length (of_caller c (of_part p xs)) < n) → length (of_caller c (of_part p (xs ++ r ∷ []))) ≤ n
  counted c p xs r n le lt = pick (eqb r.part p) (eqb r.caller c) refl refl
    where
      pick : (a b : Bool) → eqb r.part p ≡ a → eqb r.caller c ≡ b → length (of_caller c (of_part p (xs ++ r ∷ []))) ≤ n
      pick true true e f =
          let s : of_part p (xs ++ r ∷ []) ≡ of_part p xs ++ r ∷ [] = filter_push (λ x. eqb x.part p) xs r ∙ ap (λ (v : Bool). of_part p xs ++ cond v (r ∷ []) []) e in
          let q : of_caller c (of_part p xs ++ r ∷ []) ≡ of_caller c (of_part p xs) ++ r ∷ [] = filter_push (λ x. eqb x.caller c) (of_part p xs) r ∙ ap (λ (v : Bool). of_caller c (of_part p xs) ++ cond v (r ∷ []) []) f in
          let l = ap length (ap (of_caller c) s ∙ q) in
          let m = lt (eqb-true _ _ e) (eqb-true _ _ f) in omega (arith, length-append (of_caller c (of_part p xs)) (r ∷ []))
      pick true false e f =
          let s : of_part p (xs ++ r ∷ []) ≡ of_part p xs ++ r ∷ [] = filter_push (λ x. eqb x.part p) xs r ∙ ap (λ (v : Bool). of_part p xs ++ cond v (r ∷ []) []) e in
          let q : of_caller c (of_part p xs ++ r ∷ []) ≡ of_caller c (of_part p xs) ++ [] = filter_push (λ x. eqb x.caller c) (of_part p xs) r ∙ ap (λ (v : Bool). of_caller c (of_part p xs) ++ cond v (r ∷ []) []) f in
          let l = ap length (ap (of_caller c) s ∙ q ∙ append-nil _) in omega arith
      pick false b e f =
          let s : of_part p (xs ++ r ∷ []) ≡ of_part p xs = filter_push (λ x. eqb x.part p) xs r ∙ ap (λ (v : Bool). of_part p xs ++ cond v (r ∷ []) []) e ∙ append-nil _ in
          let l = ap length (ap (of_caller c) s) in omega arith

  -- a list of receipts of one part, and one more of it
  within_push : (c p : ℕ) (xs : List (Receipt E)) (r : Receipt E) (n : ℕ) → length (of_caller c xs) ≤ n → (r.caller ≡ c → length (of_caller c xs) < n) → length (of_caller c (xs ++ r ∷ [])) ≤ n
  within_push c p xs r n le lt = pick (eqb r.caller c) refl
    where
      pick : (b : Bool) → eqb r.caller c ≡ b → length (of_caller c (xs ++ r ∷ [])) ≤ n
      pick true f =
          let l = ap length (filter_push (λ x. eqb x.caller c) xs r ∙ ap (λ (v : Bool). of_caller c xs ++ cond v (r ∷ []) []) f) in
          let m = lt (eqb-true _ _ f) in omega (arith, length-append (of_caller c xs) (r ∷ []))
      pick false f =
          let l = ap length (filter_push (λ x. eqb x.caller c) xs r ∙ ap (λ (v : Bool). of_caller c xs ++ cond v (r ∷ []) []) f ∙ append-nil _) in omega arith

  module _ (v : View E) (part caller : ℕ) (entry : E) (n : ℕ) (s : Sound v) (may : MayDraw v part caller) (low : v.floor ≤ n) where
    abbrev r : Receipt E
    r = receipt_of part caller entry n

    inside : part < length v.names
    inside = let a = may.is_part in let b = s.whole in omega arith

    p : Pushes v.names (drawn v part caller entry n).names part r
    p = pushes v.names part r inside

    abbrev w : View E
    w = drawn v part caller entry n

    caller_else : (c j : ℕ) → j ≡ parts_of v.needs + c → j ≢ part
    caller_else c j e = let a = may.is_part in λ f. omega arith

    drawn_stands : (x : Receipt E) → Stands v x → Stands w x
    drawn_stands x h = record { part = h.part; there = prefix_among x _ _ (pushed_prefix p x.part) h.there }

    drawn_list : (j : ℕ) → IsListOf v.needs (n + 1) j (list_at w j)
    drawn_list j = ⊎_elim (λ (e : j ≡ part). subst (λ (i : ℕ). IsListOf v.needs (n + 1) i (list_at w i)) (sym e) here) (λ (m : j ≢ part). subst (IsListOf v.needs (n + 1) j) (sym (pushed_else p j m)) (higher j)) (nat_cases j part)
      where
        higher : (j : ℕ) → IsListOf v.needs (n + 1) j (list_at v j)
        higher j = let l = s.lists j in record { rising = l.rising; below = λ x a. let b = l.below x a in omega arith; of_part = l.of_part; callers = l.callers; within = l.within }

        here : IsListOf v.needs (n + 1) part (list_at w part)
        here =
            let l = s.lists part in
            subst (IsListOf v.needs (n + 1) part) (sym (pushed_here p)) record {
              rising = rising_push (list_at v part) r l.rising (λ x a. let b = l.below x a in omega arith);
              below = λ x a. ⊎_elim (λ b. let c = l.below x b in omega arith) (λ (e : r ≡ x). let c : n ≡ x.stamp = ap (λ (z : Receipt E). z.stamp) e in omega arith) (among_push x r (list_at v part) a);
              of_part = λ x h a. ⊎_elim (λ b. l.of_part x h b) (λ (e : r ≡ x). sym (ap (λ (z : Receipt E). z.part) e)) (among_push x r (list_at v part) a);
              callers = λ x h a. ⊎_elim (λ b. l.callers x h b) (λ (e : r ≡ x). subst (λ (z : Receipt E). z.caller < length v.needs) e may.is_caller) (among_push x r (list_at v part) a);
              within = λ c h. within_push c part (list_at v part) r (entries_at v.needs c part) (l.within c h) (λ e. subst (λ (k : ℕ). length (of_caller k (list_at v part)) < entries_at v.needs k part) e may.fewer);
            }

    drawn_sound : Sound w
    drawn_sound = record {
      live = s.live;
      same_needs = s.same_needs;
      small = s.small;
      whole = length-set v.names part (with_receipt (name_at v part) r) ∙ s.whole;
      former = λ j. subst (λ (l : List (Receipt E)). IsPrefix l (list_at w j)) (sym (pushed_former p j)) (prefix_trans _ _ _ (s.former j) (pushed_prefix p j));
      former_other = λ j. subst (λ (l : List (Receipt E)). IsPrefix l (list_at w j)) (sym (pushed_former_other p j)) (prefix_trans _ _ _ (s.former_other j) (pushed_prefix p j));
      lists = drawn_list;
      callers = λ c x a. let k = s.callers c x (subst (Among x) (pushed_else p (parts_of v.needs + c) (caller_else c _ refl)) a) in (k.0, drawn_stands x k.1);
      due = λ x e. let f : r ≡ x = cc in subst (IsDue w) f record { part = may.is_part; held = pushed_held p part ∙ may.holds; before = list_at v part; last = pushed_here p };
      sent = λ x e. drawn_stands x (s.sent x e);
      settled = λ j x h held a.
          ⊎_elim
          (λ (b : Among x (list_at v j)).
          ⊎_elim
          (λ q. absurd (cc (q, may.settled)))
          (λ q. inr (subst (Among x) (sym (pushed_else p (parts_of v.needs + x.caller) (caller_else x.caller _ refl))) q))
          (s.settled j x h (sym (pushed_held p j) ∙ held) b))
          (λ (b : (j ≡ part) × (r ≡ x)). inl (ap Some b.1))
          (pushed_among p j x a);
    }

  kept_draw : (needs : List (List Needs)) (words : List ℕ) (views : List (View E)) (id : ℕ) (v : View E) (part caller : ℕ) (entry : E) → MayDraw v part caller → v.spent ≡ false → get_elem? views id ≡ some v → (h : Kept needs words views)
      → Kept needs (slice_set words 0 ((slice_index words 0 + 1) % 2 ^ 64)) (set views id (drawn v part caller entry (length h.truth.log))) × Sound (drawn v part caller entry (length h.truth.log)) × (v.floor ≤ length h.truth.log)
  kept_draw needs words views id v part caller entry may live at h = (
    record {
      truth = u;
      is = record {
        words_are = ap (λ (ws : List ℕ). slice_set ws 0 ((slice_index ws 0 + 1) % 2 ^ 64)) h.is.words_are ∙ ap (λ (m : ℕ). m ∷ t.registered ∷ []) next;
        few = h.is.few;
        small = h.is.small;
        logged = logged;
        parts = λ k b. pushed_part k (h.is.parts k b);
        empty = λ k b. apart k (λ e. let c = f.registered part may.holds in omega arith) ∙ h.is.empty k b;
        owned = λ k b. held_set views id v w _ k at live (λ x. pushed_held q k ∙ x) (h.is.owned k b);
        fits = fits_set needs u views id w mine (λ j x n e alive. others j x n (h.is.fits j x e alive));
      };
    },
    mine.sound,
    f.floor,
  )
    where
      t : Truth E
      t = h.truth

      f : Fits needs t id v
      f = h.is.fits id v at live

      n : ℕ
      n = length t.log

      r : Receipt E
      r = receipt_of part caller entry n

      w : View E
      w = drawn v part caller entry n

      q : Pushes v.names w.names part r
      q = p v part caller entry n f.sound may f.floor

      in_needs : part < parts_of needs
      in_needs = subst (λ (m : List (List Needs)). part < parts_of m) f.same may.is_part

      u : Truth E
      u = record { log = t.log ++ r ∷ []; registered = t.registered; own = λ k. cond (eqb part k) (t.own k ++ r ∷ []) (t.own k); owner = t.owner }

      longer_log : length u.log ≡ n + 1
      longer_log = length-append t.log (r ∷ [])

      next : (n + 1) % 2 ^ 64 ≡ length u.log
      next = let a = length-log needs t.log h.is.logged in let b = h.is.small in let c : n + 1 < 2 ^ 64 = omega arith in mod-eq_of_lt c ∙ sym longer_log

      here : u.own part ≡ t.own part ++ r ∷ []
      here = ap (λ (b : Bool). cond b (t.own part ++ r ∷ []) (t.own part)) (eq-eqb part part refl)

      apart : (k : ℕ) → k ≢ part → u.own k ≡ t.own k
      apart k m = ap (λ (b : Bool). cond b (t.own k ++ r ∷ []) (t.own k)) (ne_eqb part k (λ e. m (sym e)))

      pushed_part : (k : ℕ) → t.own k ≡ of_part k t.log → u.own k ≡ of_part k u.log
      pushed_part k e = pick (eqb part k) refl
        where
          pick : (b : Bool) → eqb part k ≡ b → cond b (t.own k ++ r ∷ []) (t.own k) ≡ of_part k u.log
          pick true g = ap (λ (l : List (Receipt E)). l ++ r ∷ []) e ∙ sym (filter_push (λ x. eqb x.part k) t.log r ∙ ap (λ (b : Bool). of_part k t.log ++ cond b (r ∷ []) []) g)
          pick false g = e ∙ sym (filter_push (λ x. eqb x.part k) t.log r ∙ ap (λ (b : Bool). of_part k t.log ++ cond b (r ∷ []) []) g ∙ append-nil _)

      grown : (k : ℕ) → IsPrefix (t.own k) (u.own k)
      grown k = ⊎_elim (λ (e : k ≡ part). subst (λ (i : ℕ). IsPrefix (t.own i) (u.own i)) (sym e) (subst (IsPrefix (t.own part)) (sym here) (prefix_push _ r))) (λ (m : k ≢ part). subst (IsPrefix (t.own k)) (sym (apart k m)) (prefix_refl _)) (nat_cases k part)

      grows : Grows t u
      grows = record { log = omega (arith, longer_log); registered = le_of_eq refl; own = grown }

      logged : IsLog needs u.log
      logged = record {
        numbered = numbered_push 0 t.log r h.is.logged.numbered (omega arith);
        parts = λ x a. ⊎_elim (λ b. h.is.logged.parts x b) (λ (e : r ≡ x). subst (λ (z : Receipt E). z.part < parts_of needs) e in_needs) (among_push x r t.log a);
        callers = λ x a. ⊎_elim (λ b. h.is.logged.callers x b) (λ (e : r ≡ x). subst (λ (z : Receipt E). z.caller < length needs) e (subst (λ (m : List (List Needs)). caller < length m) f.same may.is_caller)) (among_push x r t.log a);
        within = λ c k. counted c k t.log r (entries_at needs c k) (h.is.logged.within c k) (λ e g. subst (λ (m : ℕ × ℕ). length (of_caller m.0 (of_part m.1 t.log)) < entries_at needs m.0 m.1) (λ i. (g i, e i)) fewer);
      }
        where
          fewer : length (of_caller caller (of_part part t.log)) < entries_at needs caller part
          fewer = subst (λ (m : List (List Needs)). length (of_caller caller (of_part part t.log)) < entries_at m caller part) f.same (subst (λ (l : List (Receipt E)). length (of_caller caller l) < entries_at v.needs caller part) (f.own part may.holds ∙ h.is.parts part in_needs) may.fewer)

      others : (j : ℕ) (x : View E) → j ≢ id → Fits needs t j x → Fits needs u j x
      others j x m g = fits_on needs t u j x grows g (λ k held. (refl, apart k (λ e. m (sym (g.owner k held) ∙ ap t.owner e ∙ f.owner part may.holds))))

      mine : Fits needs u id w
      mine = record {
        same = f.same;
        floor = le_of_eq (sym longer_log);
        registered = λ k held. f.registered k (sym (pushed_held q k) ∙ held);
        owner = λ k held. f.owner k (sym (pushed_held q k) ∙ held);
        own = λ k held. ⊎_elim
            (λ (e : k ≡ part). subst (λ (i : ℕ). list_at w i ≡ u.own i) (sym e) (pushed_here q ∙ ap (λ l. l ++ r ∷ []) (f.own part may.holds) ∙ sym here))
            (λ (m : k ≢ part). pushed_else q k m ∙ f.own k (sym (pushed_held q k) ∙ held) ∙ sym (apart k m))
            (nat_cases k part);
        known = λ k. ⊎_elim
            (λ (e : k ≡ part). subst (λ (i : ℕ). IsPrefix (list_at w i) (u.own i)) (sym e) (subst (IsPrefix (list_at w part)) (pushed_here q ∙ ap (λ l. l ++ r ∷ []) (f.own part may.holds) ∙ sym here) (prefix_refl _)))
            (λ (m : k ≢ part). subst (λ (l : List (Receipt E)). IsPrefix l (u.own k)) (sym (pushed_else q k m)) (subst (IsPrefix (list_at v k)) (sym (apart k m)) (f.known k)))
            (nat_cases k part);
        sound = drawn_sound v part caller entry n f.sound may f.floor;
      }

  pub draws : (needs : List (List Needs)) (slots id : ℕ) (me : Me (Unit {0}) (View E)) (part caller : ℕ) (entry : E) → MayDraw me.0 part caller → me.0.spent ≡ false → Allows (λ s. Kept needs s.words s.views) slots id me 0 (λ n. (n + 1) % 2 ^ 64) (Drew part caller entry (step slots 0 1 0 none) me)
  draws needs slots id me part caller entry may live s h len at lt =
      let k = kept_draw needs s.words s.views id me.0 part caller entry may live at h in
      let n : length h.truth.log ≡ slice_index s.words 0 = sym (ap (λ (ws : List ℕ). slice_index ws 0) h.is.words_are) in
      let found = slice_index s.words 0 in (
        drawn me.0 part caller entry found,
        keeps,
        tt,
        subst (λ (m : ℕ). Kept needs (slice_set s.words 0 ((slice_index s.words 0 + 1) % 2 ^ 64)) (set s.views id (drawn me.0 part caller entry m))) n k.0,
        record { slots = refl; view = refl; floor = subst (λ (m : ℕ). me.0.floor ≤ m) n k.2; sound = subst (λ (m : ℕ). Sound (drawn me.0 part caller entry m)) n k.1 },
      )

  -- the same, where the entry is picked
  pub draws_as : (needs : List (List Needs)) (slots id : ℕ) (me : Me (Unit {0}) (View E)) (part caller : ℕ) (entry : E) (p c : ℕ) (e : Option E) → p ≡ part → c ≡ caller → e ≡ Some entry → MayDraw me.0 part caller → me.0.spent ≡ false → Allows (λ s. Kept needs s.words s.views) slots id me 0 (λ n. (n + 1) % 2 ^ 64) (DrewFor p c e (step slots 0 1 0 none) me)
  draws_as needs slots id me part caller entry p c e is_p is_c is_e may live =
      subst (λ (x : ℕ × (ℕ × Option E)). Allows (λ s. Kept needs s.words s.views) slots id me 0 (λ n. (n + 1) % 2 ^ 64) (DrewFor x.0 x.1.0 x.1.1 (step slots 0 1 0 none) me)) (λ i. (sym is_p i, (sym is_c i, sym is_e i))) (draws needs slots id me part caller entry may live)

  pub drew_as : (slots : ℕ) (part caller : ℕ) (entry : E) (p c : ℕ) (e : Option E) (me : Me (Unit {0}) (View E)) (found : ℕ) (now : Me (Unit {0}) (View E)) → p ≡ part → c ≡ caller → e ≡ Some entry → DrewFor p c e (step slots 0 1 0 none) me found now → Drew part caller entry (step slots 0 1 0 none) me found now
  drew_as slots part caller entry p c e me found now is_p is_c is_e d =
      subst (λ (x : ℕ × (ℕ × Option E)). DrewFor x.0 x.1.0 x.1.1 (step slots 0 1 0 none) me found now) (λ i. (is_p i, (is_c i, is_e i))) d
