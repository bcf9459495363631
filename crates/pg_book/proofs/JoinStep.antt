-- A join keeps the rule.
use Rattle.std.proofs.Common.{◌≡◌, ◌≢◌, ◌⊎◌, ℕ, zero, suc, ◌+◌, ◌<◌, ◌≤◌, max, Bool, true, false, true≢false, cond, ◌||◌, List, [], ◌∷◌, length, get_or, set, Option, Some, None, refl, sym, ap, ◌∙◌, subst, inl, inr, ⊎_elim, arith, le_of_eq, le_of_lt, lt_of_lt_of_le, eqb, ltb, ltb-true, ltb-false, ne_eqb, eq-eqb}
use mathlib.Core.Option.{some, some-injective}
use lib.ListN.{get_elem?}
use Rattle.atomic_table.specs.Table.{Joins}
use Rattle.atomic_table.proofs.Lists.{at_set, set_here, set_else}
use Rattle.pg_book.specs.declared.needs.Needs.{Needs}
use Rattle.pg_book.specs.declared.receipt.Receipt.{Receipt}
use Rattle.pg_book.specs.declared.view.Name.{Name}
use Rattle.pg_book.specs.declared.view.View.{View}
use Rattle.pg_book.specs.Needs.{parts_of, names_of}
use Rattle.pg_book.specs.Lists.{Among, IsPrefix, has_stamp, longer}
use Rattle.pg_book.specs.Views.{blank, name_at, list_at, caller_list, Holds, Stands, IsListOf, Sound}
use Rattle.pg_book.specs.Kinds.{spent_view, merged, merged_all, merged_views, due_still, takes, with_own, grown, joined}
use Rattle.pg_book.specs.Rule.{Truth, HoldsAt, Fits, IsTruth, Kept}
use Rattle.pg_book.proofs.ListFacts.{prefix_refl, prefix_among, prefix_compare, has_among, among_filter, numbered_same}
use Rattle.pg_book.proofs.ViewFacts.{nat_cases, due_stands}
use Rattle.pg_book.proofs.KeptFacts.{Grows, fits_on, held_set, at_below}
use Rattle.pg_book.proofs.GrowStep.{kept_grow}

one_true : (b c : Bool) → (b || c) ≡ true → (b ≡ true) ⊎ (c ≡ true)
one_true true c h = inl refl
one_true false c h = inr h

module _ {E : Type 0} where
  pub length-merged_all : (xs ys : List (Name E)) → length (merged_all xs ys) ≡ length xs
  length-merged_all [] ys = refl
  length-merged_all (x ∷ xs) [] = ap suc (length-merged_all xs [])
  length-merged_all (x ∷ xs) (y ∷ ys) = ap suc (length-merged_all xs ys)

  merged_at : (xs ys : List (Name E)) (k : ℕ) → length xs ≡ length ys → get_or (merged_all xs ys) k blank ≡ merged (get_or xs k blank) (get_or ys k blank)
  merged_at [] [] k e = refl
  merged_at [] (y ∷ ys) k e = absurd (omega arith)
  merged_at (x ∷ xs) [] k e = absurd (omega arith)
  merged_at (x ∷ xs) (y ∷ ys) zero e = refl
  merged_at (x ∷ xs) (y ∷ ys) (suc k) e = merged_at xs ys k (omega arith)

  pub merged_name : (v w : View E) (k : ℕ) → length v.names ≡ length w.names → name_at (merged_views v w) k ≡ merged (name_at v k) (name_at w k)
  merged_name v w k e = merged_at v.names w.names k e

  -- l is the list that a join takes of two beginnings of one list o, of which some are the whole of it
  record Takes (l a b o : List (Receipt E)) (held : Bool) : Type 0 where
    one : (l ≡ a) ⊎ (l ≡ b)
    left : IsPrefix a l
    right : IsPrefix b l
    own : held ≡ true → l ≡ o

  takes_of : (h g : Bool) (a b o : List (Receipt E)) → (h ≡ true → a ≡ o) → (g ≡ true → b ≡ o) → IsPrefix a o → IsPrefix b o → Takes (cond h a (cond g b (longer a b))) a b o (h || g)
  takes_of true g a b o p q x y = record { one = inl refl; left = prefix_refl a; right = subst (IsPrefix b) (sym (p refl)) y; own = λ _. p refl }
  takes_of false true a b o p q x y = record { one = inr refl; left = subst (IsPrefix a) (sym (q refl)) x; right = prefix_refl b; own = λ _. q refl }
  takes_of false false a b o p q x y = pick (ltb (length a) (length b)) refl
    where
      pick : (c : Bool) → ltb (length a) (length b) ≡ c → Takes (cond c b a) a b o false
      pick true e = record { one = inr refl; left = prefix_compare a b o x y (le_of_lt (ltb-true _ _ e)); right = prefix_refl b; own = λ f. absurd (true≢false (sym f)) }
      pick false e = record { one = inl refl; left = prefix_refl a; right = prefix_compare b a o y x (ltb-false _ _ e); own = λ f. absurd (true≢false (sym f)) }

  raised : (needs : List (List Needs)) (f g k : ℕ) (xs : List (Receipt E)) → f ≤ g → IsListOf needs f k xs → IsListOf needs g k xs
  raised needs f g k xs le l = record { rising = l.rising; below = λ r a. lt_of_lt_of_le (l.below r a) le; of_part = l.of_part; callers = l.callers; within = l.within }

  -- a receipt that stands in a view's list of its part is one of all
  in_log : (needs : List (List Needs)) (words : List ℕ) (views : List (View E)) (t : Truth E) (id : ℕ) (v : View E) (r : Receipt E) → IsTruth needs words views t → Fits needs t id v → Stands v r → Among r t.log
  in_log needs words views t id v r h f s =
      let p : r.part < parts_of needs = subst (λ (n : List (List Needs)). r.part < parts_of n) f.same s.part in
      (among_filter (λ x. eqb x.part r.part) r t.log (subst (Among r) (h.parts r.part p) (prefix_among r _ _ (f.known r.part) s.there))).0

  due_was : (d : Option (Receipt E)) (w : View E) (r : Receipt E) → due_still d w ≡ Some r → d ≡ Some r
  due_was None w r e = e
  due_was (Some x) w r e = pick (has_stamp x.stamp (caller_list w x.caller)) e
    where
      pick : (b : Bool) → cond b None (Some x) ≡ Some r → Some x ≡ Some r
      pick true f = absurd (cc)
      pick false f = f

  module _ (needs : List (List Needs)) (words : List ℕ) (views : List (View E)) (h : Kept needs words views) (id other : ℕ) (v w : View E) (live : v.spent ≡ false) (alive : w.spent ≡ false) (nothing_due : w.due ≡ None) (at : get_elem? views id ≡ some v) (there : get_elem? views other ≡ some w) (two : other ≢ id) where
    abbrev m : View E
    m = merged_views v w

    abbrev t : Truth E
    t = h.truth

    f : Fits needs t id v
    f = h.is.fits id v at live

    g : Fits needs t other w
    g = h.is.fits other w there alive

    same_needs : w.needs ≡ v.needs
    same_needs = g.same ∙ sym f.same

    sizes : length v.names ≡ length w.names
    sizes = f.sound.whole ∙ ap names_of (sym same_needs) ∙ sym g.sound.whole

    name : (k : ℕ) → name_at m k ≡ merged (name_at v k) (name_at w k)
    name k = merged_name v w k sizes

    taken : (k : ℕ) → Takes (list_at m k) (list_at v k) (list_at w k) (t.own k) (name_at m k).held
    taken k = subst (λ (x : Name E). Takes x.list (list_at v k) (list_at w k) (t.own k) x.held) (sym (name k)) (takes_of (name_at v k).held (name_at w k).held (list_at v k) (list_at w k) (t.own k) (f.own k) (g.own k) (f.known k) (g.known k))

    from : (k : ℕ) → Holds m k → Holds v k ⊎ Holds w k
    from k held = one_true _ _ (sym (ap (λ (x : Name E). x.held) (name k)) ∙ held)

    kept_left : (k : ℕ) → Holds v k → Holds m k
    kept_left k held = ap (λ (x : Name E). x.held) (name k) ∙ ap (λ (b : Bool). b || (name_at w k).held) held

    kept_right : (k : ℕ) → Holds w k → Holds m k
    kept_right k held = ap (λ (x : Name E). x.held) (name k) ∙ ap (λ (b : Bool). (name_at v k).held || b) held ∙ or_true (name_at v k).held
      where
        or_true : (b : Bool) → (b || true) ≡ true
        or_true true = refl
        or_true false = refl

    -- what a view held has its list in the merged view
    list_left : (k : ℕ) → Holds v k → list_at m k ≡ list_at v k
    list_left k held = (taken k).own (kept_left k held) ∙ sym (f.own k held)

    list_right : (k : ℕ) → Holds w k → list_at m k ≡ list_at w k
    list_right k held = (taken k).own (kept_right k held) ∙ sym (g.own k held)

    stands_left : (r : Receipt E) → Stands v r → Stands m r
    stands_left r s = record { part = s.part; there = prefix_among r _ _ (taken r.part).left s.there }

    stands_right : (r : Receipt E) → Stands w r → Stands m r
    stands_right r s = record { part = subst (λ (n : List (List Needs)). r.part < parts_of n) same_needs s.part; there = prefix_among r _ _ (taken r.part).right s.there }

    others_caller : (c : ℕ) (r : Receipt E) → Among r (list_at w (parts_of v.needs + c)) → Among r (caller_list w c)
    others_caller c r a = subst (λ (n : List (List Needs)). Among r (list_at w (parts_of n + c))) (sym same_needs) a

    own_caller : (c : ℕ) (r : Receipt E) → Among r (caller_list w c) → Among r (list_at w (parts_of v.needs + c))
    own_caller c r a = subst (λ (n : List (List Needs)). Among r (list_at w (parts_of n + c))) same_needs a

    settled_due : (r : Receipt E) → v.due ≡ Some r → (m.due ≡ Some r) ⊎ Among r (caller_list m r.caller)
    settled_due r e = pick (has_stamp r.stamp (caller_list w r.caller)) refl
      where
        pick : (b : Bool) → has_stamp r.stamp (caller_list w r.caller) ≡ b → (m.due ≡ Some r) ⊎ Among r (caller_list m r.caller)
        pick false is = inl (ap (λ d. due_still d w) e ∙ ap (λ (b : Bool). cond b None (Some r)) is)
        pick true is =
            let x = has_among r.stamp (caller_list w r.caller) is in
            let mine = in_log needs words views t id v r h.is f (due_stands v r (f.sound.due r e)) in
            let theirs = in_log needs words views t other w x.0 h.is g (g.sound.callers r.caller x.0 x.1).1 in
            let same : x.0 ≡ r = numbered_same 0 t.log h.is.logged.numbered x.0 r theirs mine x.2 in
            inr (prefix_among r _ _ (taken (parts_of v.needs + r.caller)).right (own_caller r.caller r (subst (λ (z : Receipt E). Among z (caller_list w r.caller)) same x.1)))

    merged_sound : Sound m
    merged_sound = record {
      live = f.sound.live;
      same_needs = same_needs;
      small = f.sound.small;
      whole = length-merged_all v.names w.names ∙ f.sound.whole;
      former = λ k. subst (λ (l : List (Receipt E)). IsPrefix l (list_at m k)) (sym (ap (λ (x : Name E). x.former) (name k))) (taken k).left;
      former_other = λ k. subst (λ (l : List (Receipt E)). IsPrefix l (list_at m k)) (sym (ap (λ (x : Name E). x.former_other) (name k))) (taken k).right;
      lists = λ k. ⊎_elim
          (λ (e : list_at m k ≡ list_at v k). subst (IsListOf v.needs (max v.floor w.floor) k) (sym e) (raised v.needs v.floor (max v.floor w.floor) k (list_at v k) (omega arith) (f.sound.lists k)))
          (λ (e : list_at m k ≡ list_at w k). subst (IsListOf v.needs (max v.floor w.floor) k) (sym e) (raised v.needs w.floor (max v.floor w.floor) k (list_at w k) (omega arith) (subst (λ (n : List (List Needs)). IsListOf n w.floor k (list_at w k)) same_needs (g.sound.lists k))))
          (taken k).one;
      callers = λ c r a. ⊎_elim
          (λ (e : list_at m (parts_of v.needs + c) ≡ list_at v (parts_of v.needs + c)). let s = f.sound.callers c r (subst (Among r) e a) in (s.0, stands_left r s.1))
          (λ (e : list_at m (parts_of v.needs + c) ≡ list_at w (parts_of v.needs + c)). let s = g.sound.callers c r (others_caller c r (subst (Among r) e a)) in (s.0, stands_right r s.1))
          (taken (parts_of v.needs + c)).one;
      due = λ r e. let d = f.sound.due r (due_was v.due w r e) in record { part = d.part; held = kept_left r.part d.held; before = d.before; last = list_left r.part d.held ∙ d.last };
      sent = λ r e. stands_left r (f.sound.sent r e);
      settled = λ k r b held a. ⊎_elim
          (λ (x : Holds v k). ⊎_elim (λ d. settled_due r d) (λ d. inr (prefix_among r _ _ (taken (parts_of v.needs + r.caller)).left d)) (f.sound.settled k r b x (subst (Among r) (list_left k x) a)))
          (λ (x : Holds w k). ⊎_elim (λ d. absurd (cc (d, nothing_due))) (λ d. inr (prefix_among r _ _ (taken (parts_of v.needs + r.caller)).right (own_caller r.caller r d))) (g.sound.settled k r (subst (λ (n : List (List Needs)). k < parts_of n) (sym same_needs) b) x (subst (Among r) (list_right k x) a)))
          (from k held);
    }

    abbrev u : Truth E
    u = record { log = t.log; registered = t.registered; own = t.own; owner = λ k. cond (eqb (t.owner k) other) id (t.owner k) }

    moved : (k : ℕ) → t.owner k ≡ other → u.owner k ≡ id
    moved k e = ap (λ (b : Bool). cond b id (t.owner k)) (eq-eqb (t.owner k) other e)

    stays : (k : ℕ) → t.owner k ≢ other → u.owner k ≡ t.owner k
    stays k n = ap (λ (b : Bool). cond b id (t.owner k)) (ne_eqb (t.owner k) other n)

    merged_fits : Fits needs u id m
    merged_fits = record {
      same = f.same;
      floor = let a = f.floor in let b = g.floor in omega arith;
      registered = λ k held. ⊎_elim (λ x. f.registered k x) (λ x. g.registered k x) (from k held);
      owner = λ k held. ⊎_elim (λ x. stays k (λ e. two (sym e ∙ f.owner k x)) ∙ f.owner k x) (λ x. moved k (g.owner k x)) (from k held);
      own = λ k held. (taken k).own held;
      known = λ k. ⊎_elim (λ e. subst (λ (l : List (Receipt E)). IsPrefix l (t.own k)) (sym e) (f.known k)) (λ e. subst (λ (l : List (Receipt E)). IsPrefix l (t.own k)) (sym e) (g.known k)) (taken k).one;
      sound = merged_sound;
    }

    grows : Grows t u
    grows = record { log = le_of_eq refl; registered = le_of_eq refl; own = λ k. prefix_refl (t.own k) }

    abbrev after : List (View E)
    after = set (set views id m) other spent_view

    fits_after : (j : ℕ) (x : View E) → get_elem? after j ≡ some x → x.spent ≡ false → Fits needs u j x
    fits_after j x e now =
        ⊎_elim
        (λ (p : (j ≡ other) × (spent_view ≡ x)). absurd (true≢false (ap (λ (z : View E). z.spent) p.1 ∙ now)))
        (λ (p : (j ≢ other) × (get_elem? (set views id m) j ≡ some x)).
        ⊎_elim
        (λ (q : (j ≡ id) × (m ≡ x)). subst (λ (y : ℕ × View E). Fits needs u y.0 y.1) (λ i. (sym q.0 i, q.1 i)) merged_fits)
        (λ (q : (j ≢ id) × (get_elem? views j ≡ some x)). let was = h.is.fits j x q.1 now in fits_on needs t u j x grows was (λ k held. (stays k (λ c. p.0 (sym (was.owner k held) ∙ c)), refl)))
        (at_set views id j m x p.1))
        (at_set (set views id m) other j spent_view x e)

    at_id : get_elem? after id ≡ some m
    at_id = set_else (set views id m) other id spent_view (λ e. two (sym e)) ∙ set_here views id m (at_below views id v at)

    owned_after : (k : ℕ) → k < t.registered → HoldsAt after (u.owner k) k
    owned_after k lt =
        let o = h.is.owned k lt in
        ⊎_elim
        (λ (e : t.owner k ≡ other).
        let is : o.view ≡ w = some-injective _ _ (sym o.there ∙ subst (λ (i : ℕ). get_elem? views i ≡ some w) (sym e) there) in
        let r : HoldsAt after id k = record { view = m; there = at_id; live = live; holds = kept_right k (subst (λ (x : View E). Holds x k) is o.holds) } in
        subst (λ (i : ℕ). HoldsAt after i k) (sym (moved k e)) r)
        (λ (n : t.owner k ≢ other).
        let r = held_set views id v m (t.owner k) k at live (kept_left k) o in
        let q : HoldsAt after (t.owner k) k = record { view = r.view; there = set_else (set views id m) other (t.owner k) spent_view n ∙ r.there; live = r.live; holds = r.holds } in
        subst (λ (i : ℕ). HoldsAt after i k) (sym (stays k n)) q)
        (nat_cases (t.owner k) other)

    kept_merged : Kept needs words after
    kept_merged = record { truth = u; is = record { words_are = h.is.words_are; few = h.is.few; small = h.is.small; logged = h.is.logged; parts = h.is.parts; empty = h.is.empty; owned = owned_after; fits = fits_after } }

    set_turn : (xs : List (View E)) (i j : ℕ) (a b c : View E) → j ≢ i → set (set (set xs i a) j b) i c ≡ set (set xs i c) j b
    set_turn [] i j a b c n = refl
    set_turn (x ∷ xs) zero zero a b c n = absurd (n refl)
    set_turn (x ∷ xs) zero (suc j) a b c n = refl
    set_turn (x ∷ xs) (suc i) zero a b c n = ap (λ l. b ∷ l) (set_again xs i a c)
      where
        set_again : (xs : List (View E)) (i : ℕ) (a c : View E) → set (set xs i a) i c ≡ set xs i c
        set_again [] i a c = refl
        set_again (x ∷ xs) zero a c = refl
        set_again (x ∷ xs) (suc i) a c = ap (λ l. x ∷ l) (set_again xs i a c)
    set_turn (x ∷ xs) (suc i) (suc j) a b c n = ap (λ l. x ∷ l) (set_turn xs i j a b c (λ e. n (ap suc e)))

    kept_joined : Kept needs words (set (set views id (joined v w)) other spent_view)
    kept_joined = pick w.sent refl
      where
        pick : (o : Option (Receipt E)) → w.sent ≡ o → Kept needs words (set (set views id (grown m o)) other spent_view)
        pick None e = kept_merged
        pick (Some r) e = choose (takes m r) refl
          where
            choose : (b : Bool) → takes m r ≡ b → Kept needs words (set (set views id (cond b (with_own m r) m)) other spent_view)
            choose false is = kept_merged
            choose true is = subst (λ (l : List (View E)). Kept needs words l) (set_turn views id other m spent_view (with_own m r) two) (kept_grow needs words after id m r live at_id is (stands_right r (g.sound.sent r e)) kept_merged)

  pub joins : (needs : List (List Needs)) (id other : ℕ) (v w : View E) → v.spent ≡ false → w.spent ≡ false → w.due ≡ None → Joins {S = Unit {0}} (λ s. Kept needs s.words s.views) id v other w (joined v w) spent_view
  joins needs id other v w live alive nothing_due s h at two there =
      kept_joined needs s.words s.views h id other v w live alive nothing_due at (sym (set_else s.views id other (joined v w) two) ∙ there) two
