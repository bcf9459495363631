-- The history of a book, from a view that took in all others.
use Rattle.std.proofs.Common.{◌≡◌, ◌≢◌, ℕ, zero, suc, ◌+◌, ◌-◌, ◌<◌, ◌≤◌, Bool, true, false, cond, filter, List, [], ◌∷◌, ◌++◌, length, map, get_or, Some, slice_get, Contains, IsPermutation, refl, sym, ap, ◌∙◌, subst, inl, inr, ⊎_elim, arith, length-append, eqb, eqb-true, eq-eqb, lt_of_not-le}
use mathlib.Core.Logic.{dite}
use native.Mathlib.Decide.{dec_le}
use Rattle.atomic_table.specs.Seated.{TableId}
use Rattle.std.specs.List.Sorted.{IsNonDecreasingBy}
use Rattle.std.proofs.lemmas.List.Sorted.{Contains-permutation, length_permutation}
use Rattle.pg_book.specs.declared.needs.Needs.{Needs}
use Rattle.pg_book.specs.declared.receipt.Receipt.{Receipt}
use Rattle.pg_book.specs.declared.receipt.Stamped.{Stamped}
use Rattle.pg_book.specs.declared.view.View.{View}
use Rattle.pg_book.specs.Needs.{parts_of}
use Rattle.pg_book.specs.Lists.{Among, Rising, Numbered, of_part, of_caller}
use Rattle.pg_book.specs.Views.{list_at, Holds, Stands}
use Rattle.pg_book.specs.Tells.{Sees}
use Rattle.pg_book.specs.Models.{SpineOf, PassOf, spine_receipts, pass_receipts, IsSpineAt, IsPassAt}
use Rattle.pg_book.specs.Knowing.{IsKnownTo}
use Rattle.pg_book.specs.Opening.{EachFrom}
use Rattle.pg_book.specs.Gathering.{Taken, Gathered, spine_views, pass_views}
use Rattle.pg_book.specs.Closing.{stamped, flat, StandsIn, IsHistory}
use Rattle.pg_book.proofs.ListFacts.{among_left, among_right, among_filter, filter_among, rising_filter, rising_same, numbered_range, numbered_rising, prefix_among}
use Rattle.pg_book.proofs.SumFacts.{sum_to, length-of_part}
use Rattle.pg_book.proofs.ViewFacts.{nat_cases}
use Rattle.pg_book.proofs.Placing.{each_map, each_all}

module _ {A : Type 0} where
  -- both facts of each element
  pub each_both : (P Q : ℕ → A → Type 0) (n : ℕ) (xs : List A) → EachFrom P n xs → EachFrom Q n xs → EachFrom (λ k x. P k x × Q k x) n xs
  each_both P Q n [] p q = tt
  each_both P Q n (x ∷ xs) p q = ((p.0, q.0), each_both P Q (suc n) xs p.1 q.1)

  pub each_bound : (P : ℕ → A → Type 0) (n m : ℕ) (xs : List A) → n + length xs ≡ m → EachFrom P n xs → EachFrom (λ k x. P k x × (k < m)) n xs
  each_bound P n m [] e p = tt
  each_bound P n m (x ∷ xs) e p = ((p.0, omega arith), each_bound P (suc n) m xs (omega arith) p.1)

  pub each_front : (P : ℕ → A → Type 0) (n : ℕ) (xs ys : List A) → EachFrom P n (xs ++ ys) → EachFrom P n xs
  each_front P n [] ys p = tt
  each_front P n (x ∷ xs) ys p = (p.0, each_front P (suc n) xs ys p.1)

  pub each_back : (P : ℕ → A → Type 0) (n m : ℕ) (xs ys : List A) → n + length xs ≡ m → EachFrom P n (xs ++ ys) → EachFrom P m ys
  each_back P n m [] ys e p = subst (λ (k : ℕ). EachFrom P k ys) (omega arith) p
  each_back P n m (x ∷ xs) ys e p = each_back P (suc n) m xs ys (omega arith) p.1

  pub each_shift : (P : ℕ → A → Type 0) (m n k : ℕ) (xs : List A) → m + n ≡ k → EachFrom P k xs → EachFrom (λ j. P (m + j)) n xs
  each_shift P m n k [] e p = tt
  each_shift P m n k (x ∷ xs) e p = (subst (λ (j : ℕ). P j x) (sym e) p.0, each_shift P m (suc n) (suc k) xs (omega arith) p.1)

  pub each_get : (P : ℕ → A → Type 0) (n k : ℕ) (xs : List A) → n ≤ k → k < n + length xs → EachFrom P n xs → (x : A) × P k x
  each_get P n k [] le lt p = absurd (omega arith)
  each_get P n k (x ∷ xs) le lt p = ⊎_elim (λ (e : n ≡ k). (x, subst (λ (j : ℕ). P j x) e p.0)) (λ (ne : n ≢ k). each_get P (suc n) k xs (omega arith) (omega arith) p.1) (nat_cases n k)

pub each_unmap : {A B : Type 0} (f : A → B) (P : ℕ → B → Type 0) (n : ℕ) (xs : List A) → EachFrom P n (map f xs) → EachFrom (λ k x. P k (f x)) n xs
each_unmap f P n [] p = tt
each_unmap f P n (x ∷ xs) p = (p.0, each_unmap f P (suc n) xs p.1)

sum_to_same : (n : ℕ) (f g : ℕ → ℕ) → ((k : ℕ) → f k ≡ g k) → sum_to n f ≡ sum_to n g
sum_to_same zero f g h = refl
sum_to_same (suc n) f g h = let a = h 0 in let b = sum_to_same n (λ k. f (suc k)) (λ k. g (suc k)) (λ k. h (suc k)) in omega arith

module _ {E : Type 0} where
  abbrev unstamped : Stamped E → Receipt E
  unstamped e = record { part = e.part; caller = e.caller; stamp = e.stamp; entry = e.entry }

  -- the receipts of the spines are those of the log
  among_flat : (log : List (Receipt E)) (n : ℕ) (spines : List (SpineOf E)) → EachFrom (λ k s. of_part k log ≡ spine_receipts s) n spines → (r : Receipt E) → Among r log → n ≤ r.part → r.part < n + length spines → Among r (flat spines)
  among_flat log n [] h r a le lt = absurd (omega arith)
  among_flat log n (s ∷ spines) h r a le lt =
      ⊎_elim
      (λ (e : r.part ≡ n). among_left r (spine_receipts s) (flat spines) (subst (Among r) h.0 (filter_among (λ x. eqb x.part n) r log a (eq-eqb r.part n e))))
      (λ (ne : r.part ≢ n). among_right r (spine_receipts s) (flat spines) (among_flat log (suc n) spines h.1 r a (omega arith) (omega arith)))
      (nat_cases r.part n)

  length-flat : (log : List (Receipt E)) (n : ℕ) (spines : List (SpineOf E)) → EachFrom (λ k s. of_part k log ≡ spine_receipts s) n spines → length (flat spines) ≡ sum_to (length spines) (λ k. length (of_part (n + k) log))
  length-flat log n [] h = refl
  length-flat log n (s ∷ spines) h =
      let a = length-append (spine_receipts s) (flat spines) in
      let b = length-flat log (suc n) spines h.1 in
      let c = ap length h.0 in
      let d : length (of_part (n + 0) log) ≡ length (of_part n log) = ap (λ (k : ℕ). length (of_part k log)) (omega arith) in
      let e = sum_to_same (length spines) (λ k. length (of_part (suc n + k) log)) (λ k. length (of_part (n + suc k) log)) (λ k. ap (λ (j : ℕ). length (of_part j log)) (omega arith)) in
      omega arith

  -- each stamp is at most those behind it
  abbrev Ordered : List (Receipt E) → Type 0
  Ordered [] = Unit {0}
  Ordered (z ∷ zs) = ((y : Receipt E) → Among y zs → z.stamp ≤ y.stamp) × Ordered zs

  -- where not the first is the first of the log, the log stands in the rest
  behind_first : (x z : Receipt E) (log zs : List (Receipt E)) → Rising (x ∷ log) → Ordered (z ∷ zs) → ((r : Receipt E) → Among r (x ∷ log) → Among r (z ∷ zs)) → Among x zs → (r : Receipt E) → Among r (x ∷ log) → Among r zs
  behind_first x z log zs rising ordered all there r (inl e) = subst (λ (y : Receipt E). Among y zs) e there
  behind_first x z log zs rising ordered all there r (inr a) =
      ⊎_elim (λ (e : z ≡ r). let up = rising.0 r a in let low = ordered.0 x there in let s : z.stamp ≡ r.stamp = ap (λ (y : Receipt E). y.stamp) e in absurd (omega arith)) (λ b. b) (all r (inr a))

  behind_same : (x z : Receipt E) (log zs : List (Receipt E)) → Rising (x ∷ log) → z ≡ x → ((r : Receipt E) → Among r (x ∷ log) → Among r (z ∷ zs)) → (r : Receipt E) → Among r log → Among r zs
  behind_same x z log zs rising same all r a =
      ⊎_elim (λ (e : z ≡ r). let up = rising.0 r a in let s : x.stamp ≡ r.stamp = ap (λ (y : Receipt E). y.stamp) (sym same ∙ e) in absurd (omega arith)) (λ b. b) (all r (inr a))

  ordered_within : (log zs : List (Receipt E)) → Rising log → Ordered zs → ((r : Receipt E) → Among r log → Among r zs) → length log ≤ length zs
  ordered_within [] zs rising ordered all = omega arith
  ordered_within (x ∷ log) [] rising ordered all = absurd (all x (inl refl))
  ordered_within (x ∷ log) (z ∷ zs) rising ordered all =
      ⊎_elim
      (λ (e : z ≡ x). let k = ordered_within log zs rising.1 ordered.1 (behind_same x z log zs rising e all) in omega arith)
      (λ (b : Among x zs). let k = ordered_within (x ∷ log) zs rising ordered.1 (behind_first x z log zs rising ordered all b) in omega arith)
      (all x (inl refl))

  -- a list in the order of its stamps, with all receipts of a log and no more, is the log
  in_order : (log zs : List (Receipt E)) → Rising log → Ordered zs → ((r : Receipt E) → Among r log → Among r zs) → length zs ≤ length log → zs ≡ log
  in_order [] [] rising ordered all short = refl
  in_order [] (z ∷ zs) rising ordered all short = absurd (omega arith)
  in_order (x ∷ log) [] rising ordered all short = absurd (all x (inl refl))
  in_order (x ∷ log) (z ∷ zs) rising ordered all short =
      ⊎_elim
      (λ (e : z ≡ x). let k = in_order log zs rising.1 ordered.1 (behind_same x z log zs rising e all) (omega arith) in λ i. e i ∷ k i)
      (λ (b : Among x zs). let k = ordered_within (x ∷ log) zs rising ordered.1 (behind_first x z log zs rising ordered all b) in absurd (omega arith))
      (all x (inl refl))

  among_index : (y : Receipt E) (es : List (Stamped E)) → Among y (map unstamped es) → (k : ℕ) × (k < length es) × ((d : Stamped E) → (get_or es k d).stamp ≡ y.stamp)
  among_index y [] a = absurd a
  among_index y (e ∷ es) (inl h) = (0, omega arith, λ d. ap (λ (r : Receipt E). r.stamp) h)
  among_index y (e ∷ es) (inr a) = let k = among_index y es a in (suc k.0, (let l = k.1 in omega arith), k.2)

  ordered_of : (es : List (Stamped E)) → IsNonDecreasingBy (λ (e : Stamped E). e.stamp) es → Ordered (map unstamped es)
  ordered_of [] h = tt
  ordered_of (e ∷ es) h = ((λ y a. let k = among_index y es a in let l = k.1 in let s = k.2 e in let o = h 0 (suc k.0) e (omega arith) (omega arith) in omega arith), ordered_of es (λ i j d le lt. h (suc i) (suc j) d (omega arith) (omega arith)))

  contains_of : (r : Receipt E) (xs : List (Receipt E)) → Among r xs → Contains (map stamped xs) (stamped r)
  contains_of r [] a = absurd a
  contains_of r (x ∷ xs) (inl e) = (0, omega arith, ap stamped e)
  contains_of r (x ∷ xs) (inr a) = let k = contains_of r xs a in (suc k.0, (let l = k.1 in omega arith), k.2)

  among_of : (e : Stamped E) (es : List (Stamped E)) (k : ℕ) → k < length es → get_or es k e ≡ e → Among (unstamped e) (map unstamped es)
  among_of e [] k lt h = absurd (omega arith)
  among_of e (x ∷ es) zero lt h = inl (ap unstamped h)
  among_of e (x ∷ es) (suc k) lt h = inr (among_of e es k (omega arith) h)

  back_again : (es : List (Stamped E)) → map stamped (map unstamped es) ≡ es
  back_again [] = refl
  back_again (e ∷ es) = ap (λ l. e ∷ l) (back_again es)

  length-unstamped : (es : List (Stamped E)) → length (map unstamped es) ≡ length es
  length-unstamped [] = refl
  length-unstamped (e ∷ es) = ap suc (length-unstamped es)

  length-stamped : (xs : List (Receipt E)) → length (map stamped xs) ≡ length xs
  length-stamped [] = refl
  length-stamped (x ∷ xs) = ap suc (length-stamped xs)

  -- the spines have as many receipts as the log
  length-flat_log : (log : List (Receipt E)) (spines : List (SpineOf E)) → ((r : Receipt E) → Among r log → r.part < length spines) → EachFrom (λ k s. of_part k log ≡ spine_receipts s) 0 spines → length (flat spines) ≡ length log
  length-flat_log log spines parts each =
      let a = length-flat log 0 spines each in
      let b = length-of_part (length spines) log parts in
      let c = sum_to_same (length spines) (λ k. length (of_part (0 + k) log)) (λ k. length (of_part k log)) (λ k. ap (λ (j : ℕ). length (of_part j log)) (omega arith)) in
      omega (arith, a, b, c)

  -- the sorted entries of all spines are the log
  pub sorted_is_log : (log : List (Receipt E)) (spines : List (SpineOf E)) (es : List (Stamped E)) → Numbered 0 log → ((r : Receipt E) → Among r log → r.part < length spines) → EachFrom (λ k s. of_part k log ≡ spine_receipts s) 0 spines → IsPermutation (map stamped (flat spines)) es → IsNonDecreasingBy (λ (e : Stamped E). e.stamp) es → es ≡ map stamped log
  sorted_is_log log spines es numbered parts each perm sorted =
      let a = length_permutation (map stamped (flat spines)) es perm in
      let b = length-stamped (flat spines) in
      let c = length-flat_log log spines parts each in
      let d = length-unstamped es in
      let all : (r : Receipt E) → Among r log → Among r (map unstamped es) = λ r x. among_of_contains r (Contains-permutation (map stamped (flat spines)) es (stamped r) perm (contains_of r (flat spines) (among_flat log 0 spines each r x (omega arith) (let p = parts r x in omega arith)))) in
      sym (back_again es) ∙ ap (map stamped) (in_order log (map unstamped es) (numbered_rising 0 log numbered) (ordered_of es sorted) all (omega (arith, a, b, c, d)))
    where
      among_of_contains : (r : Receipt E) → Contains es (stamped r) → Among r (map unstamped es)
      among_of_contains r k = among_of (stamped r) es k.0 k.1 k.2

  filter_stamped : (test : Stamped E → Bool) (xs : List (Receipt E)) → filter test (map stamped xs) ≡ map stamped (filter (λ r. test (stamped r)) xs)
  filter_stamped test [] = refl
  filter_stamped test (x ∷ xs) = pick (test (stamped x)) (filter_stamped test xs)
    where
      pick : (b : Bool) → filter test (map stamped xs) ≡ map stamped (filter (λ r. test (stamped r)) xs) → cond b (stamped x ∷ filter test (map stamped xs)) (filter test (map stamped xs)) ≡ map stamped (cond b (x ∷ filter (λ r. test (stamped r)) xs) (filter (λ r. test (stamped r)) xs))
      pick true e = ap (λ l. stamped x ∷ l) e
      pick false e = e

  numbered_stamps : (n : ℕ) (log : List (Receipt E)) → Numbered n log → (k : ℕ) (e : Stamped E) → slice_get (map stamped log) k ≡ Some e → e.stamp ≡ n + k
  numbered_stamps n [] h k e is = absurd (cc)
  numbered_stamps n (x ∷ log) h zero e is = let f : stamped x ≡ e = cc in let s = h.0 in let t : x.stamp ≡ e.stamp = ap (λ (z : Stamped E). z.stamp) f in omega arith
  numbered_stamps n (x ∷ log) h (suc k) e is = let r = numbered_stamps (suc n) log h.1 k e is in omega arith

  among_at : (log : List (Receipt E)) (k : ℕ) (e : Stamped E) → slice_get (map stamped log) k ≡ Some e → (r : Receipt E) × Among r log × (stamped r ≡ e)
  among_at [] k e is = absurd (cc)
  among_at (x ∷ log) zero e is = (x, inl refl, cc)
  among_at (x ∷ log) (suc k) e is = let r = among_at log k e is in (r.0, inr r.1, r.2)

  numbered_at : (n : ℕ) (log : List (Receipt E)) → Numbered n log → (r : Receipt E) (k : ℕ) → Among r log → r.stamp ≡ n + k → slice_get (map stamped log) k ≡ Some (stamped r)
  numbered_at n [] h r k a e = absurd a
  numbered_at n (x ∷ log) h r zero (inl f) e = ap (λ z. Some (stamped z)) f
  numbered_at n (x ∷ log) h r zero (inr a) e = let b = numbered_range (suc n) log h.1 r a in absurd (omega arith)
  numbered_at n (x ∷ log) h r (suc k) (inl f) e = let t : x.stamp ≡ r.stamp = ap (λ (z : Receipt E). z.stamp) f in let s = h.0 in absurd (omega arith)
  numbered_at n (x ∷ log) h r (suc k) (inr a) e = numbered_at (suc n) log h.1 r k a (omega arith)

  module _ (needs : List (List Needs)) (a b : TableId) (spines : List (SpineOf E)) (passes : List (PassOf E)) (z : View E) (g : Gathered needs (spine_views spines ++ pass_views passes) z) (sees : Sees z) (count : length spines ≡ parts_of needs) (callers : length passes ≡ length needs) (at_spines : EachFrom (IsSpineAt a) 0 spines) (at_passes : EachFrom (IsPassAt b) 0 passes) where
    abbrev log : List (Receipt E)
    log = sees.log

    length-views : (l : List (SpineOf E)) → length (spine_views l) ≡ length l
    length-views [] = refl
    length-views (x ∷ xs) = ap suc (length-views xs)

    parts_are : parts_of z.needs ≡ length spines
    parts_are = ap parts_of g.needs_are ∙ sym count

    taken_spines : EachFrom (λ k s. Taken k s.view z) 0 spines
    taken_spines = each_unmap (λ (s : SpineOf E). s.view) (λ k x. Taken k x z) 0 spines (each_front (λ k x. Taken k x z) 0 (spine_views spines) (pass_views passes) g.each)

    taken_passes : EachFrom (λ c p. Taken (parts_of z.needs + c) p.view z) 0 passes
    taken_passes = each_unmap (λ (p : PassOf E). p.view) (λ c x. Taken (parts_of z.needs + c) x z) 0 passes
        (each_shift (λ k x. Taken k x z) (parts_of z.needs) 0 (parts_of z.needs) (pass_views passes) (omega arith) (each_back (λ k x. Taken k x z) 0 (parts_of z.needs) (spine_views spines) (pass_views passes) (omega (arith, length-views spines, parts_are)) g.each))

    holds_part : (k : ℕ) → k < parts_of z.needs → Holds z k
    holds_part k lt = let t = each_get (λ j s. Taken j s.view z) 0 k spines (omega arith) (omega (arith, parts_are)) taken_spines in t.1.holds

    part_list : (k : ℕ) → k < parts_of z.needs → list_at z k ≡ of_part k log
    part_list k lt = sees.parts k lt (holds_part k lt)

    all_parts : EachFrom (λ k s. of_part k log ≡ spine_receipts s) 0 spines
    all_parts =
        each_map (λ k s. (Taken k s.view z × IsSpineAt a k s) × (k < parts_of z.needs)) (λ k s. of_part k log ≡ spine_receipts s) 0 spines
        (λ k s x. sym (part_list k x.1) ∙ x.0.0.list ∙ ap (λ (j : ℕ). list_at s.view j) (sym x.0.1.is_part))
        (each_bound (λ k s. Taken k s.view z × IsSpineAt a k s) 0 (parts_of z.needs) spines (omega (arith, parts_are)) (each_both (λ k s. Taken k s.view z) (IsSpineAt a) 0 spines taken_spines at_spines))

    -- what is known is one of all
    from_part : (k : ℕ) (r : Receipt E) → k < parts_of z.needs → Among r (list_at z k) → Among r log
    from_part k r lt x = sees.known k r lt x

    from_stands : (r : Receipt E) → Stands z r → Among r log
    from_stands r s = from_part r.part r s.part s.there

    from_any : (k : ℕ) (r : Receipt E) → Among r (list_at z k) → Among r log
    from_any k r x = dite (dec_le (parts_of z.needs) k)
        (λ le. from_stands r (g.ready.sound.callers (k - parts_of z.needs) r (subst (λ (j : ℕ). Among r (list_at z j)) (omega arith) x)).1)
        (λ no. from_part k r (lt_of_not-le no) x)

    known : (x : View E) → IsKnownTo x z → (k : ℕ) (r : Receipt E) → Among r (list_at x k) → StandsIn (map stamped log) r
    known x knows k r y = numbered_at 0 log sees.logged.numbered r r.stamp (from_any k r (prefix_among r _ _ (knows.lists k) y)) (omega arith)

    caller_is : (c : ℕ) → of_caller c log ≡ list_at z (parts_of z.needs + c)
    caller_is c =
        rising_same (of_caller c log) (list_at z (parts_of z.needs + c)) (rising_filter (λ r. eqb r.caller c) log (numbered_rising 0 log sees.logged.numbered)) (g.ready.sound.lists (parts_of z.needs + c)).rising to back
      where
        to : (r : Receipt E) → Among r (of_caller c log) → Among r (list_at z (parts_of z.needs + c))
        to r x =
            let f = among_filter (λ y. eqb y.caller c) r log x in
            let lt = sees.logged.parts r f.0 in
            let there : Among r (list_at z r.part) = subst (Among r) (sym (part_list r.part lt)) (filter_among (λ y. eqb y.part r.part) r log f.0 (eq-eqb r.part r.part refl)) in
            ⊎_elim (λ d. absurd (cc (d, g.ready.settled))) (λ d. subst (λ (k : ℕ). Among r (list_at z (parts_of z.needs + k))) (eqb-true _ _ f.1) d) (g.ready.sound.settled r.part r lt (holds_part r.part lt) there)

        back : (r : Receipt E) → Among r (list_at z (parts_of z.needs + c)) → Among r (of_caller c log)
        back r x = let s = g.ready.sound.callers c r x in filter_among (λ y. eqb y.caller c) r log (from_stands r s.1) (eq-eqb r.caller c s.0)

    pass_own : (c : ℕ) (p : PassOf E) → Taken (parts_of z.needs + c) p.view z → IsPassAt b c p → pass_receipts p ≡ list_at z (parts_of z.needs + c)
    pass_own c p t at = ap (λ (n : List (List Needs)). list_at p.view (parts_of n + p.caller)) (sym t.knows.needs) ∙ ap (λ (k : ℕ). list_at p.view (parts_of z.needs + k)) at.is_caller ∙ sym t.list

    both_passes : EachFrom (λ c p. Taken (parts_of z.needs + c) p.view z × IsPassAt b c p) 0 passes
    both_passes = each_both (λ c p. Taken (parts_of z.needs + c) p.view z) (IsPassAt b) 0 passes taken_passes at_passes

    logged_part : (r : Receipt E) → Among r log → r.part < length spines
    logged_part r x = subst (λ (n : ℕ). r.part < n) parts_are (sees.logged.parts r x)

    of_log : IsHistory spines passes (map stamped log)
    of_log = record {
      count = length-stamped log ∙ sym (length-flat_log log spines logged_part all_parts);
      stamps = λ k e is. numbered_stamps 0 log sees.logged.numbered k e is ∙ omega arith;
      of_book = λ k e is. let r = among_at log k e is in let c = sees.logged.callers r.0 r.1 in (
        subst (λ (x : Stamped E). x.part < length spines) r.2 (logged_part r.0 r.1),
        subst (λ (x : Stamped E). x.caller < length passes) r.2 (subst (λ (n : ℕ). r.0.caller < n) (ap length g.needs_are ∙ sym callers) c),
      );
      of_spines = each_map (λ k s. of_part k log ≡ spine_receipts s) (λ k s. filter (λ (e : Stamped E). eqb e.part k) (map stamped log) ≡ map stamped (spine_receipts s)) 0 spines (λ k s e. filter_stamped (λ x. eqb x.part k) log ∙ ap (map stamped) e) all_parts;
      of_passes = each_map (λ c p. Taken (parts_of z.needs + c) p.view z × IsPassAt b c p) (λ c p. filter (λ (e : Stamped E). eqb e.caller c) (map stamped log) ≡ map stamped (pass_receipts p)) 0 passes
          (λ c p x. filter_stamped (λ y. eqb y.caller c) log ∙ ap (map stamped) (caller_is c ∙ sym (pass_own c p x.0 x.1))) both_passes;
      rising = each_all (λ c p. Taken (parts_of z.needs + c) p.view z × IsPassAt b c p) (λ p. Rising (pass_receipts p)) 0 passes
          (λ c p x. subst Rising (sym (pass_own c p x.0 x.1)) (g.ready.sound.lists (parts_of z.needs + c)).rising) both_passes;
      known_to_spines = each_all (λ k s. Taken k s.view z) (λ s. (k : ℕ) (r : Receipt E) → Among r (list_at s.view k) → StandsIn (map stamped log) r) 0 spines (λ k s t. known s.view t.knows) taken_spines;
      known_to_passes = each_all (λ c p. Taken (parts_of z.needs + c) p.view z) (λ p. (k : ℕ) (r : Receipt E) → Among r (list_at p.view k) → StandsIn (map stamped log) r) 0 passes (λ c p t. known p.view t.knows) taken_passes;
    }

    pub history : (es : List (Stamped E)) → IsPermutation (map stamped (flat spines)) es → IsNonDecreasingBy (λ (e : Stamped E). e.stamp) es → IsHistory spines passes es
    history es perm sorted =
        subst (IsHistory spines passes) (sym (sorted_is_log log spines es sees.logged.numbered logged_part all_parts perm sorted)) of_log
