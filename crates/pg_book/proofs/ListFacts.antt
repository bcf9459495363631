-- Lists of receipts: which stand in a list, beginnings, rising stamps and numbered lists.
use Rattle.std.proofs.Common.{◌≡◌, ◌⊎◌, ℕ, suc, ◌+◌, ◌<◌, ◌≤◌, Bool, true, false, true≢false, cond, ◌&&◌, ◌||◌, eqb, List, [], ◌∷◌, ◌++◌, length, filter, refl, sym, ap, ◌∙◌, subst, inl, inr, ⊎_elim, arith, append-nil, append_assoc, length-append, ltb-true, eqb-true}
use Rattle.std.proofs.lemmas.List.Elements.{filter-append}
use Rattle.pg_book.specs.declared.receipt.Receipt.{Receipt}
use Rattle.pg_book.specs.Lists.{Among, Rising, IsPrefix, Numbered, is_above, has_stamp}

module _ {E : Type 0} where
  pub among_left : (r : Receipt E) (xs ys : List (Receipt E)) → Among r xs → Among r (xs ++ ys)
  among_left r [] ys a = absurd a
  among_left r (x ∷ xs) ys (inl e) = inl e
  among_left r (x ∷ xs) ys (inr a) = inr (among_left r xs ys a)

  pub among_right : (r : Receipt E) (xs ys : List (Receipt E)) → Among r ys → Among r (xs ++ ys)
  among_right r [] ys a = a
  among_right r (x ∷ xs) ys a = inr (among_right r xs ys a)

  pub among_append : (r : Receipt E) (xs ys : List (Receipt E)) → Among r (xs ++ ys) → Among r xs ⊎ Among r ys
  among_append r [] ys a = inr a
  among_append r (x ∷ xs) ys (inl e) = inl (inl e)
  among_append r (x ∷ xs) ys (inr a) = ⊎_elim (λ h. inl (inr h)) (λ h. inr h) (among_append r xs ys a)

  pub among_last : (r : Receipt E) (xs : List (Receipt E)) → Among r (xs ++ r ∷ [])
  among_last r xs = among_right r xs (r ∷ []) (inl refl)

  -- one more at the end
  pub among_push : (r x : Receipt E) (xs : List (Receipt E)) → Among r (xs ++ x ∷ []) → Among r xs ⊎ (x ≡ r)
  among_push r x xs a = ⊎_elim (λ h. inl h) (λ h. inr (only h)) (among_append r xs (x ∷ []) a)
    where
      only : Among r (x ∷ []) → x ≡ r
      only (inl e) = e
      only (inr h) = absurd h

  pub prefix_refl : (xs : List (Receipt E)) → IsPrefix xs xs
  prefix_refl xs = ([], sym (append-nil xs))

  pub prefix_nil : (xs : List (Receipt E)) → IsPrefix [] xs
  prefix_nil xs = (xs, refl)

  pub prefix_push : (xs : List (Receipt E)) (r : Receipt E) → IsPrefix xs (xs ++ r ∷ [])
  prefix_push xs r = (r ∷ [], refl)

  pub prefix_trans : (xs ys zs : List (Receipt E)) → IsPrefix xs ys → IsPrefix ys zs → IsPrefix xs zs
  prefix_trans xs ys zs p q = (p.0 ++ q.0, q.1 ∙ ap (λ l. l ++ q.0) p.1 ∙ append_assoc xs p.0 q.0)

  pub prefix_among : (r : Receipt E) (xs ys : List (Receipt E)) → IsPrefix xs ys → Among r xs → Among r ys
  prefix_among r xs ys p a = subst (Among r) (sym p.1) (among_left r xs p.0 a)

  pub prefix_length : (xs ys : List (Receipt E)) → IsPrefix xs ys → length xs ≤ length ys
  prefix_length xs ys p = omega (arith, length-append xs p.0, ap length p.1)

  pub prefix_filter : (test : Receipt E → Bool) (xs ys : List (Receipt E)) → IsPrefix xs ys → IsPrefix (filter test xs) (filter test ys)
  prefix_filter test xs ys p = (filter test p.0, ap (filter test) p.1 ∙ filter-append test xs p.0)

  pub prefix_compare : (xs ys zs : List (Receipt E)) → IsPrefix xs zs → IsPrefix ys zs → length xs ≤ length ys → IsPrefix xs ys
  prefix_compare [] ys zs p q h = prefix_nil ys
  prefix_compare (x ∷ xs) [] zs p q h = absurd (omega arith)
  prefix_compare (x ∷ xs) (y ∷ ys) zs p q h =
      let e : x ∷ (xs ++ p.0) ≡ y ∷ (ys ++ q.0) = sym p.1 ∙ q.1 in
      let head : x ≡ y = cc in
      let tail : xs ++ p.0 ≡ ys ++ q.0 = cc in
      let r = prefix_compare xs ys (xs ++ p.0) (p.0, refl) (q.0, tail) (omega arith) in
      (r.0, λ i. sym head i ∷ r.1 i)

  pub rising_push : (xs : List (Receipt E)) (r : Receipt E) → Rising xs → ((x : Receipt E) → Among x xs → x.stamp < r.stamp) → Rising (xs ++ r ∷ [])
  rising_push [] r s h = ((λ x a. absurd a), tt)
  rising_push (x ∷ xs) r s h = (
    (λ y a. ⊎_elim (λ b. s.0 y b) (λ (e : r ≡ y). subst (λ (z : Receipt E). x.stamp < z.stamp) e (h x (inl refl))) (among_push y r xs a)),
    rising_push xs r s.1 (λ y a. h y (inr a)),
  )

  pub above_all : (n : ℕ) (xs : List (Receipt E)) → is_above n xs ≡ true → (r : Receipt E) → Among r xs → r.stamp < n
  above_all n [] e r a = absurd a
  above_all n (x ∷ xs) e r (inl h) = subst (λ (z : Receipt E). z.stamp < n) h (ltb-true _ _ (both_true _ _ e).0)
    where
      both_true : (b c : Bool) → (b && c) ≡ true → (b ≡ true) × (c ≡ true)
      both_true true c h = (refl, h)
      both_true false c h = absurd (true≢false (sym h))
  above_all n (x ∷ xs) e r (inr a) = above_all n xs (second _ _ e) r a
    where
      second : (b c : Bool) → (b && c) ≡ true → c ≡ true
      second true c h = h
      second false c h = absurd (true≢false (sym h))

  pub has_among : (n : ℕ) (xs : List (Receipt E)) → has_stamp n xs ≡ true → (r : Receipt E) × Among r xs × (r.stamp ≡ n)
  has_among n [] e = absurd (true≢false (sym e))
  has_among n (x ∷ xs) e = pick (eqb x.stamp n) refl e (has_among n xs)
    where
      pick : (b : Bool) → eqb x.stamp n ≡ b → (b || has_stamp n xs) ≡ true → (has_stamp n xs ≡ true → (r : Receipt E) × Among r xs × (r.stamp ≡ n)) → (r : Receipt E) × Among r (x ∷ xs) × (r.stamp ≡ n)
      pick true is h rec = (x, inl refl, eqb-true _ _ is)
      pick false is h rec = let r = rec h in (r.0, inr r.1, r.2)

  pub numbered_range : (n : ℕ) (xs : List (Receipt E)) → Numbered n xs → (r : Receipt E) → Among r xs → (n ≤ r.stamp) × (r.stamp < n + length xs)
  numbered_range n [] h r a = absurd a
  numbered_range n (x ∷ xs) h r (inl e) = let s : r.stamp ≡ n = ap (λ (z : Receipt E). z.stamp) (sym e) ∙ h.0 in (omega arith, omega arith)
  numbered_range n (x ∷ xs) h r (inr a) = let k = numbered_range (suc n) xs h.1 r a in (omega arith, omega arith)

  pub numbered_push : (n : ℕ) (xs : List (Receipt E)) (r : Receipt E) → Numbered n xs → r.stamp ≡ n + length xs → Numbered n (xs ++ r ∷ [])
  numbered_push n [] r h e = (omega arith, tt)
  numbered_push n (x ∷ xs) r h e = (h.0, numbered_push (suc n) xs r h.1 (omega arith))

  pub numbered_rising : (n : ℕ) (xs : List (Receipt E)) → Numbered n xs → Rising xs
  numbered_rising n [] h = tt
  numbered_rising n (x ∷ xs) h = ((λ r a. let k = numbered_range (suc n) xs h.1 r a in let s = h.0 in omega arith), numbered_rising (suc n) xs h.1)

  -- equal stamps mean equal receipts
  pub numbered_same : (n : ℕ) (xs : List (Receipt E)) → Numbered n xs → (r s : Receipt E) → Among r xs → Among s xs → r.stamp ≡ s.stamp → r ≡ s
  numbered_same n [] h r s a b e = absurd a
  numbered_same n (x ∷ xs) h r s (inl p) (inl q) e = sym p ∙ q
  numbered_same n (x ∷ xs) h r s (inl p) (inr b) e =
      let k = numbered_range (suc n) xs h.1 s b in
      let t : r.stamp ≡ n = ap (λ (z : Receipt E). z.stamp) (sym p) ∙ h.0 in absurd (omega arith)
  numbered_same n (x ∷ xs) h r s (inr a) (inl q) e =
      let k = numbered_range (suc n) xs h.1 r a in
      let t : s.stamp ≡ n = ap (λ (z : Receipt E). z.stamp) (sym q) ∙ h.0 in absurd (omega arith)
  numbered_same n (x ∷ xs) h r s (inr a) (inr b) e = numbered_same (suc n) xs h.1 r s a b e

  pub among_filter : (test : Receipt E → Bool) (r : Receipt E) (xs : List (Receipt E)) → Among r (filter test xs) → Among r xs × (test r ≡ true)
  among_filter test r [] a = absurd a
  among_filter test r (x ∷ xs) a = pick (test x) refl (among_filter test r xs) a
    where
      pick : (b : Bool) → test x ≡ b → (Among r (filter test xs) → Among r xs × (test r ≡ true)) → Among r (cond b (x ∷ filter test xs) (filter test xs)) → Among r (x ∷ xs) × (test r ≡ true)
      pick true is rec (inl e) = (inl e, ap test (sym e) ∙ is)
      pick true is rec (inr h) = (inr (rec h).0, (rec h).1)
      pick false is rec h = (inr (rec h).0, (rec h).1)

  pub filter_among : (test : Receipt E → Bool) (r : Receipt E) (xs : List (Receipt E)) → Among r xs → test r ≡ true → Among r (filter test xs)
  filter_among test r [] a t = absurd a
  filter_among test r (x ∷ xs) a t = pick (test x) refl (λ h. filter_among test r xs h t) a
    where
      pick : (b : Bool) → test x ≡ b → (Among r xs → Among r (filter test xs)) → Among r (x ∷ xs) → Among r (cond b (x ∷ filter test xs) (filter test xs))
      pick true is rec (inl e) = inl e
      pick true is rec (inr h) = inr (rec h)
      pick false is rec (inl e) = absurd (true≢false (sym t ∙ ap test (sym e) ∙ is))
      pick false is rec (inr h) = rec h

  pub rising_filter : (test : Receipt E → Bool) (xs : List (Receipt E)) → Rising xs → Rising (filter test xs)
  rising_filter test [] h = tt
  rising_filter test (x ∷ xs) h = pick (test x) (rising_filter test xs h.1)
    where
      pick : (b : Bool) → Rising (filter test xs) → Rising (cond b (x ∷ filter test xs) (filter test xs))
      pick true rec = ((λ r a. h.0 r (among_filter test r xs a).0), rec)
      pick false rec = rec

  -- a rising list whose receipts all stand in another rising list is no longer than it
  pub rising_within : (xs ys : List (Receipt E)) → Rising xs → Rising ys → ((r : Receipt E) → Among r xs → Among r ys) → length xs ≤ length ys
  rising_within [] ys p q h = omega arith
  rising_within (x ∷ xs) [] p q h = absurd (h x (inl refl))
  rising_within (x ∷ xs) (y ∷ ys) p q h =
      ⊎_elim
      (λ (e : y ≡ x). let k = rising_within xs ys p.1 q.1 (λ r a. later r e a) in omega arith)
      (λ (b : Among x ys). let k = rising_within (x ∷ xs) ys p q.1 (λ r a. behind r b a) in omega arith)
      (h x (inl refl))
    where
      later : (r : Receipt E) → y ≡ x → Among r xs → Among r ys
      later r e a = ⊎_elim (λ (f : y ≡ r). let lt = p.0 r a in let s : x.stamp ≡ r.stamp = ap (λ (z : Receipt E). z.stamp) (sym e ∙ f) in absurd (omega arith)) (λ b. b) (h r (inr a))

      behind : (r : Receipt E) → Among x ys → Among r (x ∷ xs) → Among r ys
      behind r b a = ⊎_elim
          (λ (f : y ≡ r). let low = q.0 x b in let s : y.stamp ≡ r.stamp = ap (λ (z : Receipt E). z.stamp) f in absurd (below r a (omega arith)))
          (λ c. c)
          (h r a)
        where
          below : (r : Receipt E) → Among r (x ∷ xs) → r.stamp < x.stamp → ⊥
          below r (inl g) lt = let s : x.stamp ≡ r.stamp = ap (λ (z : Receipt E). z.stamp) g in omega arith
          below r (inr c) lt = let up = p.0 r c in omega arith

  -- two rising lists of the same receipts are one list
  pub rising_same : (xs ys : List (Receipt E)) → Rising xs → Rising ys → ((r : Receipt E) → Among r xs → Among r ys) → ((r : Receipt E) → Among r ys → Among r xs) → xs ≡ ys
  rising_same [] [] p q h g = refl
  rising_same [] (y ∷ ys) p q h g = absurd (g y (inl refl))
  rising_same (x ∷ xs) [] p q h g = absurd (h x (inl refl))
  rising_same (x ∷ xs) (y ∷ ys) p q h g =
      let same = heads in
      λ i. same i ∷ rising_same xs ys p.1 q.1 (λ r a. tail_of r (sym same) (p.0 r a) (h r (inr a))) (λ r a. tail_of' r same (q.0 r a) (g r (inr a))) i
    where
      heads : x ≡ y
      heads = ⊎_elim (λ (e : y ≡ x). sym e) (λ (b : Among x ys). ⊎_elim (λ (e : x ≡ y). e) (λ (c : Among y xs). let s = q.0 x b in let t = p.0 y c in absurd (omega arith)) (g y (inl refl))) (h x (inl refl))

      tail_of : (r : Receipt E) → y ≡ x → x.stamp < r.stamp → Among r (y ∷ ys) → Among r ys
      tail_of r e lt (inl f) = let s : x.stamp ≡ r.stamp = ap (λ (z : Receipt E). z.stamp) (sym e ∙ f) in absurd (omega arith)
      tail_of r e lt (inr b) = b

      tail_of' : (r : Receipt E) → x ≡ y → y.stamp < r.stamp → Among r (x ∷ xs) → Among r xs
      tail_of' r e lt (inl f) = let s : y.stamp ≡ r.stamp = ap (λ (z : Receipt E). z.stamp) (sym e ∙ f) in absurd (omega arith)
      tail_of' r e lt (inr b) = b
