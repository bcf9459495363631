-- How many receipts there are: the entries of all needs bound the log, and those of a part bound its list.
use Rattle.std.proofs.Common.{◌≡◌, ℕ, zero, suc, ◌+◌, ◌<◌, ◌≤◌, Bool, true, false, true≢false, cond, eqb, List, [], ◌∷◌, length, get_or, filter, refl, sym, ap, ◌∙◌, subst, inl, inr, arith, eqb-true, eq-eqb, ne_eqb}
use Rattle.pg_book.specs.declared.needs.Needs.{Needs}
use Rattle.pg_book.specs.declared.receipt.Receipt.{Receipt}
use Rattle.pg_book.specs.Needs.{nothing_needed, entries_at, parts_of, row_entries, all_entries, part_entries}
use Rattle.pg_book.specs.Lists.{Among, IsLog, of_part, of_caller}
use Rattle.pg_book.proofs.ListFacts.{among_filter}

-- f 0 + .. + f (n - 1)
abbrev pub sum_to : ℕ → (ℕ → ℕ) → ℕ
sum_to zero f = 0
sum_to (suc n) f = f 0 + sum_to n (λ k. f (suc k))

sum_to_le : (n : ℕ) (f g : ℕ → ℕ) → ((k : ℕ) → k < n → f k ≤ g k) → sum_to n f ≤ sum_to n g
sum_to_le zero f g h = omega arith
sum_to_le (suc n) f g h =
    let a = h 0 (omega arith) in
    let b = sum_to_le n (λ k. f (suc k)) (λ k. g (suc k)) (λ k lt. h (suc k) (omega arith)) in omega arith

-- one is added at the place j
abbrev one_at : ℕ → ℕ → ℕ
one_at j k = cond (eqb j k) 1 0

one_at_suc : (j k : ℕ) → one_at (suc j) (suc k) ≡ one_at j k
one_at_suc j k = pick (eqb j k) refl
  where
    pick : (b : Bool) → eqb j k ≡ b → one_at (suc j) (suc k) ≡ cond b 1 0
    pick true e = ap (λ (b : Bool). cond b 1 0) (eq-eqb (suc j) (suc k) (ap suc (eqb-true j k e)))
    pick false e = ap (λ (b : Bool). cond b 1 0) (ne_eqb (suc j) (suc k) (λ h. true≢false (sym (eq-eqb j k (omega arith)) ∙ e)))

one_at_zero : (k : ℕ) → one_at 0 (suc k) ≡ 0
one_at_zero k = ap (λ (b : Bool). cond b 1 0) (ne_eqb 0 (suc k) (λ h. omega arith))

sum_to_one : (n j : ℕ) (f g : ℕ → ℕ) → j < n → ((k : ℕ) → f k ≡ one_at j k + g k) → sum_to n f ≡ suc (sum_to n g)
sum_to_one zero j f g lt h = absurd (omega arith)
sum_to_one (suc n) zero f g lt h =
    let a : f 0 ≡ 1 + g 0 = h 0 ∙ ap (λ (b : Bool). cond b 1 0 + g 0) (eq-eqb 0 0 refl) in
    let b = sum_to_same n (λ k. f (suc k)) (λ k. g (suc k)) (λ k. h (suc k) ∙ ap (λ (m : ℕ). m + g (suc k)) (one_at_zero k)) in omega arith
  where
    sum_to_same : (n : ℕ) (f g : ℕ → ℕ) → ((k : ℕ) → f k ≡ 0 + g k) → sum_to n f ≡ sum_to n g
    sum_to_same zero f g h = refl
    sum_to_same (suc n) f g h = let a = h 0 in let b = sum_to_same n (λ k. f (suc k)) (λ k. g (suc k)) (λ k. h (suc k)) in omega arith
sum_to_one (suc n) (suc j) f g lt h =
    let a : f 0 ≡ 0 + g 0 = h 0 ∙ ap (λ (b : Bool). cond b 1 0 + g 0) (ne_eqb (suc j) 0 (λ e. omega arith)) in
    let b = sum_to_one n j (λ k. f (suc k)) (λ k. g (suc k)) (omega arith) (λ k. h (suc k) ∙ ap (λ (m : ℕ). m + g (suc k)) (one_at_suc j k)) in omega arith

-- the rows' sums
row_le : (n : ℕ) (row : List Needs) → sum_to n (λ k. (get_or row k nothing_needed).entries) ≤ row_entries row
row_le zero row = omega arith
row_le (suc n) [] = let a = row_le n [] in omega arith
row_le (suc n) (x ∷ row) = let a = row_le n row in omega arith

rows_le : (n : ℕ) (needs : List (List Needs)) → sum_to n (λ k. row_entries (get_or needs k [])) ≤ all_entries needs
rows_le zero needs = omega arith
rows_le (suc n) [] = let a = rows_le n [] in omega arith
rows_le (suc n) (row ∷ rows) = let a = rows_le n rows in omega arith

column_is : (part : ℕ) (needs : List (List Needs)) → sum_to (length needs) (λ k. entries_at needs k part) ≡ part_entries needs part
column_is part [] = refl
column_is part (row ∷ rows) = let a = column_is part rows in omega arith

module _ {E : Type 0} where
  -- the list is counted by the number that f gives of each receipt
  tallied : (n : ℕ) (f : Receipt E → ℕ) (xs : List (Receipt E)) → ((r : Receipt E) → Among r xs → f r < n) → length xs ≡ sum_to n (λ k. length (filter (λ r. eqb (f r) k) xs))
  tallied n f [] h = sym (zeros n)
    where
      zeros : (n : ℕ) → sum_to n (λ k. 0) ≡ 0
      zeros zero = refl
      zeros (suc n) = let a = zeros n in omega arith
  tallied n f (x ∷ xs) h =
      let rec = tallied n f xs (λ r a. h r (inr a)) in
      let one = sum_to_one n (f x) (λ k. length (filter (λ r. eqb (f r) k) (x ∷ xs))) (λ k. length (filter (λ r. eqb (f r) k) xs)) (h x (inl refl)) (λ k. counted (eqb (f x) k) (filter (λ r. eqb (f r) k) xs)) in
      ap suc rec ∙ sym one
    where
      counted : (b : Bool) (ys : List (Receipt E)) → length (cond b (x ∷ ys) ys) ≡ cond b 1 0 + length ys
      counted true ys = omega arith
      counted false ys = omega arith

  pub length-of_part : (n : ℕ) (xs : List (Receipt E)) → ((r : Receipt E) → Among r xs → r.part < n) → length xs ≡ sum_to n (λ k. length (of_part k xs))
  length-of_part n xs h = tallied n (λ r. r.part) xs h

  -- the order of the two tests does not matter
  swap_filters : (p q : Receipt E → Bool) (xs : List (Receipt E)) → filter p (filter q xs) ≡ filter q (filter p xs)
  swap_filters p q [] = refl
  swap_filters p q (x ∷ xs) = pick (p x) (q x) refl refl (swap_filters p q xs)
    where
      pick : (b c : Bool) → p x ≡ b → q x ≡ c → filter p (filter q xs) ≡ filter q (filter p xs) → filter p (cond c (x ∷ filter q xs) (filter q xs)) ≡ filter q (cond b (x ∷ filter p xs) (filter p xs))
      pick true true e f rec = ap (λ (v : Bool). cond v (x ∷ filter p (filter q xs)) (filter p (filter q xs))) e ∙ ap (λ l. x ∷ l) rec ∙ sym (ap (λ (v : Bool). cond v (x ∷ filter q (filter p xs)) (filter q (filter p xs))) f)
      pick true false e f rec = rec ∙ sym (ap (λ (v : Bool). cond v (x ∷ filter q (filter p xs)) (filter q (filter p xs))) f)
      pick false true e f rec = ap (λ (v : Bool). cond v (x ∷ filter p (filter q xs)) (filter p (filter q xs))) e ∙ rec
      pick false false e f rec = rec

  -- a log is no longer than all entries that are needed
  pub length-log : (needs : List (List Needs)) (log : List (Receipt E)) → IsLog needs log → length log ≤ all_entries needs
  length-log needs log h =
      let by_caller = tallied (length needs) (λ r. r.caller) log h.callers in
      let each : (c : ℕ) → c < length needs → length (of_caller c log) ≤ row_entries (get_or needs c []) = λ c lt. of_one c in
      let a = sum_to_le (length needs) (λ c. length (of_caller c log)) (λ c. row_entries (get_or needs c [])) each in
      let b = rows_le (length needs) needs in omega arith
    where
      of_one : (c : ℕ) → length (of_caller c log) ≤ row_entries (get_or needs c [])
      of_one c =
          let by_part = tallied (parts_of needs) (λ r. r.part) (of_caller c log) (λ r a. h.parts r (among_filter (λ s. eqb s.caller c) r log a).0) in
          let a = sum_to_le (parts_of needs) (λ k. length (of_part k (of_caller c log))) (λ k. entries_at needs c k) (λ k lt. subst (λ (l : List (Receipt E)). length l ≤ entries_at needs c k) (swap_filters (λ s. eqb s.caller c) (λ s. eqb s.part k) log) (h.within c k)) in
          let b = row_le (parts_of needs) (get_or needs c []) in omega arith

  -- a part's list is no longer than the entries that are needed there
  pub length-part : (needs : List (List Needs)) (part : ℕ) (xs : List (Receipt E)) → ((r : Receipt E) → Among r xs → r.caller < length needs) → ((c : ℕ) → length (of_caller c xs) ≤ entries_at needs c part) → length xs ≤ part_entries needs part
  length-part needs part xs callers within =
      let t = tallied (length needs) (λ r. r.caller) xs callers in
      let a = sum_to_le (length needs) (λ c. length (of_caller c xs)) (λ c. entries_at needs c part) (λ c lt. within c) in
      let b = column_is part needs in omega arith

  -- and shorter, where some caller has fewer
  pub length-part_lt : (needs : List (List Needs)) (part : ℕ) (xs : List (Receipt E)) (caller : ℕ) → ((r : Receipt E) → Among r xs → r.caller < length needs) → ((c : ℕ) → length (of_caller c xs) ≤ entries_at needs c part) → caller < length needs → length (of_caller caller xs) < entries_at needs caller part → length xs < part_entries needs part
  length-part_lt needs part xs caller callers within is fewer =
      let t = tallied (length needs) (λ r. r.caller) xs callers in
      let more : (c : ℕ) → one_at caller c + length (of_caller c xs) ≤ entries_at needs c part = λ c. pick c (eqb caller c) refl in
      let a = sum_to_le (length needs) (λ c. one_at caller c + length (of_caller c xs)) (λ c. entries_at needs c part) (λ c lt. more c) in
      let one = sum_to_one (length needs) caller (λ c. one_at caller c + length (of_caller c xs)) (λ c. length (of_caller c xs)) is (λ k. refl) in
      let b = column_is part needs in omega arith
    where
      pick : (c : ℕ) (b : Bool) → eqb caller c ≡ b → cond b 1 0 + length (of_caller c xs) ≤ entries_at needs c part
      pick c true e = let s : caller ≡ c = eqb-true _ _ e in let f : length (of_caller c xs) < entries_at needs c part = subst (λ (k : ℕ). length (of_caller k xs) < entries_at needs k part) s fewer in omega arith
      pick c false e = let w = within c in omega arith

entry_le : (row : List Needs) (part : ℕ) → (get_or row part nothing_needed).entries ≤ row_entries row
entry_le [] part = omega arith
entry_le (x ∷ row) zero = omega arith
entry_le (x ∷ row) (suc part) = let a = entry_le row part in omega arith

pub part_le : (needs : List (List Needs)) (part : ℕ) → part_entries needs part ≤ all_entries needs
part_le [] part = omega arith
part_le (row ∷ rows) part = let a = entry_le row part in let b = part_le rows part in omega arith
