-- Lists of entries that are merged into one.
use Rattle.std.proofs.Common.{◌≡◌, ℕ, zero, suc, ◌<◌, List, [], ◌∷◌, ◌++◌, length, flat_map, get_or, slice_set, IsPermutation, ◌∙◌, subst, arith, append_assoc, append-nil, length-append}
use Rattle.std.specs.Global.{Vec}
use Rattle.std.proofs.lemmas.List.Sorted.{IsPermutation-refl, IsPermutation-trans, IsPermutation-append_left, IsPermutation-append_right, IsPermutation-append_comm, length_permutation}
use Rattle.pg_book.specs.declared.receipt.Stamped.{Stamped}
use Rattle.pg_book.specs.Merging.{Moves}

module _ {A : Type 0} where
  -- the middle one of three lists comes first
  pub middle_first : (xs ys zs : List A) → IsPermutation (xs ++ (ys ++ zs)) (ys ++ (xs ++ zs))
  middle_first xs ys zs =
      subst (λ l. IsPermutation (xs ++ (ys ++ zs)) l) (append_assoc ys xs zs)
      (subst (λ l. IsPermutation l ((ys ++ xs) ++ zs)) (append_assoc xs ys zs) (IsPermutation-append_left zs (xs ++ ys) (ys ++ xs) (IsPermutation-append_comm xs ys)))

module _ {D A : Type 0} (items : D → List A) where
  -- the elements of all lists but the k-th
  abbrev pub others : List D → ℕ → List A
  others [] k = []
  others (x ∷ xs) zero = flat_map items xs
  others (x ∷ xs) (suc k) = items x ++ others xs k

  -- the elements of the k-th list, and then those of the others
  pub part_first : (lists : List D) (k : ℕ) (d : D) → k < length lists → IsPermutation (flat_map items lists) (items (get_or lists k d) ++ others lists k)
  part_first [] k d lt = absurd (omega arith)
  part_first (x ∷ xs) zero d lt = IsPermutation-refl (items x ++ flat_map items xs)
  part_first (x ∷ xs) (suc k) d lt =
      IsPermutation-trans _ _ _ (IsPermutation-append_right (items x) _ _ (part_first xs k d (omega arith))) (middle_first (items x) (items (get_or xs k d)) (others xs k))

  -- the same once the k-th list is another
  set_first : (lists : List D) (k : ℕ) (new : D) → k < length lists → IsPermutation (items new ++ others lists k) (flat_map items (slice_set lists k new))
  set_first [] k new lt = absurd (omega arith)
  set_first (x ∷ xs) zero new lt = IsPermutation-refl (items new ++ flat_map items xs)
  set_first (x ∷ xs) (suc k) new lt =
      IsPermutation-trans _ _ _ (middle_first (items new) (items x) (others xs k)) (IsPermutation-append_right (items x) _ _ (set_first xs k new (omega arith)))

module _ {E : Type 0} where
  -- one move and then another
  pub moves_on : (u v w : Vec (Stamped E)) (all some left : List (Stamped E)) → Moves u all v some → Moves v some w left → Moves u all w left
  moves_on u v w all some left a b = record {
    same = IsPermutation-trans _ _ _ a.same b.same;
    count = b.count ∙ a.count;
    capacity = b.capacity ∙ a.capacity;
  }

  -- the lists stand in any order
  pub moves_among : (v w : Vec (Stamped E)) (all some all' some' : List (Stamped E)) → IsPermutation all' all → IsPermutation some some' → Moves v all w some → Moves v all' w some'
  moves_among v w all some all' some' p q m = record {
    same = IsPermutation-trans _ _ _ (IsPermutation-append_right v.items _ _ p) (IsPermutation-trans _ _ _ m.same (IsPermutation-append_right w.items _ _ q));
    count = (let a = length_permutation _ _ p in let b = length_permutation _ _ q in let c = m.count in omega (arith, a, b, c));
    capacity = m.capacity;
  }

  -- further entries stay where they are
  pub moves_beside : (v w : Vec (Stamped E)) (all left more : List (Stamped E)) → Moves v all w left → Moves v (all ++ more) w (left ++ more)
  moves_beside v w all left more m = record {
    same = subst (λ l. IsPermutation l (w.items ++ (left ++ more))) (append_assoc v.items all more) (subst (IsPermutation ((v.items ++ all) ++ more)) (append_assoc w.items left more) (IsPermutation-append_left more _ _ m.same));
    count = (let a = length-append all more in let b = length-append left more in let c = m.count in omega (arith, a, b, c));
    capacity = m.capacity;
  }

  -- entries of the k-th list
  pub moves_at : {D : Type 0} (items : D → List (Stamped E)) (lists : List D) (k : ℕ) (d new : D) (v w : Vec (Stamped E)) → k < length lists → Moves v (items (get_or lists k d)) w (items new) → Moves v (flat_map items lists) w (flat_map items (slice_set lists k new))
  moves_at items lists k d new v w lt m =
      moves_among v w _ _ _ _ (part_first items lists k d lt) (set_first items lists k new lt) (moves_beside v w _ _ (others items lists k) m)

  -- nothing is left
  pub moved_all : (v w : Vec (Stamped E)) (all : List (Stamped E)) → v.items ≡ [] → Moves v all w [] → IsPermutation all w.items
  moved_all v w all none m =
      subst (IsPermutation all) (append-nil w.items) (subst (λ l. IsPermutation (l ++ all) (w.items ++ [])) none m.same)
