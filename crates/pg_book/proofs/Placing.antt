-- Lists whose elements have facts by their places, and the rows of the needs.
use Rattle.std.proofs.Common.{◌≡◌, ℕ, zero, suc, ◌+◌, ◌<◌, ◌≤◌, List, [], ◌∷◌, ◌++◌, length, get_or, take, drop, All, vec_len, vec_capacity, length-append, le_trans, refl, sym, ap, ◌∙◌, subst, arith}
use Rattle.std.specs.Global.{Vec}
use Rattle.std.proofs.lemmas.List.Elements.{All-nil, All-cons}
use Rattle.pg_book.specs.declared.needs.Needs.{Needs}
use Rattle.pg_book.specs.Needs.{rows_of, part_entries, nothing_needed}
use Rattle.pg_book.specs.Opening.{EachFrom}

-- the first list of two, by its length
pub take_front : {A : Type 0} (n : ℕ) (xs ys : List A) → n ≡ length xs → take n (xs ++ ys) ≡ xs
take_front zero [] ys e = refl
take_front zero (x ∷ xs) ys e = absurd (omega arith)
take_front (suc n) [] ys e = absurd (omega arith)
take_front (suc n) (x ∷ xs) ys e = ap (λ l. x ∷ l) (take_front n xs ys (omega arith))

module _ {A : Type 0} where
  pub each_push : (P : ℕ → A → Type 0) (n k : ℕ) (xs : List A) (x : A) → EachFrom P n xs → n + length xs ≡ k → P k x → EachFrom P n (xs ++ x ∷ [])
  each_push P n k [] x h e p = (subst (λ (m : ℕ). P m x) (sym e ∙ omega arith) p, tt)
  each_push P n k (y ∷ xs) x h e p = (h.0, each_push P (suc n) k xs x h.1 (omega arith) p)

  pub each_nil : (P : ℕ → A → Type 0) (n : ℕ) (xs : List A) → xs ≡ [] → EachFrom P n xs
  each_nil P n xs e = subst (EachFrom P n) (sym e) tt

  pub each_map : (P Q : ℕ → A → Type 0) (n : ℕ) (xs : List A) → ((k : ℕ) (x : A) → P k x → Q k x) → EachFrom P n xs → EachFrom Q n xs
  each_map P Q n [] f h = tt
  each_map P Q n (x ∷ xs) f h = (f n x h.0, each_map P Q (suc n) xs f h.1)

  -- a fact that does not speak of the place
  pub each_all : (P : ℕ → A → Type 0) (Q : A → Type 0) (n : ℕ) (xs : List A) → ((k : ℕ) (x : A) → P k x → Q x) → EachFrom P n xs → All Q xs
  each_all P Q n [] f h = All-nil Q
  each_all P Q n (x ∷ xs) f h = All-cons Q x xs (f n x h.0) (each_all P Q (suc n) xs f h.1)

  -- the element behind the first ones
  pub each_at : (P : ℕ → A → Type 0) (n : ℕ) (xs ys : List A) (x : A) → EachFrom P n (xs ++ x ∷ ys) → P (n + length xs) x
  each_at P n [] ys x h = subst (λ (m : ℕ). P m x) (omega arith) h.0
  each_at P n (y ∷ xs) ys x h = subst (λ (m : ℕ). P m x) (omega arith) (each_at P (suc n) xs ys x h.1)

pub room_step : (needs : List (Vec Needs)) (i part : ℕ) (row : Vec Needs) → i < length needs → row ≡ get_or needs i row → part_entries (rows_of (drop i needs)) part ≡ (get_or row.items part nothing_needed).entries + part_entries (rows_of (drop (suc i) needs)) part
room_step [] i part row h e = absurd (omega arith)
room_step (x ∷ xs) zero part row h e = ap (λ (r : Vec Needs). (get_or r.items part nothing_needed).entries + part_entries (rows_of xs) part) (sym e)
room_step (x ∷ xs) (suc i) part row h e = room_step xs i part row (omega arith) e

pub length-rows_of : (needs : List (Vec Needs)) → length (rows_of needs) ≡ length needs
length-rows_of [] = refl
length-rows_of (x ∷ xs) = ap suc (length-rows_of xs)

-- n values so far, each as P says of its place, in a list with this room
pub record IsSoFar {A : Type 0} (P : ℕ → A → Type 0) (room n : ℕ) (made : Vec A) : Type 0 where
  pub each : EachFrom P 0 made.items
  pub items : length made.items ≡ n
  pub count : vec_len made ≡ n
  pub roomy : room ≤ vec_capacity made

pub so_far_push : {A : Type 0} (P : ℕ → A → Type 0) (room n : ℕ) (made new : Vec A) (x : A) → IsSoFar P room n made → P n x → new.items ≡ made.items ++ x ∷ [] → vec_len new ≡ vec_len made + 1 → vec_capacity made ≤ vec_capacity new → IsSoFar P room (n + 1) new
so_far_push P room n made new x s p items len cap = record {
  each = subst (EachFrom P 0) (sym items) (each_push P 0 n made.items x s.each (let e = s.items in omega arith) p);
  items = ap length items ∙ length-append made.items (x ∷ []) ∙ ap (λ (m : ℕ). m + 1) s.items;
  count = len ∙ ap (λ (m : ℕ). m + 1) s.count;
  roomy = le_trans s.roomy cap;
}
