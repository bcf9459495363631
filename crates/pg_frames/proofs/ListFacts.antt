-- What holds of a number in a list, of a list without a number, and of a list with no number twice.
use Rattle.std.proofs.Common.{◌≡◌, ◌≢◌, ℕ, zero, suc, ◌+◌, ◌-◌, ◌<◌, ◌≤◌, ◌⊎◌, Bool, true, false, not, cond, ◌||◌, eqb, List, [], ◌∷◌, ◌++◌, length, Option, Some, unwrap_or, drop, slice_get, refl, sym, ap, ◌∙◌, subst, inl, inr, arith}
use Rattle.std.specs.List.{IsDistinct, AllByRecursion}
use Rattle.std.proofs.lemmas.Bool.{eq-eqb, eqb-true, cases_eq, cases_Bool, false≢true}
use Rattle.std.proofs.lemmas.Map.Steps.{length-le_from_distinct_below}
use Rattle.pg_frames.specs.Queues.{stands, without, length_without, last_of, from_on}

pub ne_eqb : (a b : ℕ) → a ≢ b → eqb a b ≡ false
ne_eqb a b ne = elim (cases_Bool (eqb a b)) [ inl e ↦ absurd (ne (eqb-true a b e)) | inr e ↦ e ]

pub not_both : (b : Bool) → b ≡ true → b ≡ false → ⊥
not_both b t f = false≢true (sym f ∙ t)

-- ---- the first of a list is the number, or another
pub stands_here : (x y : ℕ) (ys : List ℕ) → x ≡ y → stands x (y ∷ ys) ≡ true
stands_here x y ys e = ap (λ b. b || stands x ys) (eq-eqb x y e)

pub stands_later : (x y : ℕ) (ys : List ℕ) → x ≢ y → stands x (y ∷ ys) ≡ stands x ys
stands_later x y ys ne = ap (λ b. b || stands x ys) (ne_eqb x y ne)

pub absent_first : (x y : ℕ) (ys : List ℕ) → stands x (y ∷ ys) ≡ false → x ≢ y
absent_first x y ys h e = not_both (stands x (y ∷ ys)) (stands_here x y ys e) h

pub absent_rest : (x y : ℕ) (ys : List ℕ) → stands x (y ∷ ys) ≡ false → stands x ys ≡ false
absent_rest x y ys h = sym (stands_later x y ys (absent_first x y ys h)) ∙ h

pub absent_both : (x y : ℕ) (ys : List ℕ) → x ≢ y → stands x ys ≡ false → stands x (y ∷ ys) ≡ false
absent_both x y ys ne h = stands_later x y ys ne ∙ h

pub standing : (x y : ℕ) (ys : List ℕ) → stands x (y ∷ ys) ≡ true → (x ≡ y) ⊎ (stands x ys ≡ true)
standing x y ys h = elim (cases_eq x y) [ inl e ↦ inl e | inr ne ↦ inr (sym (stands_later x y ys ne) ∙ h) ]

-- a bound on what stands in a list
pub absent_past : (n x : ℕ) (xs : List ℕ) → ((k : ℕ) → stands k xs ≡ true → k < n) → n ≤ x → stands x xs ≡ false
absent_past n x xs below le = elim (cases_Bool (stands x xs)) [ inl t ↦ absurd (omega (arith, below x t)) | inr f ↦ f ]

-- ---- a list without a number
pub without_here : (x y : ℕ) (ys : List ℕ) → x ≡ y → without x (y ∷ ys) ≡ without x ys
without_here x y ys e = ap (λ b. cond (not b) (y ∷ without x ys) (without x ys)) (eq-eqb x y e)

pub without_later : (x y : ℕ) (ys : List ℕ) → x ≢ y → without x (y ∷ ys) ≡ y ∷ without x ys
without_later x y ys ne = ap (λ b. cond (not b) (y ∷ without x ys) (without x ys)) (ne_eqb x y ne)

pub without_absent : (x : ℕ) (ys : List ℕ) → stands x ys ≡ false → without x ys ≡ ys
without_absent x [] h = refl
without_absent x (y ∷ ys) h = without_later x y ys (absent_first x y ys h) ∙ ap (λ l. y ∷ l) (without_absent x ys (absent_rest x y ys h))

pub stands-without : (x : ℕ) (ys : List ℕ) → stands x (without x ys) ≡ false
stands-without x [] = refl
stands-without x (y ∷ ys) = elim (cases_eq x y) [
  | inl e ↦ ap (stands x) (without_here x y ys e) ∙ stands-without x ys
  | inr ne ↦ ap (stands x) (without_later x y ys ne) ∙ absent_both x y (without x ys) ne (stands-without x ys)
]

pub stands-without_other : (x z : ℕ) (ys : List ℕ) → z ≢ x → stands z (without x ys) ≡ stands z ys
stands-without_other x z [] ne = refl
stands-without_other x z (y ∷ ys) ne = elim (cases_eq x y) [
  | inl e ↦ ap (stands z) (without_here x y ys e) ∙ stands-without_other x z ys ne ∙ sym (stands_later z y ys (λ same. ne (same ∙ sym e)))
  | inr apart ↦ ap (stands z) (without_later x y ys apart) ∙ ap (λ b. eqb z y || b) (stands-without_other x z ys ne)
]

-- what stands in a list without a number stands in the list
pub stands-from_without : (x z : ℕ) (ys : List ℕ) → stands z (without x ys) ≡ true → stands z ys ≡ true
stands-from_without x z ys h = elim (cases_eq z x) [
  | inl e ↦ absurd (not_both (stands x (without x ys)) (subst (λ k. stands k (without x ys) ≡ true) e h) (stands-without x ys))
  | inr ne ↦ sym (stands-without_other x z ys ne) ∙ h
]

pub length-without_absent : (x : ℕ) (ys : List ℕ) → stands x ys ≡ false → length (without x ys) ≡ length ys
length-without_absent x ys h = ap length (without_absent x ys h)

-- ---- a list with no number twice
absent_from_all : (x : ℕ) (ys : List ℕ) → AllByRecursion (λ y. eqb x y ≡ false) ys → stands x ys ≡ false
absent_from_all x [] all = refl
absent_from_all x (y ∷ ys) all = ap (λ b. b || stands x ys) all.0 ∙ absent_from_all x ys all.1

pub once_first : (x : ℕ) (xs : List ℕ) → IsDistinct eqb (x ∷ xs) → stands x xs ≡ false
unfolding IsDistinct
once_first x xs h = absent_from_all x xs h.0

pub once_rest : (x : ℕ) (xs : List ℕ) → IsDistinct eqb (x ∷ xs) → IsDistinct eqb xs
unfolding IsDistinct
once_rest x xs h = h.1

all_apart : (x : ℕ) (ys : List ℕ) → stands x ys ≡ false → AllByRecursion (λ y. eqb x y ≡ false) ys
all_apart x [] h = tt
all_apart x (y ∷ ys) h = (ne_eqb x y (absent_first x y ys h), all_apart x ys (absent_rest x y ys h))

pub once_more : (x : ℕ) (xs : List ℕ) → stands x xs ≡ false → IsDistinct eqb xs → IsDistinct eqb (x ∷ xs)
unfolding IsDistinct
once_more x xs absent once = (all_apart x xs absent, once)

pub once_none : IsDistinct eqb []
unfolding IsDistinct
once_none = tt

pub once-without : (x : ℕ) (ys : List ℕ) → IsDistinct eqb ys → IsDistinct eqb (without x ys)
once-without x [] once = once_none
once-without x (y ∷ ys) once = elim (cases_eq x y) [
  | inl e ↦ subst (IsDistinct eqb) (sym (without_here x y ys e)) (once-without x ys (once_rest y ys once))
  | inr ne ↦ subst (IsDistinct eqb) (sym (without_later x y ys ne)) (once_more y (without x ys)
      (stands-without_other x y ys (λ e. ne (sym e)) ∙ once_first y ys once) (once-without x ys (once_rest y ys once)))
]

-- so many numbers below a bound are at most the bound
pub length_below : (xs : List ℕ) (n : ℕ) → IsDistinct eqb xs → ((k : ℕ) → stands k xs ≡ true → k < n) → length xs ≤ n
length_below xs n once below = length-le_from_distinct_below xs n once below

-- one that stands in a list is one less without it
pub length-without : (x : ℕ) (ys : List ℕ) → IsDistinct eqb ys → stands x ys ≡ true → length (without x ys) + 1 ≡ length ys
length-without x [] once h = absurd (false≢true h)
length-without x (y ∷ ys) once h = elim (cases_eq x y) [
  | inl e ↦
      let gone = ap length (without_here x y ys e) in
      let rest = length-without_absent x ys (subst (λ k. stands k ys ≡ false) (sym e) (once_first y ys once)) in omega (arith, gone, rest)
  | inr ne ↦
      let here = ap length (without_later x y ys ne) in
      let rest = length-without x ys (once_rest y ys once) (sym (stands_later x y ys ne) ∙ h) in omega (arith, here, rest)
]

-- ---- the ends of a list, and numbers one after another
pub first_stands : (x : ℕ) (xs : List ℕ) → slice_get xs 0 ≡ Some x → stands x xs ≡ true
first_stands x [] e = cc
first_stands x (y ∷ ys) e = stands_here x y ys (sym (ap (λ o. unwrap_or o 0) e))

pub first_gone : (x : ℕ) (xs : List ℕ) → IsDistinct eqb xs → slice_get xs 0 ≡ Some x → without x xs ≡ drop 1 xs
first_gone x [] once e = refl
first_gone x (y ∷ ys) once e =
    let same : x ≡ y = sym (ap (λ o. unwrap_or o 0) e) in
    without_here x y ys same ∙ without_absent x ys (subst (λ k. stands k ys ≡ false) (sym same) (once_first y ys once))

pub first_fewer : (x : ℕ) (xs : List ℕ) → slice_get xs 0 ≡ Some x → length (drop 1 xs) + 1 ≡ length xs
first_fewer x [] e = cc
first_fewer x (y ∷ ys) e = omega arith

pub absent_from_on : (k first n : ℕ) → k < first → stands k (from_on first n) ≡ false
absent_from_on k first zero lt = refl
absent_from_on k first (suc n) lt = absent_both k first (from_on (first + 1) n) (λ e. omega (arith, lt, e)) (absent_from_on k (first + 1) n (omega (arith, lt)))

pub from_on_more : (n number count : ℕ) → number ≡ n + 1 → number ≤ count → n ∷ from_on number (count - number) ≡ from_on n (count - n)
from_on_more n number count e le =
    let one : count - n ≡ suc (count - number) = omega (arith, e, le) in ap (λ k. n ∷ from_on k (count - number)) e ∙ sym (ap (from_on n) one)

-- ---- the length and the end of a list with no number twice
pub length_is : (x : ℕ) (ys : List ℕ) → IsDistinct eqb ys → length (without x ys) ≡ length_without x ys
length_is x ys once = elim (cases_Bool (stands x ys)) [
  | inl t ↦ let one = length-without x ys once t in let less : length (without x ys) ≡ length ys - 1 = omega (arith, one) in less ∙ sym (ap (λ b. cond b (length ys - 1) (length ys)) t)
  | inr f ↦ length-without_absent x ys f ∙ sym (ap (λ b. cond b (length ys - 1) (length ys)) f)
]

one_off : (n : ℕ) → suc n - 1 ≡ n
one_off n = omega arith

pub last_first : (y : ℕ) (ys : List ℕ) → last_of (y ∷ ys) ≡ slice_get (y ∷ ys) (length ys)
last_first y ys = ap (slice_get (y ∷ ys)) (one_off (length ys))

pub some_same : (x y : ℕ) → ◌≡◌ {A = Option ℕ} (Some x) (Some y) → x ≡ y
some_same x y e = ap (λ o. unwrap_or o 0) e

pub behind : (k x : ℕ) (xs : List ℕ) → stands k xs ≡ true → stands k (x ∷ xs) ≡ true
behind k x xs h = elim (cases_eq k x) [ inl e ↦ stands_here k x xs e | inr ne ↦ stands_later k x xs ne ∙ h ]

at_end : (y : ℕ) (ys : List ℕ) (x : ℕ) → slice_get (y ∷ ys) (length ys) ≡ Some x → stands x (y ∷ ys) ≡ true
at_end y [] x e = stands_here x y [] (sym (some_same y x e))
at_end y (z ∷ zs) x e = behind x y (z ∷ zs) (at_end z zs x e)

pub last_stands : (list : List ℕ) (x : ℕ) → last_of list ≡ Some x → stands x list ≡ true
last_stands [] x e = cc
last_stands (y ∷ ys) x e = at_end y ys x (sym (last_first y ys) ∙ e)

ends_by : (y : ℕ) (ys : List ℕ) (x : ℕ) → IsDistinct eqb (y ∷ ys) → slice_get (y ∷ ys) (length ys) ≡ Some x → without x (y ∷ ys) ++ x ∷ [] ≡ y ∷ ys
ends_by y [] x once e = let same : x ≡ y = sym (some_same y x e) in
    ap (λ l. l ++ x ∷ []) (without_here x y [] same) ∙ ap (λ k. k ∷ []) same
ends_by y (z ∷ zs) x once e =
    let rest = z ∷ zs in
    let other : x ≢ y = λ same. not_both (stands y rest) (subst (λ k. stands k rest ≡ true) same (at_end z zs x e)) (once_first y rest once) in
    ap (λ l. l ++ x ∷ []) (without_later x y rest other) ∙ ap (λ l. y ∷ l) (ends_by z zs x (once_rest y rest once) e)

-- the last stands behind all others
pub last_ends : (list : List ℕ) (x : ℕ) → IsDistinct eqb list → last_of list ≡ Some x → without x list ++ x ∷ [] ≡ list
last_ends [] x once e = cc
last_ends (y ∷ ys) x once e = ends_by y ys x once (sym (last_first y ys) ∙ e)
