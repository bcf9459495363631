-- Which pages data reach, and what a write puts on each of them.
use Rattle.std.proofs.Common.{◌≡◌, ◌≢◌, ℕ, zero, suc, ◌+◌, ◌-◌, ◌*◌, ◌/◌, ◌<◌, ◌==◌, Bool, true, false, List, length, take, drop, replicate, refl, sym, ap, ◌∙◌, arith}
use Rattle.std.specs.Prelude.{◌&&◌, nat_lt, nat_le, IsTrue, min, find, is_some}
use Rattle.std.specs.List.{range_with_len}
use Rattle.std.proofs.lemmas.Grind.{common_steps}
use Rattle.std.proofs.lemmas.List.{take-replicate, drop-replicate, take_min}
use Rattle.pg_bytes.specs.PageSize.{is_page_size}
use Rattle.pg_plain.specs.Steps.{is_reached}
use Rattle.pg_object.specs.Writes.{offset_on, part_on, part_before}
use Rattle.pg_object.proofs.SizeFacts.{each_size}

-- ---- the part of the data on a page

short_take : {X : Type 0} (n : ℕ) (xs : List X) → take (min (length xs) n) xs ≡ take n xs
short_take n xs = ap (λ m. take m xs) {x = min (length xs) n} {y = min n (length xs)} (omega arith) ∙ take_min n xs

pub part_is : (size at page : ℕ) (bytes : List ℕ) (offset start stop : ℕ) → offset ≡ offset_on size at page → start ≡ page * size - at
    → stop ≡ start + min (length bytes - start) (size - offset) → part_on size at bytes page ≡ take (stop - start) (drop start bytes)
part_is size at page bytes offset start stop e f g =
    let long : page * size + size - (at + (page * size - at)) ≡ size - offset = omega arith in
    let count : stop - start ≡ min (length (drop start bytes)) (size - offset) = grind (arith, common_steps, g) in
    ap (λ n. take n (drop (page * size - at) bytes)) long
    ∙ ap (λ n. take (size - offset) (drop n bytes)) (sym f)
    ∙ sym (short_take (size - offset) (drop start bytes))
    ∙ ap (λ n. take n (drop start bytes)) (sym count)

pub part_filled : (size at page count byte offset start stop : ℕ) → offset ≡ offset_on size at page → start ≡ page * size - at
    → stop ≡ start + min (count - start) (size - offset) → part_on size at (replicate count byte) page ≡ replicate (stop - start) byte
part_filled size at page count byte offset start stop e f g =
    let long : length (replicate count byte) ≡ count = grind (arith, common_steps) in
    part_is size at page (replicate count byte) offset start stop e f (g ∙ ap (λ n. start + min (n - start) (size - offset)) (sym long))
    ∙ ap (take (stop - start)) (drop-replicate start count byte) ∙ take-replicate (stop - start) (count - start) byte (omega arith)

-- ---- which pages are reached

-- the data have a byte on the page
abbrev pub Reaches : ℕ → ℕ → ℕ → ℕ → Type 0
Reaches size at count page = (0 < count) × (at < page * size + size) × (page * size < at + count)

in_range : (first n q : ℕ) → is_some (find (λ p. p == q) (range_with_len first n)) ≡ (nat_le first q && nat_lt q (first + n))
in_range first zero q = grind (arith, common_steps)
in_range first (suc n) q = by_test (first == q) refl (in_range (first + 1) n q)
  where
    by_test : (b : Bool) → (first == q) ≡ b → is_some (find (λ p. p == q) (range_with_len (first + 1) n)) ≡ (nat_le (first + 1) q && nat_lt q (first + 1 + n))
        → is_some (find (λ p. p == q) (range_with_len first (suc n))) ≡ (nat_le first q && nat_lt q (first + suc n))
    by_test true e rest = grind (arith, common_steps, e)
    by_test false e rest = grind (arith, common_steps, e, rest)

pub reached_true : (size at count page : ℕ) → IsTrue (is_page_size size) → is_reached size at count page ≡ true → Reaches size at count page
reached_true size at zero page known e = absurd (grind (arith, common_steps, e))
reached_true size at (suc count) page known e =
    let inside = sym (in_range (at / size) ((at + (suc count - 1)) / size + 1 - at / size) page) ∙ e in
    each_size (λ s. (nat_le (at / s) page && nat_lt page (at / s + ((at + (suc count - 1)) / s + 1 - at / s))) ≡ true → Reaches s at (suc count) page) size known
    (λ f. by_both (omega arith) (grind (arith, common_steps, f)) (grind (arith, common_steps, f))) (λ f. by_both (omega arith) (grind (arith, common_steps, f)) (grind (arith, common_steps, f))) inside
  where
    by_both : {A B C : Type 0} → A → B → C → A × B × C
    by_both a b c = (a, b, c)

pub reached_from : (size at count page : ℕ) → IsTrue (is_page_size size) → Reaches size at count page → is_reached size at count page ≡ true
reached_from size at zero page known r = absurd (omega (arith, r.0))
reached_from size at (suc count) page known r =
    in_range (at / size) ((at + (suc count - 1)) / size + 1 - at / size) page
    ∙ each_size (λ s. Reaches s at (suc count) page → (nat_le (at / s) page && nat_lt page (at / s + ((at + (suc count - 1)) / s + 1 - at / s))) ≡ true) size known
    (λ f. grind (arith, common_steps, f.1, f.2)) (λ f. grind (arith, common_steps, f.1, f.2)) r

-- ---- the data before a page

-- the same of numbers: what the data before the next page reach, by what those before this one reach
abbrev Step : ℕ → ℕ → ℕ → ℕ → ℕ → Type 0
Step s at len page q =
    (Reaches s at (min (page * s + s - at) len) q → q ≢ page → Reaches s at (page * s - at) q)
    × (Reaches s at (page * s - at) q → Reaches s at (min (page * s + s - at) len) q)
    × Reaches s at (min (page * s + s - at) len) page
    × (Reaches s at (page * s - at) page → ⊥)

step_of : (s at len page q : ℕ) → IsTrue (is_page_size s) → Reaches s at len page → Step s at len page q
step_of s at len page q known reaches = each_size (λ s. Reaches s at len page → Step s at len page q) s known small large reaches
  where
    small : Reaches 4096 at len page → Step 4096 at len page q
    small (some, ends, begins) = (
      λ (a, b, c) apart. (omega arith, omega arith, omega arith),
      λ (a, b, c). (omega arith, omega arith, omega arith),
      (omega arith, omega arith, omega arith),
      λ (a, b, c). omega arith,
    )

    large : Reaches 16384 at len page → Step 16384 at len page q
    large (some, ends, begins) = (
      λ (a, b, c) apart. (omega arith, omega arith, omega arith),
      λ (a, b, c). (omega arith, omega arith, omega arith),
      (omega arith, omega arith, omega arith),
      λ (a, b, c). omega arith,
    )

-- a page is reached by the data before the next page where it is by the data before this one, or is this one
module _ (size at : ℕ) (bytes : List ℕ) (page : ℕ) (known : IsTrue (is_page_size size)) (reaches : Reaches size at (length bytes) page) where
  pub long_before : length (part_before size at bytes page) ≡ page * size - at
  long_before = grind (arith, common_steps, reaches.2)

  pub long_next : length (part_before size at bytes (page + 1)) ≡ min (page * size + size - at) (length bytes)
  long_next = each_size (λ s. length (take ((page + 1) * s - at) bytes) ≡ min (page * s + s - at) (length bytes)) size known (grind (arith, common_steps)) (grind (arith, common_steps))

  pub reached_here : is_reached size at (length (part_before size at bytes (page + 1))) page ≡ true
  reached_here = ap (λ n. is_reached size at n page) long_next ∙ reached_from size at (min (page * size + size - at) (length bytes)) page known (step_of size at (length bytes) page page known reaches).2

  pub not_reached : is_reached size at (length (part_before size at bytes page)) page ≡ false
  not_reached = ap (λ n. is_reached size at n page) long_before ∙ by_test (is_reached size at (page * size - at) page) refl
    where
      by_test : (b : Bool) → is_reached size at (page * size - at) page ≡ b → b ≡ false
      by_test false e = refl
      by_test true e = absurd ((step_of size at (length bytes) page page known reaches).3 (reached_true size at (page * size - at) page known e))

  pub reached_other : (q : ℕ) → (q == page) ≡ false → is_reached size at (length (part_before size at bytes (page + 1))) q ≡ is_reached size at (length (part_before size at bytes page)) q
  reached_other q apart =
      ap (λ n. is_reached size at n q) long_next
      ∙ by_both (is_reached size at (min (page * size + size - at) (length bytes)) q) (is_reached size at (page * size - at) q) refl refl
      ∙ sym (ap (λ n. is_reached size at n q) long_before)
    where
      differ : q ≢ page
      differ = grind (arith, common_steps, apart)

      by_both : (a b : Bool) → is_reached size at (min (page * size + size - at) (length bytes)) q ≡ a → is_reached size at (page * size - at) q ≡ b → a ≡ b
      by_both true true e f = refl
      by_both false false e f = refl
      by_both true false e f = sym (reached_from size at (page * size - at) q known ((step_of size at (length bytes) page q known reaches).0 (reached_true size at (min (page * size + size - at) (length bytes)) q known e) differ)) ∙ f
      by_both false true e f = sym e ∙ reached_from size at (min (page * size + size - at) (length bytes)) q known ((step_of size at (length bytes) page q known reaches).1 (reached_true size at (page * size - at) q known f))
