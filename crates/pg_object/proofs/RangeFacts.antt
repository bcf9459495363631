-- Bytes of a range that lie on one page after another.
use Rattle.std.proofs.Common.{◌≡◌, ℕ, zero, suc, ◌+◌, ◌-◌, ◌*◌, ◌/◌, ◌<◌, ◌≤◌, List, [], ◌∷◌, ◌++◌, length, take, drop, Some, refl, sym, ap, ◌∙◌, arith}
use Rattle.std.specs.Prelude.{All, IsTrue, min, slice_get, slice_set}
use Rattle.std.specs.List.{concat}
use Rattle.std.proofs.lemmas.Grind.{common_steps}
use Rattle.std.proofs.lemmas.List.{take-append-le, drop-append-le, drop-drop, drop_at, drop-take, take-take}
use Rattle.std.proofs.lemmas.List.Elements.{All-head, All-tail, All-set}
use Rattle.pg_cache.proofs.SoundFacts.{get-set_same}
use Rattle.pg_bytes.specs.PageSize.{is_page_size}
use Rattle.pg_object.specs.Writes.{end_reached}
use Rattle.pg_object.specs.Reads.{range_on}
use Rattle.pg_object.proofs.SizeFacts.{each_size}

-- ---- which pages

-- the page has bytes of the range
abbrev pub Reaches : ℕ → ℕ → ℕ → ℕ → Type 0
Reaches size at count page = (page * size < at + count) × (at < page * size + size)

pub page_reached : (size at count page : ℕ) → IsTrue (is_page_size size) → at / size ≤ page → page < end_reached size at count → Reaches size at count page
page_reached size at zero page known first last = absurd (omega arith)
page_reached size at (suc count) page known first last =
    each_size (λ s. at / s ≤ page → page < end_reached s at (suc count) → Reaches s at (suc count) page) size known
    (λ a b. (omega arith, omega arith)) (λ a b. (omega arith, omega arith)) first last

pub page_inside : (size at count page pages : ℕ) → IsTrue (is_page_size size) → page * size < at + count → at + count ≤ pages * size → page < pages
page_inside size at count page pages known begins within =
    each_size (λ s. page * s < at + count → at + count ≤ pages * s → page < pages) size known (λ a b. omega arith) (λ a b. omega arith) begins within

-- up to the last page all bytes are read, and up to the first none
pub all_read : (size at count : ℕ) → IsTrue (is_page_size size) → min count (end_reached size at count * size - at) ≡ count
all_read size at zero known = omega arith
all_read size at (suc count) known =
    each_size (λ s. min (suc count) (end_reached s at (suc count) * s - at) ≡ suc count) size known (omega arith) (omega arith)

pub none_read : (size at count : ℕ) → IsTrue (is_page_size size) → min count (at / size * size - at) ≡ 0
none_read size at count known = each_size (λ s. min count (at / s * s - at) ≡ 0) size known (omega arith) (omega arith)

-- the page after the first pages is one of those that are reached, and the first is not behind the last
pub first_last : (size at count : ℕ) → IsTrue (is_page_size size) → at / size ≤ end_reached size at count
first_last size at zero known = omega arith
first_last size at (suc count) known = each_size (λ s. at / s ≤ end_reached s at (suc count)) size known (omega arith) (omega arith)

-- ---- the bytes on a page

concat_drop : (size : ℕ) (pages : List (List ℕ)) (page : ℕ) (bytes : List ℕ) → All (λ (b : List ℕ). length b ≡ size) pages → slice_get pages page ≡ Some bytes
    → drop (page * size) (concat pages) ≡ bytes ++ concat (drop (suc page) pages)
concat_drop size [] page bytes whole there = absurd (cc)
concat_drop size (b ∷ bs) zero bytes whole there =
    let same : b ≡ bytes = cc in
    ap (λ n. drop n (b ++ concat bs)) {x = 0 * size} {y = 0} (omega arith) ∙ ap (λ (x : List ℕ). x ++ concat bs) same
concat_drop size (b ∷ bs) (suc page) bytes whole there =
    let long = All-head (λ (b : List ℕ). length b ≡ size) b bs whole in
    ap (λ n. drop n (b ++ concat bs)) {x = suc page * size} {y = size + page * size} (grind arith)
    ∙ sym (drop-drop (page * size) size (b ++ concat bs))
    ∙ ap (drop (page * size)) (drop_at b (concat bs) size long)
    ∙ concat_drop size bs page bytes (All-tail (λ (b : List ℕ). length b ≡ size) b bs whole) there

-- pages before a page do not change with it
concat_set : (size : ℕ) (pages : List (List ℕ)) (page : ℕ) (bytes : List ℕ) → All (λ (b : List ℕ). length b ≡ size) pages
    → take (page * size) (concat (slice_set pages page bytes)) ≡ take (page * size) (concat pages)
concat_set size [] page bytes whole = refl
concat_set size (b ∷ bs) zero bytes whole =
    ap (λ n. take n (bytes ++ concat bs)) {x = 0 * size} {y = 0} (omega arith) ∙ ap (λ n. take n (b ++ concat bs)) {x = 0} {y = 0 * size} (omega arith)
concat_set size (b ∷ bs) (suc page) bytes whole =
    let long = All-head (λ (b : List ℕ). length b ≡ size) b bs whole in
    let count : suc page * size ≡ length b + page * size = grind (arith, long) in
    ap (λ n. take n (b ++ concat (slice_set bs page bytes))) count
    ∙ take_behind b (concat (slice_set bs page bytes)) (page * size)
    ∙ ap (λ (l : List ℕ). b ++ l) (concat_set size bs page bytes (All-tail (λ (b : List ℕ). length b ≡ size) b bs whole))
    ∙ sym (take_behind b (concat bs) (page * size))
    ∙ ap (λ n. take n (b ++ concat bs)) (sym count)
  where
    take_behind : (xs ys : List ℕ) (n : ℕ) → take (length xs + n) (xs ++ ys) ≡ xs ++ take n ys
    take_behind [] ys n = ap (λ m. take m ys) {x = 0 + n} {y = n} (omega arith)
    take_behind (x ∷ xs) ys n = ap (λ m. take m (x ∷ (xs ++ ys))) {x = suc (length xs) + n} {y = suc (length xs + n)} (omega arith) ∙ ap (λ (l : List ℕ). x ∷ l) (take_behind xs ys n)

take_add : (a b : ℕ) (xs : List ℕ) → take (a + b) xs ≡ take a xs ++ take b (drop a xs)
take_add zero b xs = ap (λ n. take n xs) {x = 0 + b} {y = b} (omega arith)
take_add (suc a) b [] = grind (arith, common_steps)
take_add (suc a) b (x ∷ xs) = ap (λ n. take n (x ∷ xs)) {x = suc a + b} {y = suc (a + b)} (omega arith) ∙ ap (λ (l : List ℕ). x ∷ l) (take_add a b xs)

-- a range that ends before a place is one of the bytes before that place
within_take : (at n place : ℕ) (xs : List ℕ) → at + n ≤ place → take n (drop at xs) ≡ drop at (take (at + n) (take place xs))
within_take at n place xs within = sym (ap (drop at) (take-take (at + n) place xs within) ∙ drop-take at n xs)

-- the bytes of a range on a page are those of the file there
pub on_page : (size at count page : ℕ) (pages : List (List ℕ)) (bytes : List ℕ) → All (λ (b : List ℕ). length b ≡ size) pages → slice_get pages page ≡ Some bytes → length bytes ≡ size
    → Reaches size at count page
    → take (min (count - (page * size - at)) (size - (at - page * size))) (drop (page * size - at) (drop at (concat pages))) ≡ range_on size at count page bytes
on_page size at count page pages bytes whole there long (begins, ends) =
    ap (take k) (drop-drop (page * size - at) at (concat pages)
    ∙ ap (λ n. drop n (concat pages)) {x = at + (page * size - at)} {y = page * size + (at - page * size)} (omega arith)
    ∙ sym (drop-drop (at - page * size) (page * size) (concat pages))
    ∙ ap (drop (at - page * size)) (concat_drop size pages page bytes whole there)
    ∙ drop-append-le (at - page * size) bytes (concat (drop (suc page) pages)) (omega arith))
    ∙ take-append-le k (drop (at - page * size) bytes) (concat (drop (suc page) pages)) fits
  where
    k : ℕ
    k = min (count - (page * size - at)) (size - (at - page * size))

    fits : k ≤ length (drop (at - page * size) bytes)
    fits = let count : length (drop (at - page * size) bytes) ≡ length bytes - (at - page * size) = grind (arith, common_steps) in omega arith

-- how many bytes are read before the next page
pub longer : (size at count page : ℕ) → IsTrue (is_page_size size) → Reaches size at count page
    → min count ((page + 1) * size - at) ≡ page * size - at + min (count - (page * size - at)) (size - (at - page * size))
longer size at count page known (begins, ends) =
    each_size (λ s. page * s < at + count → at < page * s + s → min count ((page + 1) * s - at) ≡ page * s - at + min (count - (page * s - at)) (s - (at - page * s))) size known
    (λ a b. omega arith) (λ a b. omega arith) begins ends

-- the bytes of a range that lie before the next page
pub next_read : (size at count page : ℕ) (pages : List (List ℕ)) (bytes : List ℕ) → IsTrue (is_page_size size) → All (λ (b : List ℕ). length b ≡ size) pages → page < length pages
    → length bytes ≡ size → Reaches size at count page
    → take (min count (page * size - at)) (drop at (concat pages)) ++ range_on size at count page bytes
    ≡ take (min count ((page + 1) * size - at)) (drop at (concat (slice_set pages page bytes)))
next_read size at count page pages bytes known whole inside long (begins, ends) =
    let after : List (List ℕ) = slice_set pages page bytes in
    let fewer : min count (page * size - at) ≡ page * size - at = omega arith in
    ap (λ n. take n (drop at (concat pages)) ++ range_on size at count page bytes) fewer
    ∙ ap (λ (l : List ℕ). l ++ range_on size at count page bytes) (same_before (page * size - at) refl)
    ∙ ap (λ (l : List ℕ). take (page * size - at) (drop at (concat after)) ++ l)
    (sym (on_page size at count page after bytes (All-set (λ (b : List ℕ). length b ≡ size) pages page bytes long whole) (get-set_same pages page bytes inside) long (begins, ends)))
    ∙ sym (take_add (page * size - at) (min (count - (page * size - at)) (size - (at - page * size))) (drop at (concat after)))
    ∙ ap (λ n. take n (drop at (concat after))) (sym (longer size at count page known (begins, ends)))
  where
    same_before : (n : ℕ) → n ≡ page * size - at → take n (drop at (concat pages)) ≡ take n (drop at (concat (slice_set pages page bytes)))
    same_before zero e = refl
    same_before (suc n) e =
        let within : at + suc n ≤ page * size = omega arith in
        within_take at (suc n) (page * size) (concat pages) within
        ∙ ap (λ (l : List ℕ). drop at (take (at + suc n) l)) (sym (concat_set size pages page bytes whole))
        ∙ sym (within_take at (suc n) (page * size) (concat (slice_set pages page bytes)) within)
