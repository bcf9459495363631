-- Pages side by side: their number, each of them, one of them written, and pages of zeros.
use Rattle.std.proofs.Common.{◌≡◌, ℕ, zero, suc, ◌+◌, ◌*◌, ◌<◌, ◌≤◌, List, [], ◌∷◌, ◌++◌, length, take, drop, set, get_or, replicate, refl, sym, ap, ◌∙◌, subst, arith, append_assoc, length-append, length-take, length-drop}
use Rattle.std.specs.Prelude.{All}
use Rattle.std.specs.List.{refill, length_refill}
use Rattle.std.proofs.Math.Nat.{zero-mul, suc-mul, mul-le-mul_right}
use Rattle.std.proofs.Math.Seq.{take-add}
use Rattle.std.proofs.lemmas.List.{length-replicate, take_at, drop_at, drop-drop, replicate-append-replicate}
use Rattle.pg_rows.specs.Parts.{with_part}
use Rattle.pg_frames.specs.Blocks.{pages}

none_before : (n : ℕ) → 0 + n ≡ n
none_before n = omega arith

-- a page is within its pages
pub within : (f count page : ℕ) → f < count → f * page + page ≤ count * page
within f count page lt =
    let le : suc f * page ≤ count * page = mul-le-mul_right page (omega (arith, lt)) in omega (arith, le, suc-mul f page)

pub length_pages : (count page : ℕ) (bytes : List ℕ) → length (pages count page bytes) ≡ count
length_pages zero page bytes = refl
length_pages (suc count) page bytes = ap suc (length_pages count page (drop page bytes))

pub pages_at : (count page : ℕ) (bytes : List ℕ) (f : ℕ) (other : List ℕ) → f < count → get_or (pages count page bytes) f other ≡ take page (drop (f * page) bytes)
pages_at zero page bytes f other lt = absurd (omega arith)
pages_at (suc count) page bytes zero other lt = ap (λ n. take page (drop n bytes)) (sym (zero-mul page))
pages_at (suc count) page bytes (suc f) other lt =
    let along : page + f * page ≡ suc f * page = omega (arith, suc-mul f page) in
    pages_at count page (drop page bytes) f other (omega (arith, lt)) ∙ ap (take page) (drop-drop (f * page) page bytes ∙ ap (λ n. drop n bytes) along)

pub part_long : (f count page : ℕ) (bytes : List ℕ) → f < count → length bytes ≡ count * page → length (take page (drop (f * page) bytes)) ≡ page
part_long f count page bytes lt long = omega (arith, length-take page (drop (f * page) bytes), length-drop (f * page) bytes, within f count page lt, long)

pub whole_pages : (count page : ℕ) (bytes : List ℕ) → length bytes ≡ count * page → All (λ one. length one ≡ page) (pages count page bytes)
whole_pages count page bytes long f other lt =
    let inside : f < count = subst (λ n. f < n) (length_pages count page bytes) lt in
    ap length (pages_at count page bytes f other inside) ∙ part_long f count page bytes inside long

pub pages_set : (count page : ℕ) (bytes : List ℕ) (f : ℕ) (one : List ℕ) → f < count → length bytes ≡ count * page → length one ≡ page
    → pages count page (take (f * page) bytes ++ (one ++ drop (f * page + page) bytes)) ≡ set (pages count page bytes) f one
pages_set zero page bytes f one lt long full = absurd (omega arith)
pages_set (suc count) page bytes zero one lt long full =
    let none : 0 * page ≡ 0 = zero-mul page in
    let rest = drop page bytes in
    ap (λ n. pages (suc count) page (take n bytes ++ (one ++ drop (n + page) bytes))) none
    ∙ ap (λ n. pages (suc count) page (one ++ drop n bytes)) (none_before page)
    ∙ (λ i. take_at one rest page full i ∷ pages count page (drop_at one rest page full i))
pages_set (suc count) page bytes (suc f) one lt long full =
    let first = take page bytes in let rest = drop page bytes in
    let all : suc count * page ≡ page + count * page = omega (arith, suc-mul count page) in
    let here : length first ≡ page = omega (arith, length-take page bytes, long, all) in
    let left : length rest ≡ count * page = omega (arith, length-drop page bytes, long, all) in
    let along : suc f * page ≡ page + f * page = omega (arith, suc-mul f page) in
    let far : suc f * page + page ≡ page + (f * page + page) = omega (arith, along) in
    let behind = take (f * page) rest ++ (one ++ drop (f * page + page) rest) in
    let split : take (suc f * page) bytes ++ (one ++ drop (suc f * page + page) bytes) ≡ first ++ behind =
    (λ i. (ap (λ n. take n bytes) along ∙ take-add page (f * page) bytes) i ++ (one ++ (ap (λ n. drop n bytes) far ∙ sym (drop-drop (f * page + page) page bytes)) i))
    ∙ append_assoc first (take (f * page) rest) (one ++ drop (f * page + page) rest) in
    ap (pages (suc count) page) split ∙ (λ i. take_at first behind page here i ∷ pages count page (drop_at first behind page here i))
    ∙ ap (λ l. first ∷ l) (pages_set count page rest f one (omega (arith, lt)) left full)

-- pages of zeros
pub pages_zero : (count page : ℕ) → pages count page (replicate (count * page) 0) ≡ replicate count (replicate page 0)
pages_zero zero page = refl
pages_zero (suc count) page =
    let first = replicate page 0 in let rest = replicate (count * page) 0 in
    let all : suc count * page ≡ page + count * page = omega (arith, suc-mul count page) in
    let split : replicate (suc count * page) 0 ≡ first ++ rest = ap (λ n. replicate n 0) all ∙ sym (replicate-append-replicate page (count * page) 0) in
    ap (pages (suc count) page) split
    ∙ (λ i. take_at first rest page (length-replicate page 0) i ∷ pages count page (drop_at first rest page (length-replicate page 0) i))
    ∙ ap (λ l. first ∷ l) (pages_zero count page)

-- a page that was written, from the bytes of all
pub pages_written : (count page : ℕ) (bytes : List ℕ) (f : ℕ) (one : List ℕ) → f < count → length bytes ≡ count * page
    → pages count page (with_part bytes (f * page) page one) ≡ set (pages count page bytes) f (refill page (get_or (pages count page bytes) f []) one)
pages_written count page bytes f one lt long =
    let old = take page (drop (f * page) bytes) in let new = refill page old one in
    let full : length new ≡ page = sym (length_refill page old one (sym (part_long f count page bytes lt long))) in
    pages_set count page bytes f new lt long full ∙ ap (λ l. set (pages count page bytes) f (refill page l one)) (sym (pages_at count page bytes f [] lt))

pub length-with_part : (count page : ℕ) (bytes : List ℕ) (f : ℕ) (one : List ℕ) → f < count → length bytes ≡ count * page → length (with_part bytes (f * page) page one) ≡ count * page
length-with_part count page bytes f one lt long =
    let old = take page (drop (f * page) bytes) in let new = refill page old one in let rest = drop (f * page + page) bytes in
    let full : length new ≡ page = sym (length_refill page old one (sym (part_long f count page bytes lt long))) in
    omega (arith, full, long, within f count page lt, length-append (take (f * page) bytes) (new ++ rest), length-append new rest, length-take (f * page) bytes, length-drop (f * page + page) bytes)
