-- Pages among bytes, one after another: `MemPager` cites the last.
use Rattle.std.proofs.Common.{◌≡◌, ℕ, zero, suc, ◌+◌, ◌*◌, ◌/◌, ◌<◌, ◌≤◌, List, ◌∷◌, ◌++◌, length, take, drop, refl, ap, sym, subst, ◌∙◌, arith, append_assoc}
use Rattle.std.specs.Prelude.{All, Some, slice_get, slice_set}
use Rattle.std.proofs.Math.Seq.{take-add, take-append_seam, drop-append_seam}
use Rattle.std.proofs.Math.Nat.{div-mul-le_self, mul-le-mul_right}
use Rattle.std.proofs.lemmas.List.{drop-drop, length-take-le, length-drop, length-append}
use Rattle.std.proofs.lemmas.List.Elements.{All-cons, All-nil}
use Rattle.pg_io.specs.Pager.{TellsWhole}
use Rattle.pg_io.specs.MemPages.{first_pages, pages_of, shown, MemPagerNow}

length-first_pages : (size count : ℕ) (bytes : List ℕ) → length (first_pages size count bytes) ≡ count
length-first_pages size zero bytes = refl
length-first_pages size (suc count) bytes = ap suc (length-first_pages size count (drop size bytes))

-- each page is whole
All-first_pages : (size count : ℕ) (bytes : List ℕ) → count * size ≤ length bytes → All (λ page. length page ≡ size) (first_pages size count bytes)
All-first_pages size zero bytes fits = All-nil (λ page. length page ≡ size)
All-first_pages size (suc count) bytes fits =
    let rest = length-drop size bytes in
    All-cons (λ (page : List ℕ). length page ≡ size) (take size bytes) (first_pages size count (drop size bytes)) (length-take-le size bytes (omega arith))
    (All-first_pages size count (drop size bytes) (omega arith))

-- the bytes of one of the pages
get-first_pages : (size count page : ℕ) (bytes : List ℕ) → page < count → slice_get (first_pages size count bytes) page ≡ Some (take size (drop (page * size) bytes))
get-first_pages size zero page bytes inside = absurd (omega arith)
get-first_pages size (suc count) zero bytes inside = ap (λ at. Some (take size (drop at bytes))) {x = 0} {y = 0 * size} (omega arith)
get-first_pages size (suc count) (suc page) bytes inside =
    get-first_pages size count page (drop size bytes) (omega arith)
    ∙ ap (λ (rest : List ℕ). Some (take size rest)) (drop-drop (page * size) size bytes)
    ∙ ap (λ at. Some (take size (drop at bytes))) {x = size + page * size} {y = suc page * size} (omega arith)

-- a first page before the others
first_pages-append : (size count : ℕ) (first rest : List ℕ) → length first ≡ size → first_pages size (suc count) (first ++ rest) ≡ first ∷ first_pages size count rest
first_pages-append size count first rest whole =
    subst (λ n. first_pages n (suc count) (first ++ rest) ≡ first ∷ first_pages n count rest) whole
    (ap (λ (page : List ℕ). page ∷ first_pages (length first) count (drop (length first) (first ++ rest))) (take-append_seam first rest)
    ∙ ap (λ (others : List ℕ). first ∷ first_pages (length first) count others) (drop-append_seam first rest))

-- the bytes with one page written over
set-first_pages : (size count page at end : ℕ) (bytes from : List ℕ) → page < count → count * size ≤ length bytes → length from ≡ size → at ≡ page * size → end ≡ at + size
    → first_pages size count (take at bytes ++ (from ++ drop end bytes)) ≡ slice_set (first_pages size count bytes) page from
set-first_pages size zero page at end bytes from inside fits whole starts ends = absurd (omega arith)
set-first_pages size (suc count) zero at end bytes from inside fits whole starts ends =
    let first : at ≡ 0 = omega arith in
    let next : end ≡ size = omega arith in
    ap (λ a. first_pages size (suc count) (take a bytes ++ (from ++ drop end bytes))) first
    ∙ ap (λ e. first_pages size (suc count) (from ++ drop e bytes)) next
    ∙ first_pages-append size count from (drop size bytes) whole
set-first_pages size (suc count) (suc page) at end bytes from inside fits whole starts ends =
    let rest = drop size bytes in
    let front = take (page * size) rest in
    let back = drop (page * size + size) rest in
    let start : at ≡ size + page * size = omega arith in
    let stop : end ≡ size + (page * size + size) = omega arith in
    let left = length-drop size bytes in
    let before : take at bytes ≡ take size bytes ++ front = ap (λ a. take a bytes) start ∙ take-add size (page * size) bytes in
    let after : drop end bytes ≡ back = ap (λ e. drop e bytes) stop ∙ sym (drop-drop (page * size + size) size bytes) in
    ap (λ (b : List ℕ). first_pages size (suc count) (b ++ (from ++ drop end bytes))) before
    ∙ ap (λ (b : List ℕ). first_pages size (suc count) ((take size bytes ++ front) ++ (from ++ b))) after
    ∙ ap (first_pages size (suc count)) (append_assoc (take size bytes) front (from ++ back))
    ∙ first_pages-append size count (take size bytes) (front ++ (from ++ back)) (length-take-le size bytes (omega arith))
    ∙ ap (λ (pages : List (List ℕ)). take size bytes ∷ pages) (set-first_pages size count page (page * size) (page * size + size) rest from (omega arith) (omega arith) whole refl refl)

-- the bytes of a page
pub get-pages_of : (size : ℕ) (bytes : List ℕ) (page : ℕ) → page < length bytes / size → slice_get (pages_of size bytes) page ≡ Some (take size (drop (page * size) bytes))
unfolding pages_of
get-pages_of size bytes page inside = get-first_pages size (length bytes / size) page bytes inside

-- the bytes stay as many where some of them are written over
pub length-over : (bytes from : List ℕ) (at : ℕ) → at + length from ≤ length bytes → length (take at bytes ++ (from ++ drop (at + length from) bytes)) ≡ length bytes
length-over bytes from at fits =
    let a = length-append (take at bytes) (from ++ drop (at + length from) bytes) in
    let b = length-append from (drop (at + length from) bytes) in
    let c = length-drop (at + length from) bytes in
    let d = length-take-le at bytes (omega arith) in
    omega arith

-- a page lies within the bytes
pub page_fits : (size count page bytes : ℕ) → page < count → count * size ≤ bytes → page * size + size ≤ bytes
page_fits size count page bytes inside fits =
    let next_page : page + 1 ≤ count = omega arith in
    let next = mul-le-mul_right size next_page in
    omega arith

-- the pages where one of them is written over
pub set-pages_of : (size : ℕ) (bytes from : List ℕ) (page : ℕ) → page < length bytes / size → length from ≡ size
    → pages_of size (take (page * size) bytes ++ (from ++ drop (page * size + length from) bytes)) ≡ slice_set (pages_of size bytes) page from
unfolding pages_of
set-pages_of size bytes from page inside whole =
    let at = page * size in
    let fit = div-mul-le_self (length bytes) size in
    let ends = page_fits size (length bytes / size) page (length bytes) inside fit in
    let same = length-over bytes from at (omega arith) in
    ap (λ n. first_pages size (n / size) (take at bytes ++ (from ++ drop (at + length from) bytes))) same
    ∙ set-first_pages size (length bytes / size) page at (at + length from) bytes from inside fit whole refl (ap (λ n. at + n) whole)

-- a pager in memory tells whole pages, as many as it has
pub shown-TellsWhole : (pager : MemPagerNow) → TellsWhole (shown pager)
unfolding pages_of
shown-TellsWhole pager = (
  length-first_pages pager.page_size (length pager.bytes / pager.page_size) pager.bytes,
  All-first_pages pager.page_size (length pager.bytes / pager.page_size) pager.bytes (div-mul-le_self (length pager.bytes) pager.page_size),
)
