-- The content of the pages while a write goes on from page to page.
use Rattle.std.proofs.Common.{◌≡◌, ◌≢◌, ℕ, zero, suc, ◌+◌, ◌-◌, ◌*◌, ◌<◌, ◌≤◌, ◌==◌, Bool, true, false, List, [], ◌∷◌, length, take, drop, get_or, Option, Some, None, refl, sym, ap, ◌∙◌, arith}
use Rattle.std.specs.Prelude.{IsTrue, slice_get, slice_set, slice_index_or, if◌then◌else◌}
use Rattle.std.specs.Option.{option_map}
use Rattle.std.proofs.lemmas.Grind.{common_steps}
use Rattle.std.proofs.lemmas.List.{drop-take}
use Rattle.std.proofs.lemmas.Option.{get_or_from_slice_get, slice_get-get_or}
use Rattle.pg_bytes.specs.PageSize.{is_page_size}
use Rattle.pg_io.specs.PageBytes.{written_over}
use Rattle.pg_cache.specs.Contents.{with_piece}
use Rattle.pg_cache.proofs.SoundFacts.{get-set_same, get-set_other}
use Rattle.pg_plain.specs.Steps.{is_reached, written_page, written_pages}
use Rattle.pg_object.specs.Writes.{offset_on, part_on, part_before}
use Rattle.pg_object.proofs.SizeFacts.{each_size}
use Rattle.pg_object.proofs.ReachFacts.{Reaches, long_before, reached_true, reached_here, not_reached, reached_other}

-- lists that have the same elements at each place
pub same_lists : {X : Type 0} (xs ys : List X) → ((i : ℕ) → slice_get xs i ≡ slice_get ys i) → xs ≡ ys
same_lists [] [] same = refl
same_lists [] (y ∷ ys) same = absurd (let none = same 0 in cc)
same_lists (x ∷ xs) [] same = absurd (let none = same 0 in cc)
same_lists (x ∷ xs) (y ∷ ys) same =
    let first : Some x ≡ Some y = same 0 in
    let head : x ≡ y = cc in
    ap (λ z. z ∷ xs) head ∙ ap (λ zs. y ∷ zs) (same_lists xs ys (λ i. same (suc i)))

-- a page after a write
abbrev after : ℕ → ℕ → List ℕ → ℕ → List ℕ → List ℕ
after size at bytes page old = if is_reached size at (length bytes) page then written_page size at bytes page old else old

pub written_at : (size at : ℕ) (bytes : List ℕ) (first : ℕ) (pages : List (List ℕ)) (i : ℕ)
    → slice_get (written_pages size at bytes first pages) i ≡ option_map (after size at bytes (first + i)) (slice_get pages i)
written_at size at bytes first [] i = refl
written_at size at bytes first (old ∷ others) zero = ap (λ n. Some (after size at bytes n old)) {x = first} {y = first + 0} (omega arith)
written_at size at bytes first (old ∷ others) (suc i) =
    written_at size at bytes (suc first) others i ∙ ap (λ n. option_map (after size at bytes n) (slice_get others i)) {x = suc first + i} {y = first + suc i} (omega arith)

pub length-written : (size at : ℕ) (bytes : List ℕ) (first : ℕ) (pages : List (List ℕ)) → length (written_pages size at bytes first pages) ≡ length pages
length-written size at bytes first [] = refl
length-written size at bytes first (old ∷ others) = ap suc (length-written size at bytes (suc first) others)

-- where nothing is written, the pages stay
pub nothing_written : (size at first : ℕ) (pages : List (List ℕ)) → written_pages size at [] first pages ≡ pages
nothing_written size at first [] = refl
nothing_written size at first (page ∷ others) = ap (λ rest. page ∷ rest) (nothing_written size at (suc first) others)

-- ---- the part on a page is that of the data before a later page

take_less : {X : Type 0} (m k : ℕ) (xs : List X) → m ≤ k → take m (take k xs) ≡ take m xs
take_less zero k xs less = refl
take_less (suc m) zero xs less = absurd (omega arith)
take_less (suc m) (suc k) [] less = refl
take_less (suc m) (suc k) (x ∷ xs) less = ap (λ rest. x ∷ rest) (take_less m k xs (omega arith))

take_within : (d m n : ℕ) (xs : List ℕ) → d + m ≤ n → take m (drop d (take n xs)) ≡ take m (drop d xs)
take_within d m n xs inside =
    let all : n ≡ d + (n - d) = omega arith in
    ap (λ k. take m (drop d (take k xs))) all ∙ ap (take m) (drop-take d (n - d) xs) ∙ take_less m (n - d) (drop d xs) (omega arith)

part_within : (size at : ℕ) (bytes : List ℕ) (i n : ℕ) → i * size + size - at ≤ n → part_on size at (take n bytes) i ≡ part_on size at bytes i
part_within size at bytes i n inside = take_within (i * size - at) (i * size + size - (at + (i * size - at))) n bytes (omega arith)

-- ---- one page more

module _ (size at : ℕ) (bytes : List ℕ) (page : ℕ) (known : IsTrue (is_page_size size)) (reaches : Reaches size at (length bytes) page) where
  abbrev before : List ℕ
  before = part_before size at bytes page

  abbrev next : List ℕ
  next = part_before size at bytes (page + 1)

  part_next : part_on size at next page ≡ part_on size at bytes page
  part_next = part_within size at bytes page ((page + 1) * size - at) (each_size (λ s. page * s + s - at ≤ (page + 1) * s - at) size known (omega arith) (omega arith))

  -- of a page that was written before
  earlier : (i : ℕ) → is_reached size at (length before) i ≡ true → (i * size + size - at ≤ page * size - at) × (i * size + size - at ≤ (page + 1) * size - at)
  earlier i e =
      let reach = reached_true size at (length before) i known e in
      each_size (λ s. length before ≡ page * s - at → Reaches s at (length before) i → (i * s + s - at ≤ page * s - at) × (i * s + s - at ≤ (page + 1) * s - at)) size known
      (λ long (a, b, c). (omega arith, omega arith)) (λ long (a, b, c). (omega arith, omega arith)) (long_before size at bytes page known reaches) reach

  after_other : (i : ℕ) (old : List ℕ) → (i == page) ≡ false → after size at before i old ≡ after size at next i old
  after_other i old apart = by_test (is_reached size at (length before) i) refl
    where
      by_test : (b : Bool) → is_reached size at (length before) i ≡ b → after size at before i old ≡ after size at next i old
      by_test false e =
          ap (λ b. if b then written_page size at before i old else old) e
          ∙ sym (ap (λ b. if b then written_page size at next i old else old) (reached_other size at bytes page known reaches i apart ∙ e))
      by_test true e =
          ap (λ b. if b then written_page size at before i old else old) e
          ∙ ap (written_over old (at - i * size)) (part_within size at bytes i (page * size - at) (earlier i e).0 ∙ sym (part_within size at bytes i ((page + 1) * size - at) (earlier i e).1))
          ∙ sym (ap (λ b. if b then written_page size at next i old else old) (reached_other size at bytes page known reaches i apart ∙ e))

  here_old : (pages : List (List ℕ)) → page < length pages → slice_index_or (written_pages size at before 0 pages) page [] ≡ get_or pages page []
  here_old pages inside =
      get_or_from_slice_get (written_pages size at before 0 pages) page (get_or pages page []) []
      (written_at size at before 0 pages page ∙ ap (option_map (after size at before (0 + page))) (slice_get-get_or pages page [] inside)
      ∙ ap (λ n. Some (after size at before n (get_or pages page []))) {x = 0 + page} {y = page} (omega arith)
      ∙ ap (λ b. Some (if b then written_page size at before page (get_or pages page []) else get_or pages page [])) (not_reached size at bytes page known reaches))

  pub written_next : (pages : List (List ℕ)) → page < length pages
      → with_piece page (offset_on size at page) (part_on size at bytes page) (written_pages size at before 0 pages) ≡ written_pages size at next 0 pages
  written_next pages inside = same_lists (with_piece page (offset_on size at page) (part_on size at bytes page) (written_pages size at before 0 pages)) (written_pages size at next 0 pages) each
    where
      new : List ℕ
      new = written_over (slice_index_or (written_pages size at before 0 pages) page []) (offset_on size at page) (part_on size at bytes page)

      there : page < length (written_pages size at before 0 pages)
      there = let long = length-written size at before 0 pages in omega arith

      each : (i : ℕ) → slice_get (slice_set (written_pages size at before 0 pages) page (written_over (slice_index_or (written_pages size at before 0 pages) page []) (offset_on size at page) (part_on size at bytes page))) i ≡ slice_get (written_pages size at next 0 pages) i
      each i = by_test (i == page) refl
        where
          X : List ℕ
          X = written_over (slice_index_or (written_pages size at before 0 pages) page []) (offset_on size at page) (part_on size at bytes page)

          by_test : (b : Bool) → (i == page) ≡ b
              → slice_get (slice_set (written_pages size at before 0 pages) page (written_over (slice_index_or (written_pages size at before 0 pages) page []) (offset_on size at page) (part_on size at bytes page))) i ≡ slice_get (written_pages size at next 0 pages) i
          by_test true e =
              let same : i ≡ page = grind (arith, common_steps, e) in
              ap (slice_get (slice_set (written_pages size at before 0 pages) page (written_over (slice_index_or (written_pages size at before 0 pages) page []) (offset_on size at page) (part_on size at bytes page)))) same
              ∙ get-set_same (written_pages size at before 0 pages) page (written_over (slice_index_or (written_pages size at before 0 pages) page []) (offset_on size at page) (part_on size at bytes page)) there
              ∙ ap (λ old. Some (written_over old (offset_on size at page) (part_on size at bytes page))) (here_old pages inside)
              ∙ ap (λ part. Some (written_over (get_or pages page []) (offset_on size at page) part)) (sym part_next)
              ∙ sym (written_at size at next 0 pages i ∙ ap (λ n. option_map (after size at next (0 + n)) (slice_get pages n)) same
              ∙ ap (option_map (after size at next (0 + page))) (slice_get-get_or pages page [] inside)
              ∙ ap (λ n. Some (after size at next n (get_or pages page []))) {x = 0 + page} {y = page} (omega arith)
              ∙ ap (λ b. Some (if b then written_page size at next page (get_or pages page []) else get_or pages page [])) (reached_here size at bytes page known reaches))
          by_test false e =
              let apart : i ≢ page = grind (arith, common_steps, e) in
              get-set_other (written_pages size at before 0 pages) page i (written_over (slice_index_or (written_pages size at before 0 pages) page []) (offset_on size at page) (part_on size at bytes page)) apart
              ∙ written_at size at before 0 pages i
              ∙ by_old (slice_get pages i)
              ∙ sym (written_at size at next 0 pages i)
            where
              by_old : (o : Option (List ℕ)) → option_map (after size at before (0 + i)) o ≡ option_map (after size at next (0 + i)) o
              by_old None = refl
              by_old (Some old) = ap (λ n. Some (after size at before n old)) {x = 0 + i} {y = i} (omega arith) ∙ ap Some (after_other i old e) ∙ ap (λ n. Some (after size at next n old)) {x = i} {y = 0 + i} (omega arith)
