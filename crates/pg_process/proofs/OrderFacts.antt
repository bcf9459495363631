-- Regions in the order of their addresses.
use Rattle.std.proofs.Common.{◌≡◌, ◌≢◌, ℕ, zero, suc, ◌+◌, ◌-◌, ◌*◌, ◌<◌, ◌≤◌, Bool, true, false, cond, not, ◌&&◌, max, List, [], ◌∷◌, length, get_or, take, drop, map, filter, find, Some, None, refl, ap, arith, mul-le-mul_left, eq-eqb, ltb-true, ltb-false, ⊎_elim}
use Rattle.std.specs.Prelude.{nat_lt, IsTrue}
use Rattle.std.specs.List.{AllByRecursion, AllWithin, insert, remove}
use Rattle.std.specs.List.Sorted.{IsNonDecreasingBy}
use Rattle.std.proofs.lemmas.List.{get_or_default}
use Rattle.std.proofs.lemmas.Bool.{cases_lt, lt-ltb, le-ltb, ne_eqb}
use Rattle.std.proofs.lemmas.Bool.Decides.{nat_tests}
use Rattle.pg_bytes.specs.PageSize.{is_page_size}
use Rattle.pg_bytes.proofs.SplitFacts.{all_behind, filter_between, filter_but_one, filter_keeps_all, finds_at, finds_none}
use Rattle.pg_process.specs.declared.mapping.Mapping.{Mapping}
use Rattle.pg_process.specs.Regions.{end_of, is_met, met, least, has_address, begins_at, with_mapping, AreInOrder, IsInFile, IsPlaceOf}

-- what holds of a region and of others holds of all of them
pub all_with : (P : Mapping → Type 0) (new : Mapping) (ms : List Mapping) → P new → AllByRecursion P ms → AllByRecursion P (with_mapping new ms)
all_with P new [] one all = (one, tt)
all_with P new (m ∷ ms) one all =
    elim (nat_lt m.at new.at) as (λ b. AllByRecursion P (cond b (m ∷ with_mapping new ms) (new ∷ m ∷ ms))) [
      | true ↦ (all.0, all_with P new ms one all.1)
      | false ↦ (one, all)
    ]

-- what holds of some regions holds of a part of them
pub all_filter : (P : Mapping → Type 0) (test : Mapping → Bool) (ms : List Mapping) → AllByRecursion P ms → AllByRecursion P (filter test ms)
all_filter P test [] all = tt
all_filter P test (m ∷ ms) all =
    elim (test m) as (λ b. AllByRecursion P (cond b (m ∷ filter test ms) (filter test ms))) [
      | true ↦ (all.0, all_filter P test ms all.1)
      | false ↦ all_filter P test ms all.1
    ]

-- a region of the list
all_at : (P : Mapping → Type 0) (ms : List Mapping) → AllByRecursion P ms → (k : ℕ) (d : Mapping) → k < length ms → P (get_or ms k d)
all_at P [] all k d lt = absurd (omega arith)
all_at P (m ∷ ms) all zero d lt = all.0
all_at P (m ∷ ms) all (suc k) d lt = all_at P ms all.1 k d (omega arith)

-- a size of pages is some size
pub some_size : (page : ℕ) → IsTrue (is_page_size page) → 0 < page
some_size page size = grind (arith, nat_tests)

module _ (page : ℕ) where
  -- a region of the list ends before a later one begins
  pub ends_before : (ms : List Mapping) → AreInOrder page ms → (i j : ℕ) (d : Mapping) → i < j → j < length ms → end_of page (get_or ms i d) ≤ (get_or ms j d).at
  ends_before [] order i j d lt within = absurd (omega arith)
  ends_before (m ∷ ms) order i zero d lt within = absurd (omega arith)
  ends_before (m ∷ ms) order zero (suc j) d lt within = all_at (λ o. end_of page m ≤ o.at) ms order.0 j d (omega arith)
  ends_before (m ∷ ms) order (suc i) (suc j) d lt within = ends_before ms order.1 i j d (omega arith) (omega arith)

  -- so their first addresses rise, and their ends do
  pub begins_rise : (ms : List Mapping) → AreInOrder page ms → IsNonDecreasingBy (λ (m : Mapping). m.at) ms
  begins_rise ms order i j d le within =
      ⊎_elim (λ lt. let apart = ends_before ms order i j d lt within in omega arith)
      (λ (ge : j ≤ i). let same : i ≡ j = omega arith in rw same (omega arith)) (cases_lt i j)

  pub ends_rise : (ms : List Mapping) → AreInOrder page ms → IsNonDecreasingBy (end_of page) ms
  ends_rise ms order i j d le within =
      ⊎_elim (λ lt. let apart = ends_before ms order i j d lt within in omega arith)
      (λ (ge : j ≤ i). let same : i ≡ j = omega arith in rw same (omega arith)) (cases_lt i j)

  not_met_before : (at pages : ℕ) (m : Mapping) → end_of page m ≤ at → is_met page at pages m ≡ false
  not_met_before at pages m le = rw (le-ltb at (end_of page m) le) refl

  not_met_behind : (at pages : ℕ) (m : Mapping) → at + page * pages ≤ m.at → is_met page at pages m ≡ false
  not_met_behind at pages m le =
      elim (nat_lt at (end_of page m)) as (λ b. (b && nat_lt m.at (at + page * pages)) ≡ false) [
        | true ↦ le-ltb m.at (at + page * pages) le
        | false ↦ refl
      ]

  met_within : (at pages : ℕ) (m : Mapping) → at < end_of page m → m.at < at + page * pages → is_met page at pages m ≡ true
  met_within at pages m ends begins =
      rw (lt-ltb at (end_of page m) ends) (lt-ltb m.at (at + page * pages) begins)

  -- the regions that are met stand together: those that end behind the address and begin before the last one
  pub met_is : (at pages first begun : ℕ) (ms : List Mapping) → first ≤ length ms → begun ≤ length ms → AllWithin (λ m. end_of page m ≤ at) ms 0 first → AllWithin (λ m. at < end_of page m) ms first (length ms) → AllWithin (λ m. m.at < at + page * pages) ms 0 begun → AllWithin (λ m. at + page * pages ≤ m.at) ms begun (length ms) → met page at pages ms ≡ take (max begun first - first) (drop first ms)
  met_is at pages first begun ms within_first within_begun ended unended begins unbegun =
      filter_between (λ m. is_met page at pages m) first (max begun first) ms (omega arith) (omega arith)
      (λ k d le lt. not_met_before at pages (get_or ms k d) (ended k d le lt))
      (λ k d le lt. met_within at pages (get_or ms k d) (unended k d le (omega arith)) (begins k d (omega arith) (omega arith)))
      (λ k d le lt. not_met_behind at pages (get_or ms k d) (unbegun k d (omega arith) lt))

  -- a region that ends at the address or before does not have it, and one that begins behind does not
  lacks_before : (addr : ℕ) (m : Mapping) → end_of page m ≤ addr → has_address page addr m ≡ false
  lacks_before addr m le = grind (arith, nat_tests)

  lacks_behind : (addr : ℕ) (m : Mapping) → addr < m.at → has_address page addr m ≡ false
  lacks_behind addr m lt = grind (arith, nat_tests)

  has_within : (addr : ℕ) (m : Mapping) → m.at ≤ addr → addr < end_of page m → has_address page addr m ≡ true
  has_within addr m begins ends = grind (arith, nat_tests)

  -- of the regions that end behind the address only the first can have it
  pub found_with : (addr i : ℕ) (ms : List Mapping) (d : Mapping) → i < length ms → AllWithin (λ m. end_of page m ≤ addr) ms 0 i → addr < end_of page (get_or ms i d) → (get_or ms i d).at ≤ addr → find (λ m. has_address page addr m) ms ≡ Some (get_or ms i d)
  found_with addr i ms d within ended ends begins =
      finds_at (λ m. has_address page addr m) i ms d within
      (λ k e le lt. lacks_before addr (get_or ms k e) (ended k e le lt)) (has_within addr (get_or ms i d) begins ends)

  pub not_found_with : (addr i : ℕ) (ms : List Mapping) → AreInOrder page ms → AllWithin (λ m. end_of page m ≤ addr) ms 0 i → (e : Mapping) → (i < length ms → addr < (get_or ms i e).at) → find (λ m. has_address page addr m) ms ≡ None
  not_found_with addr i ms order ended e begins =
      finds_none (λ m. has_address page addr m) ms
      (λ k d le lt. ⊎_elim (λ before. lacks_before addr (get_or ms k d) (ended k d le before))
      (λ from.
      let later : (get_or ms i d).at ≤ (get_or ms k d).at = begins_rise ms order i k d from lt in
      let same : get_or ms i d ≡ get_or ms i e = get_or_default ms i d e (omega arith) in
      let behind : addr < (get_or ms i d).at = rw same (begins (omega arith)) in
      lacks_behind addr (get_or ms k d) (omega arith)) (cases_lt k i))

  begins_within : (new m : Mapping) → nat_lt m.at new.at ≡ true → m.at < new.at + page * new.pages
  begins_within new m before = omega (arith, ltb-true m.at new.at before)

  end_before : (new m : Mapping) → nat_lt m.at new.at ≡ true → is_met page new.at new.pages m ≡ false → end_of page m ≤ new.at
  end_before new m before apart =
      ⊎_elim (λ (behind : new.at < end_of page m). absurd (cc (met_within new.at new.pages m behind (begins_within new m before)))) (λ le. le) (cases_lt new.at (end_of page m))

  begin_behind : (new m : Mapping) → nat_lt m.at new.at ≡ false → 0 < new.pages → m.at < end_of page m → is_met page new.at new.pages m ≡ false → end_of page new ≤ m.at
  begin_behind new m behind some grows apart =
      let from : new.at ≤ m.at = ltb-false m.at new.at behind in
      ⊎_elim (λ (before : m.at < end_of page new). absurd (cc (met_within new.at new.pages m (omega arith) before))) (λ le. le) (cases_lt m.at (end_of page new))

  all_later : (P Q : Mapping → Type 0) (ms : List Mapping) → ((o : Mapping) → P o → Q o) → AllByRecursion P ms → AllByRecursion Q ms
  all_later P Q [] f all = tt
  all_later P Q (m ∷ ms) f all = (f m all.0, all_later P Q ms f all.1)

  -- a region that meets no other is put in order
  pub in_order_with : (new : Mapping) (ms : List Mapping) → 0 < page → 0 < new.pages → AllByRecursion IsInFile ms → AreInOrder page ms → AllByRecursion (λ m. is_met page new.at new.pages m ≡ false) ms → AreInOrder page (with_mapping new ms)
  in_order_with new [] size some files order apart = (tt, tt)
  in_order_with new (m ∷ ms) size some files order apart =
      let one : page * 1 ≤ page * m.pages = mul-le-mul_left page files.0.some in
      elim (nat_lt m.at new.at) as (λ b. nat_lt m.at new.at ≡ b → AreInOrder page (cond b (m ∷ with_mapping new ms) (new ∷ m ∷ ms))) [
        | true ↦ λ is. (all_with (λ o. end_of page m ≤ o.at) new ms (end_before new m is apart.0) order.0, in_order_with new ms size some files.1 order.1 apart.1)
        | false ↦ λ is. ((begin_behind new m is some (omega arith) apart.0, all_later (λ o. end_of page m ≤ o.at) (λ o. end_of page new ≤ o.at) ms (λ o le. let behind = begin_behind new m is some (omega arith) apart.0 in omega arith) order.0), order)
      ] refl

  pub in_order_filter : (test : Mapping → Bool) (ms : List Mapping) → AreInOrder page ms → AreInOrder page (filter test ms)
  in_order_filter test [] order = tt
  in_order_filter test (m ∷ ms) order =
      elim (test m) as (λ b. AreInOrder page (cond b (m ∷ filter test ms) (filter test ms))) [
        | true ↦ (all_filter (λ o. end_of page m ≤ o.at) test ms order.0, in_order_filter test ms order.1)
        | false ↦ in_order_filter test ms order.1
      ]

  -- no region is met where none is the least of them
  pub none_met : (at pages : ℕ) (regions : List Mapping) → least (map (λ m. m.id) (met page at pages regions)) ≡ None → AllByRecursion (λ m. is_met page at pages m ≡ false) regions
  none_met at pages [] e = tt
  none_met at pages (m ∷ ms) e =
      elim (is_met page at pages m) as (λ b. least (map (λ (o : Mapping). o.id) (cond b (m ∷ met page at pages ms) (met page at pages ms))) ≡ None → (b ≡ false) × AllByRecursion (λ o. is_met page at pages o ≡ false) ms) [
        | true ↦ λ some. absurd cc
        | false ↦ λ none. (refl, none_met at pages ms none)
      ] e

  -- the region that begins at the address is the only one
  pub dropped_is : (at i : ℕ) (ms : List Mapping) → 0 < page → AllByRecursion IsInFile ms → AreInOrder page ms → IsPlaceOf ms at i → filter (λ m. not (begins_at at m)) ms ≡ remove ms i
  dropped_is at i ms size files order place =
      filter_but_one (λ m. not (begins_at at m)) i ms place.within
      (λ k d le lt. let less = place.before k d le lt in rw (ne_eqb (get_or ms k d).at at (λ e. omega arith)) refl)
      (λ d. rw (eq-eqb (get_or ms i d).at at (place.here d)) refl)
      (λ k d le lt.
      let apart = ends_before ms order i k d (omega arith) lt in
      let here = place.here d in
      let file = all_at IsInFile ms files i d place.within in
      let one : page * 1 ≤ page * (get_or ms i d).pages = mul-le-mul_left page file.some in
      let greater : at < (get_or ms k d).at = omega arith in
      rw (ne_eqb (get_or ms k d).at at (λ e. omega arith)) refl)

-- it is the first that begins there
pub region_there : (at i : ℕ) (ms : List Mapping) (d : Mapping) → IsPlaceOf ms at i → find (λ m. begins_at at m) ms ≡ Some (get_or ms i d)
region_there at i ms d place =
    finds_at (λ m. begins_at at m) i ms d place.within
    (λ k e le lt. let less = place.before k e le lt in ne_eqb (get_or ms k e).at at (λ same. omega arith))
    (eq-eqb (get_or ms i d).at at (place.here d))

pub no_region_there : (at : ℕ) (ms : List Mapping) → AllWithin (λ m. m.at ≢ at) ms 0 (length ms) → find (λ m. begins_at at m) ms ≡ None
no_region_there at ms none = finds_none (λ m. begins_at at m) ms (λ k d le lt. ne_eqb (get_or ms k d).at at (none k d le lt))

pub none_dropped : (at : ℕ) (ms : List Mapping) → AllWithin (λ m. m.at ≢ at) ms 0 (length ms) → filter (λ m. not (begins_at at m)) ms ≡ ms
none_dropped at ms none =
    filter_keeps_all (λ m. not (begins_at at m)) ms
    (all_behind (λ m. not (begins_at at m) ≡ true) 0 ms (λ k d le lt. rw (ne_eqb (get_or ms k d).at at (none k d le lt)) refl))

-- with one more at its place
pub with_is : (new : Mapping) (i : ℕ) (ms : List Mapping) → i ≤ length ms → AllWithin (λ m. m.at < new.at) ms 0 i → AllWithin (λ m. new.at ≤ m.at) ms i (length ms) → insert ms i new ≡ with_mapping new ms
with_is new zero [] within before behind = refl
with_is new (suc i) [] within before behind = absurd (omega arith)
with_is new zero (m ∷ ms) within before behind =
    rw (le-ltb m.at new.at (behind 0 m (omega arith) (omega arith))) refl
with_is new (suc i) (m ∷ ms) within before behind =
    rw (lt-ltb m.at new.at (before 0 m (omega arith) (omega arith)))
    (ap (λ os. m ∷ os) (with_is new i ms (omega arith) (λ k d le lt. before (suc k) d (omega arith) (omega arith)) (λ k d le lt. behind (suc k) d (omega arith) (omega arith))))
