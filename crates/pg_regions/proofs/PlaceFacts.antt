-- Where the record, or the private copy, of a region and page stands.
use Rattle.std.proofs.Common.{◌≡◌, ℕ, ◌<◌, ◌≤◌, ◌==◌, Bool, true, false, not, eq-eqb, List, [], ◌∷◌, ◌++◌, zero, suc, length, take, drop, get_or, set, map, filter, Some, None, Ok, Err, refl, sym, ap, subst, ◌∙◌, inl, inr, ◌⊎◌, ltb-true, ⊎_elim, arith}
use Rattle.std.specs.Prelude.{position, insert, count_by, AllPairs}
use Rattle.std.specs.List.{AllWithin}
use Rattle.std.specs.List.Sorted.{IsNonDecreasingBy, IsPartitionedBy}
use Rattle.std.proofs.lemmas.Bool.{cases_lt, ne_eqb}
use Rattle.std.proofs.lemmas.Grind.{common_steps}
use Rattle.std.proofs.lemmas.List.Elements.{recursion_from_All}
use Rattle.cs_policy.specs.declared.access.Access.{Access}
use Rattle.cs_policy.specs.declared.region.Region.{Region}
use Rattle.cs_policy.specs.declared.region.Record.{Record}
use Rattle.pg_bytes.proofs.SplitFacts.{filter_keeps_all, finds_none, positions_at, positions_none}
use Rattle.pg_regions.specs.Lookups.{Copy, comes_before, record_before, copy_before, is_record, is_copy, record_of, placed, RecordsRise, CopiesRise, RegionsRise}
use Rattle.pg_regions.specs.Places.{IsGap}
use Rattle.pg_regions.specs.Steps.{given, given_at, without_execute, is_without_copy}
use Rattle.pg_regions.proofs.ListFacts.{all_map, none_passes}
use Rattle.pg_regions.proofs.PairFacts.{pairs_map, position-map}
use Rattle.pg_regions.proofs.FoundFacts.{record_alike, given_keeps}
use Rattle.pg_regions.proofs.OrderFacts as order
use Rattle.pg_regions.proofs.OrderFacts.{before_is, before_later, before_itself, before_other, ordered_rise, in_order_is}

module _ (page id : ℕ) where
  abbrev pub lesser : Record → Bool
  lesser r = comes_before r.page r.region page id

  pub earlier : (x y : Record) → record_before x y ≡ true → lesser y ≡ true → lesser x ≡ true
  earlier x y = before_later x.page x.region y.page y.region page id

  pub above : (x y : Record) → record_before x y ≡ true → is_record id page y ≡ true → lesser x ≡ true
  above x y before own =
      let region : y.region ≡ id = grind (arith, common_steps, own) in
      let number : y.page ≡ page = grind (arith, common_steps, own) in
      rw (← region, ← number) before

  pub apart : (x : Record) → lesser x ≡ true → is_record id page x ≡ false
  apart x before = by_test (is_record id page x) refl
    where
      by_test : (b : Bool) → is_record id page x ≡ b → is_record id page x ≡ false
      by_test true own =
          let region : x.region ≡ id = grind (arith, common_steps, own) in
          let number : x.page ≡ page = grind (arith, common_steps, own) in
          let itself : lesser x ≡ false = rw (region, number) (before_itself page id) in absurd (cc)
      by_test false own = own

  -- ---- what a search tells

  placed_there : (records : List Record) (place : ℕ) (r : Record) → record_of records id page ≡ Some r → count_by lesser records ≡ place → Ok place ≡ placed page id records
  placed_there records place r found count = rw (found, count) refl

  placed_gap : (records : List Record) (place : ℕ) → record_of records id page ≡ None → count_by lesser records ≡ place → Err place ≡ placed page id records
  placed_gap records place none count = rw (none, count) refl

  position_at : (records : List Record) (place : ℕ) (d : Record) → place < length records → AllWithin (λ r. lesser r ≡ true) records 0 place → is_record id page (get_or records place d) ≡ true → position (is_record id page) records ≡ Some place
  position_at records place d within front own =
      positions_at (is_record id page) place records d within (λ k e le lt. apart (get_or records k e) (front k e le lt)) own

  pub found_at : (records : List Record) (place : ℕ) (d : Record) → RecordsRise records → place < length records → lesser (get_or records place d) ≡ false → is_record id page (get_or records place d) ≡ true → (Ok place ≡ placed page id records) × (position (is_record id page) records ≡ Some place)
  found_at records place d rise within late own =
      let front = order.lesser_before record_before lesser (is_record id page) earlier above apart records place d rise within own in
      let rest = order.not_lesser_behind record_before lesser (is_record id page) earlier above apart records place d rise within late in
      let count = order.lesser_count record_before lesser (is_record id page) earlier above apart records place (omega arith) front rest in
      let found = order.own_at record_before lesser (is_record id page) earlier above apart records place d within front own in
      (placed_there records place (get_or records place d) found count, position_at records place d within front own)

  pub gap_at : (records : List Record) (place : ℕ) → place ≤ length records → AllWithin (λ r. lesser r ≡ true) records 0 place → AllWithin (λ r. lesser r ≡ false) records place (length records) → AllWithin (λ r. is_record id page r ≡ false) records place (length records) → (Err place ≡ placed page id records) × IsGap records page id place
  gap_at records place within front rest none =
      let absent : record_of records id page ≡ None =
      finds_none (is_record id page) records (λ k d le lt. ⊎_elim (λ less. apart (get_or records k d) (front k d le less)) (λ from. none k d from lt) (cases_lt k place)) in
      let count = order.lesser_count record_before lesser (is_record id page) earlier above apart records place within front rest in
      (placed_gap records place absent count, record { within = within; before = front; behind = rest; absent = absent })

  -- ---- a record more in a gap

  pub gap_rise : (records : List Record) (place : ℕ) (new : Record) → new.region ≡ id → new.page ≡ page → RecordsRise records → IsGap records page id place → RecordsRise (insert records place new)
  gap_rise records place new region number rise gap =
      subst RecordsRise (sym (in_order_is record_before new place records gap.within (λ k d le lt. rw (region, number) (gap.before k d le lt)) (λ k d le lt. rw (region, number) (gap.behind k d le lt))))
      (ordered_rise record_before (λ x y z. before_later x.page x.region y.page y.region z.page z.region) new records
      (all_map (λ (x : Record). is_record id page x ≡ false) (λ x. record_before x new ≡ false → record_before new x ≡ true) records
      (λ x other late. before_other x.page x.region new.page new.region late (rw (region, number) other)) (none_passes (is_record id page) records gap.absent)) rise)

  pub given_rise : (access : Access) (guarded : Bool) (records : List Record) → RecordsRise records → RecordsRise (map (given_at id page access guarded) records)
  given_rise access guarded records rise =
      let keeps = given_keeps id page access guarded in
      pairs_map (λ one other. record_before one other ≡ true) (given_at id page access guarded)
      (λ one other before. rw (keeps.region one, keeps.page one, keeps.region other, keeps.page other) before) records rise

-- ---- runs of a page

pub pages_rise : (records : List Record) → RecordsRise records → IsNonDecreasingBy (λ (r : Record). r.page) records
pages_rise records rise i j d le within =
    ⊎_elim (λ lt. by_key (before_is (get_or records i d).page (get_or records i d).region (get_or records j d).page (get_or records j d).region (rise i j d lt within)))
    (λ (ge : j ≤ i). let same : i ≡ j = omega arith in rw same (omega arith)) (cases_lt i j)
  where
    by_key : {a b c e : ℕ} → (a < c) ⊎ ((a ≡ c) × (b < e)) → a ≤ c
    by_key (inl lt) = omega arith
    by_key (inr same) = omega (arith, same.0)

pub numbers_rise : (regions : List Region) → RegionsRise regions → IsNonDecreasingBy (λ (r : Region). r.id) regions
numbers_rise regions rise i j d le within =
    ⊎_elim (λ lt. omega (arith, ltb-true (get_or regions i d).id (get_or regions j d).id (rise i j d lt within)))
    (λ (ge : j ≤ i). let same : i ≡ j = omega arith in rw same (omega arith)) (cases_lt i j)

-- ---- private copies

module _ (page id : ℕ) where
  abbrev pub copy_lesser : Copy → Bool
  copy_lesser copy = comes_before copy.page copy.region page id

  pub copy_earlier : (x y : Copy) → copy_before x y ≡ true → copy_lesser y ≡ true → copy_lesser x ≡ true
  copy_earlier x y = before_later x.page x.region y.page y.region page id

  pub copy_above : (x y : Copy) → copy_before x y ≡ true → is_copy id page y ≡ true → copy_lesser x ≡ true
  copy_above x y before own =
      let region : y.region ≡ id = grind (arith, common_steps, own) in
      let number : y.page ≡ page = grind (arith, common_steps, own) in
      rw (← region, ← number) before

  pub copy_apart : (x : Copy) → copy_lesser x ≡ true → is_copy id page x ≡ false
  copy_apart x before = by_test (is_copy id page x) refl
    where
      by_test : (b : Bool) → is_copy id page x ≡ b → is_copy id page x ≡ false
      by_test true own =
          let region : x.region ≡ id = grind (arith, common_steps, own) in
          let number : x.page ≡ page = grind (arith, common_steps, own) in
          let itself : copy_lesser x ≡ false = rw (region, number) (before_itself page id) in absurd (cc)
      by_test false own = own

  pub copies_parted : (copies : List Copy) → CopiesRise copies → IsPartitionedBy copy_lesser copies
  copies_parted = order.parted copy_before copy_lesser (is_copy id page) copy_earlier copy_above copy_apart

  pub copy_position : (copies : List Copy) (place : ℕ) (d : Copy) → place < length copies → AllWithin (λ copy. copy_lesser copy ≡ true) copies 0 place → is_copy id page (get_or copies place d) ≡ true → position (is_copy id page) copies ≡ Some place
  copy_position copies place d within front own =
      positions_at (is_copy id page) place copies d within (λ k e le lt. copy_apart (get_or copies k e) (front k e le lt)) own

  pub no_copy_position : (copies : List Copy) (place : ℕ) (d : Copy) → CopiesRise copies → AllWithin (λ copy. copy_lesser copy ≡ true) copies 0 place → AllWithin (λ copy. copy_lesser copy ≡ false) copies place (length copies) → (place < length copies → is_copy id page (get_or copies place d) ≡ false) → position (is_copy id page) copies ≡ None
  no_copy_position copies place d rise front rest first =
      positions_none (is_copy id page) copies d
      (order.own_none copy_before copy_lesser (is_copy id page) copy_earlier copy_above copy_apart copies place rise front rest d first)

  -- all copies come before it
  pub position_past : (copies : List Copy) (place : ℕ) → AllWithin (λ copy. copy_lesser copy ≡ true) copies 0 place → length copies ≤ place → position (is_copy id page) copies ≡ None
  position_past copies place front past =
      positions_none (is_copy id page) copies (record { region = 0; page = 0; bytes = [] })
      (λ k d le lt. copy_apart (get_or copies k d) (front k d le (omega arith)))

-- ---- records that go with a page

-- a record of another page stays
pub others_stay : (copies : List Copy) (page : ℕ) (r : Record) → (r.page ≡ page → ⊥) → not (is_without_copy copies page r) ≡ true
others_stay copies page r other = let apart : (r.page == page) ≡ false = ne_eqb r.page page other in rw apart refl

-- where no record is of the page, all stay
pub none_goes : (records : List Record) (copies : List Copy) (page start end : ℕ) → end ≤ start → AllWithin (λ r. r.page < page) records 0 start → AllWithin (λ r. page < r.page) records end (length records) → filter (λ r. not (is_without_copy copies page r)) records ≡ records
none_goes records copies page start end le lesser greater =
    filter_keeps_all (λ r. not (is_without_copy copies page r)) records
    (recursion_from_All (λ r. not (is_without_copy copies page r) ≡ true) records
    (λ k d within. others_stay copies page (get_or records k d) (λ same.
    ⊎_elim (λ less. let below = lesser k d (omega arith) less in omega arith) (λ from. let above = greater k d (omega arith) within in omega arith) (cases_lt k start))))

-- the execute bit of a record of another page
pub other_kept : (page : ℕ) (r : Record) → (r.page ≡ page → ⊥) → without_execute page r ≡ r
other_kept page r other = let apart : (r.page == page) ≡ false = ne_eqb r.page page other in rw apart refl

pub own_stripped : (page : ℕ) (r : Record) → r.page ≡ page → record r { execute = false } ≡ without_execute page r
own_stripped page r same = let own : (r.page == page) ≡ true = eq-eqb r.page page same in rw own refl

-- the same of a record that is changed in place
pub given_set_rise : (id page : ℕ) (access : Access) (guarded : Bool) (records : List Record) (place : ℕ) (r : Record) → position (is_record id page) records ≡ Some place → r ≡ get_or records place r → AllPairs (λ x y. is_record x.region x.page y ≡ false) records → RecordsRise records → RecordsRise (set records place (given access guarded r))
given_set_rise id page access guarded records place r at read one rise =
    subst RecordsRise (sym (position-map (λ (x y : Record). is_record x.region x.page y) (is_record id page) (record_alike id page) (given access guarded) records place r at read one))
    (given_rise page id access guarded records rise)

-- what stands at a place that no change has reached yet
pub current : (f : Record → Record) (old now : List Record) (place : ℕ) (d : Record) → place < length old → now ≡ map f (take place old) ++ drop place old → get_or now place d ≡ get_or old place d
current f old now place d within same = ap (λ (l : List Record). get_or l place d) same ∙ there old place within
  where
    there : (records : List Record) (k : ℕ) → k < length records → get_or (map f (take k records) ++ drop k records) k d ≡ get_or records k d
    there [] k lt = absurd (omega arith)
    there (r ∷ rs) zero lt = refl
    there (r ∷ rs) (suc k) lt = there rs k (omega arith)
