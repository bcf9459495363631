-- The least number of a shared region that may write a page.
use Rattle.std.proofs.Common.{◌≡◌, ℕ, ◌-◌, ◌<◌, ◌≤◌, ◌==◌, ◌⊎◌, ⊎_elim, length, take, drop, get_or, Bool, true, false, List, [], ◌∷◌, map, filter, fold, min, Option, Some, None, refl, ap, sym, subst, inl, inr, ◌∙◌, arith}
use Rattle.std.specs.Prelude.{nat_le, AllPairs, IfSome, IfNone, IsSomeAnd, if◌then◌else◌}
use Rattle.std.specs.List.{AllByRecursion, reduce}
use Rattle.std.specs.List.{AllWithin}
use Rattle.std.proofs.lemmas.Bool.{ne_eqb}
use Rattle.std.proofs.lemmas.Grind.{common_steps}
use Rattle.pg_bytes.proofs.SplitFacts.{filter_part}
use Rattle.cs_policy.specs.declared.region.Region.{Region}
use Rattle.cs_policy.specs.declared.region.Record.{Record}
use Rattle.pg_regions.specs.Lookups.{is_record, record_of, is_shared, permits_write, writer_of, IsWriter, IsLeastWriter}
use Rattle.pg_regions.proofs.ListFacts.{found_passes, found_has}
use Rattle.pg_regions.proofs.PairFacts.{found_itself}
use Rattle.pg_regions.proofs.FoundFacts.{record_swap}

-- ---- the least of some numbers

min_below : (a : ℕ) (ns : List ℕ) → (fold min a ns ≤ a) × AllByRecursion (λ n. fold min a ns ≤ n) ns
min_below a [] = (omega arith, tt)
min_below a (n ∷ ns) =
    let rest = min_below (min a n) ns in
    (omega (arith, rest.0), (omega (arith, rest.0), rest.1))

min_is : (a n : ℕ) → (min a n ≡ a) ⊎ (min a n ≡ n)
min_is a n = elim (nat_le a n) as (λ b. nat_le a n ≡ b → (min a n ≡ a) ⊎ (min a n ≡ n)) [ true ↦ λ e. inl (grind arith) | false ↦ λ e. inr (grind arith) ] refl

-- some number of the list has what each of them has
min_has : (P : ℕ → Type 0) (a : ℕ) (ns : List ℕ) → P a → AllByRecursion P ns → P (fold min a ns)
min_has P a [] first all = first
min_has P a (n ∷ ns) first all = min_has P (min a n) ns (elim (min_is a n) [ inl e ↦ subst P (sym e) first | inr e ↦ subst P (sym e) all.0 ]) all.1

pub least_has : (P : ℕ → Type 0) (ns : List ℕ) (least : ℕ) → reduce min ns ≡ Some least → AllByRecursion P ns → P least
least_has P [] least e all = absurd (cc)
least_has P (n ∷ ns) least e all =
    let same : fold min n ns ≡ least = cc in
    subst P same (min_has P n ns all.0 all.1)

pub least_below : (ns : List ℕ) (least : ℕ) → reduce min ns ≡ Some least → AllByRecursion (λ n. least ≤ n) ns
least_below [] least e = absurd (cc)
least_below (n ∷ ns) least e =
    let same : fold min n ns ≡ least = cc in
    subst (λ (m : ℕ). AllByRecursion (λ k. m ≤ k) (n ∷ ns)) same (min_below n ns)

module _ {X : Type 0} (number : X → ℕ) (test : X → Bool) where
  -- what is true of the numbers of those that pass
  pub numbers_have : (P : ℕ → Type 0) (Q : X → Type 0) (xs : List X) → ((x : X) → test x ≡ true → Q x → P (number x))
      → AllByRecursion Q xs → AllByRecursion P (map number (filter test xs))
  numbers_have P Q [] step all = tt
  numbers_have P Q (x ∷ xs) step all = by_test (test x) refl (numbers_have P Q xs step all.1)
    where
      by_test : (b : Bool) → test x ≡ b → AllByRecursion P (map number (filter test xs))
          → AllByRecursion P (map number (if test x then x ∷ filter test xs else filter test xs))
      by_test true e rest = subst (λ b. AllByRecursion P (map number (if b then x ∷ filter test xs else filter test xs))) (sym e) (step x e all.0, rest)
      by_test false e rest = subst (λ b. AllByRecursion P (map number (if b then x ∷ filter test xs else filter test xs))) (sym e) rest

  pub passing_have : (P : ℕ → Type 0) (xs : List X) → AllByRecursion P (map number (filter test xs))
      → AllByRecursion (λ x. test x ≡ true → P (number x)) xs
  passing_have P [] all = tt
  passing_have P (x ∷ xs) all = by_test (test x) refl all (passing_have P xs)
    where
      by_test : (b : Bool) → test x ≡ b → AllByRecursion P (map number (if test x then x ∷ filter test xs else filter test xs))
          → (AllByRecursion P (map number (filter test xs)) → AllByRecursion (λ y. test y ≡ true → P (number y)) xs) → (test x ≡ true → P (number x)) × AllByRecursion (λ y. test y ≡ true → P (number y)) xs
      by_test true e h rest =
          let at = subst (λ b. AllByRecursion P (map number (if b then x ∷ filter test xs else filter test xs))) e h in
          (λ passes. at.0, rest at.1)
      by_test false e h rest =
          let at = subst (λ b. AllByRecursion P (map number (if b then x ∷ filter test xs else filter test xs))) e h in
          (λ passes. absurd (cc), rest at)

  pub none_pass : (xs : List X) → reduce min (map number (filter test xs)) ≡ None → AllByRecursion (λ x. test x ≡ false) xs
  none_pass [] none = tt
  none_pass (x ∷ xs) none = by_test (test x) refl (none_pass xs)
    where
      by_test : (b : Bool) → test x ≡ b
          → (reduce min (map number (filter test xs)) ≡ None → AllByRecursion (λ y. test y ≡ false) xs)
          → (test x ≡ false) × AllByRecursion (λ y. test y ≡ false) xs
      by_test true e rest =
          absurd (let some : reduce min (map number (if true then x ∷ filter test xs else filter test xs)) ≡ None =
          subst (λ b. reduce min (map number (if b then x ∷ filter test xs else filter test xs)) ≡ None) e none in cc)
      by_test false e rest = (e, rest (subst (λ b. reduce min (map number (if b then x ∷ filter test xs else filter test xs)) ≡ None) e none))

-- ---- writers

module _ (regions : List Region) (records : List Record) (page : ℕ) where
  -- a record that is found by its key and lets its region write
  is_writer : (r : Record) → permits_write regions page r ≡ true → record_of records r.region r.page ≡ Some r
      → IsWriter regions records page r.region
  is_writer r lets found =
      let number : r.page ≡ page = grind (arith, common_steps, lets) in
      record {
        shared = grind (arith, common_steps, lets);
        writes =
            subst (λ o. IsSomeAnd o (λ x. x.write ≡ true)) (sym (ap (record_of records r.region) (sym number) ∙ found)) (grind (arith, common_steps, lets));
      }

  -- the record that makes a region a writer
  record_lets : (id : ℕ) (r : Record) → is_shared regions id ≡ true → record_of records id page ≡ Some r → r.write ≡ true
      → (permits_write regions page r ≡ true) × (r.region ≡ id)
  record_lets id r shared found writes =
      let one = found_passes (is_record id page) records r found in
      let region : r.region ≡ id = grind (arith, common_steps, one) in
      (grind (arith, common_steps, one, region, shared, writes), region)

  by_writer : (P : Record → Type 0) → AllByRecursion P records → (id : ℕ) → IsWriter regions records page id
      → (r : Record) × P r × (permits_write regions page r ≡ true) × (r.region ≡ id)
  by_writer P all id writer = by_found (record_of records id page) refl writer.writes
    where
      by_found : (o : Option Record) → record_of records id page ≡ o → IsSomeAnd o (λ r. r.write ≡ true)
          → (r : Record) × P r × (permits_write regions page r ≡ true) × (r.region ≡ id)
      by_found None found writes = absurd writes
      by_found (Some r) found writes =
          let lets = record_lets id r writer.shared found writes in
          (r, found_has P (is_record id page) records r all found, lets.0, lets.1)

  pub writer_least : (result : Option ℕ) → result ≡ writer_of regions records page
      → AllPairs (λ one other. is_record one.region one.page other ≡ false) records
      → IfSome result (IsLeastWriter regions records page)
  writer_least None e pairs = tt
  writer_least (Some id) e pairs =
      let itself = found_itself (λ (x : Record). is_record x.region x.page) (λ x. grind (arith, common_steps)) record_swap records pairs in
      let writers =
      numbers_have (λ (r : Record). r.region) (permits_write regions page) (IsWriter regions records page)
      (λ r. record_of records r.region r.page ≡ Some r) records is_writer itself in
      let numbers = map (λ (r : Record). r.region) (filter (permits_write regions page) records) in
      let below =
      passing_have (λ (r : Record). r.region) (permits_write regions page) (λ n. id ≤ n) records (least_below numbers id (sym e)) in
      record {
        writer = least_has (IsWriter regions records page) numbers id (sym e) writers;
        least = λ other writes. at_most other (by_writer (λ r. permits_write regions page r ≡ true → id ≤ r.region) below other writes);
      }
    where
      at_most : (other : ℕ)
          → (r : Record) × (permits_write regions page r ≡ true → id ≤ r.region) × (permits_write regions page r ≡ true) × (r.region ≡ other)
          → id ≤ other
      at_most other (r, below, lets, same) = omega (arith, below lets, same)

  pub writer_none : (result : Option ℕ) → result ≡ writer_of regions records page
      → IfNone result ((id : ℕ) → ¬ IsWriter regions records page id)
  writer_none (Some id) e = tt
  writer_none None e =
      λ id writes. no_record (by_writer (λ r. permits_write regions page r ≡ false) (none_pass (λ (r : Record). r.region) (permits_write regions page) records (sym e)) id writes)
    where
      no_record : {id : ℕ}
          → (r : Record) × (permits_write regions page r ≡ false) × (permits_write regions page r ≡ true) × (r.region ≡ id) → ⊥
      no_record (r, fails, lets, same) = cc

-- the records of a page stand together, and no others let a region write it
pub writer_within : (regions : List Region) (records : List Record) (page start end : ℕ) → start ≤ length records → end ≤ length records → AllWithin (λ r. r.page < page) records 0 start → AllWithin (λ r. page < r.page) records end (length records)
    → writer_of regions (take (end - start) (drop start records)) page ≡ writer_of regions records page
writer_within regions records page start end within_start within_end lesser greater =
    ap (λ (l : List Record). reduce min (map (λ r. r.region) l))
    (filter_part (permits_write regions page) start end records within_start within_end (λ k d le lt. elsewhere (get_or records k d) (inl (lesser k d le lt))) (λ k d le lt. elsewhere (get_or records k d) (inr (greater k d le lt))))
  where
    elsewhere : (r : Record) → (r.page < page) ⊎ (page < r.page) → permits_write regions page r ≡ false
    elsewhere r apart = let other : (r.page == page) ≡ false = ne_eqb r.page page (λ same. ⊎_elim (λ lt. omega arith) (λ lt. omega arith) apart) in rw other refl
