-- What is found after each call.
use Rattle.std.proofs.Common.{◌≡◌, ℕ, ◌==◌, ◌&&◌, List, map, filter, Bool, true, false, not, Option, Some, None, refl, ap, sym, subst, ◌∙◌, arith}
use Rattle.std.specs.Prelude.{insert, AllPairs, MatchOption, is_some, unwrap_or, if◌then◌else◌}
use Rattle.std.specs.Option.{option_map}
use Rattle.std.proofs.lemmas.Grind.{common_steps}
use Rattle.cs_policy.specs.declared.access.Access.{Access}
use Rattle.cs_policy.specs.declared.access.Access.TheVariants.{Read, Write, Execute}
use Rattle.cs_policy.specs.declared.region.Region.{Region}
use Rattle.cs_policy.specs.declared.region.Record.{Record}
use Rattle.pg_bytes.specs.Order.{in_order}
use Rattle.pg_regions.specs.Lookups.{Copy, region_before, copy_before, is_region, region_of, is_record, record_of, is_copy, copy_of, is_of_pid}
use Rattle.pg_regions.specs.RegionsNow.{RegionsNow}
use Rattle.pg_regions.specs.Steps.{ChangesRegion, ChangesRecord, ChangesCopy, with_region, without_region, without_pid, AreGone, blank, given, given_at, IsOneMore, IsGranted, granted, without_execute, is_without_copy, private_copy, with_copy, copy_with_piece, put_at, with_bytes, rewritten}
use Rattle.pg_regions.proofs.ListFacts.{all_map, find-filter, find-filter_key, find-map, find-insert, find-insert_other, none_passes, found_passes}
use Rattle.pg_regions.proofs.PairFacts.{found_only}
use Rattle.pg_regions.proofs.OrderFacts.{IsPlace, in_order_place}

-- ---- keys

pub region_alike : (id : ℕ) (x y : Region) → is_region id x ≡ true → is_region id y ≡ true → is_region x.id y ≡ true
region_alike id x y = grind (arith, common_steps)

pub region_swap : (x y : Region) → is_region x.id y ≡ false → is_region y.id x ≡ false
region_swap x y differ = grind (arith, common_steps, differ)

pub record_alike : (id page : ℕ) (x y : Record) → is_record id page x ≡ true → is_record id page y ≡ true
    → is_record x.region x.page y ≡ true
record_alike id page x y one other = grind (arith, common_steps, one, other)

pub record_swap : (x y : Record) → is_record x.region x.page y ≡ false → is_record y.region y.page x ≡ false
record_swap x y differ = grind (arith, common_steps, differ)

pub copy_alike : (id page : ℕ) (x y : Copy) → is_copy id page x ≡ true → is_copy id page y ≡ true
    → is_copy x.region x.page y ≡ true
copy_alike id page x y one other = grind (arith, common_steps, one, other)

pub copy_swap : (x y : Copy) → is_copy x.region x.page y ≡ false → is_copy y.region y.page x ≡ false
copy_swap x y differ = grind (arith, common_steps, differ)

-- ---- regions

pub region_of-ordered : (regions : List Region) (region : Region) (id : ℕ) → region_of regions region.id ≡ None
    → region_of (in_order region_before region regions) id ≡ (if id == region.id then Some region else region_of regions id)
region_of-ordered regions region id none = by_key (id == region.id) refl (in_order_place region_before region regions)
  where
    by_key : (b : Bool) → (id == region.id) ≡ b → IsPlace region_before region regions
        → region_of (in_order region_before region regions) id ≡ (if id == region.id then Some region else region_of regions id)
    by_key true e at =
        let same : id ≡ region.id = grind (arith, common_steps, e) in
        let absent : region_of regions id ≡ None = rw same none in
        let found = find-insert (is_region id) regions at.place region absent in
        ap (λ (l : List Region). region_of l id) at.inserted ∙ grind (arith, common_steps, found, e)
    by_key false e at =
        let other : is_region id region ≡ false = grind (arith, common_steps, e) in
        let found = find-insert_other (is_region id) regions at.place region other in
        ap (λ (l : List Region). region_of l id) at.inserted ∙ grind (arith, common_steps, found, e)

pub region_of-without : (regions : List Region) (id i : ℕ)
    → region_of (filter (λ region. not (region.id == id)) regions) i ≡ (if i == id then None else region_of regions i)
region_of-without regions id i =
    find-filter_key (is_region i) (λ (region : Region). not (region.id == id)) (i == id) (λ region one. grind (arith, common_steps, one)) regions

pub record_of-without : (records : List Record) (id i page : ℕ)
    → record_of (filter (λ r. not (r.region == id)) records) i page ≡ (if i == id then None else record_of records i page)
record_of-without records id i page =
    find-filter_key (is_record i page) (λ (r : Record). not (r.region == id)) (i == id) (λ r one. grind (arith, common_steps, one)) records

pub copy_of-without : (copies : List Copy) (id i page : ℕ)
    → copy_of (filter (λ copy. not (copy.region == id)) copies) i page ≡ (if i == id then None else copy_of copies i page)
copy_of-without copies id i page =
    find-filter_key (is_copy i page) (λ (copy : Copy). not (copy.region == id)) (i == id) (λ copy one. grind (arith, common_steps, one)) copies

pub region_of-without_pid : (regions : List Region) (pid i : ℕ) → AllPairs (λ one other. is_region one.id other ≡ false) regions
    → region_of (filter (λ region. not (region.pid == pid)) regions) i ≡ (if is_of_pid regions pid i then None else region_of regions i)
region_of-without_pid regions pid i pairs = by_found (region_of regions i) refl
  where
    by_found : (o : Option Region) → region_of regions i ≡ o
        → region_of (filter (λ region. not (region.pid == pid)) regions) i ≡ (if is_of_pid regions pid i then None else region_of regions i)
    by_found None found =
        let none =
        find-filter (is_region i) (λ (region : Region). not (region.pid == pid)) true regions
        (all_map (λ region. is_region i region ≡ false) (λ region. is_region i region ≡ true → not (region.pid == pid) ≡ true)
        regions (λ region fails passes. absurd (cc)) (none_passes (is_region i) regions found)) in
        grind (arith, common_steps, none, found)
    by_found (Some g) found =
        let only = found_only (λ (x y : Region). is_region x.id y) (is_region i) (region_alike i) regions g pairs found in
        let kept =
        find-filter (is_region i) (λ (region : Region). not (region.pid == pid)) (not (g.pid == pid)) regions
        (all_map (λ region. is_region i region ≡ true → region ≡ g)
        (λ region. is_region i region ≡ true → not (region.pid == pid) ≡ not (g.pid == pid)) regions
        (λ region one passes. ap (λ (x : Region). not (x.pid == pid)) (one passes)) only) in
        grind (arith, common_steps, kept, found)

pub record_of-without_pid : (regions : List Region) (records : List Record) (pid i page : ℕ)
    → record_of (filter (λ r. not (is_of_pid regions pid r.region)) records) i page ≡ (if is_of_pid regions pid i then None else record_of records i page)
record_of-without_pid regions records pid i page =
    find-filter_key (is_record i page) (λ (r : Record). not (is_of_pid regions pid r.region)) (is_of_pid regions pid i)
    (λ r one. let same : r.region ≡ i = grind (arith, common_steps, one) in ap (λ n. not (is_of_pid regions pid n)) same) records

pub copy_of-without_pid : (regions : List Region) (copies : List Copy) (pid i page : ℕ)
    → copy_of (filter (λ copy. not (is_of_pid regions pid copy.region)) copies) i page ≡ (if is_of_pid regions pid i then None else copy_of copies i page)
copy_of-without_pid regions copies pid i page =
    find-filter_key (is_copy i page) (λ (copy : Copy). not (is_of_pid regions pid copy.region)) (is_of_pid regions pid i)
    (λ copy one. let same : copy.region ≡ i = grind (arith, common_steps, one) in ap (λ n. not (is_of_pid regions pid n)) same) copies

-- ---- records

-- a change of records that leaves whose they are
pub record KeepsKeys (f : Record → Record) : Type 0 where
  pub region : (r : Record) → (f r).region ≡ r.region
  pub page : (r : Record) → (f r).page ≡ r.page

pub given_region : (access : Access) (guarded : Bool) (r : Record) → (given access guarded r).region ≡ r.region
given_region Read guarded r = refl
given_region Write guarded r = refl
given_region Execute guarded r = refl

pub given_page : (access : Access) (guarded : Bool) (r : Record) → (given access guarded r).page ≡ r.page
given_page Read guarded r = refl
given_page Write guarded r = refl
given_page Execute guarded r = refl

pub given_keeps : (id page : ℕ) (access : Access) (guarded : Bool) → KeepsKeys (given_at id page access guarded)
given_keeps id page access guarded = record {
  region = λ r. grind (arith, common_steps, given_region access guarded r);
  page = λ r. grind (arith, common_steps, given_page access guarded r);
}

pub stripped_keeps : (page : ℕ) → KeepsKeys (without_execute page)
stripped_keeps page = record { region = λ r. grind (arith, common_steps); page = λ r. grind (arith, common_steps) }

pub is_record-kept : (f : Record → Record) → KeepsKeys f → (id page : ℕ) (r : Record)
    → is_record id page (f r) ≡ is_record id page r
is_record-kept f keeps id page r = rw (keeps.region r, keeps.page r) refl

pub record_of-map : (f : Record → Record) → KeepsKeys f → (records : List Record) (id page : ℕ)
    → record_of (map f records) id page ≡ option_map f (record_of records id page)
record_of-map f keeps records id page = find-map (is_record id page) f (is_record-kept f keeps id page) records

-- where the key is another, the record is as it was
given_other : (id page : ℕ) (access : Access) (guarded : Bool) (records : List Record) (i p : ℕ) → (i == id && p == page) ≡ false
    → option_map (given_at id page access guarded) (record_of records i p) ≡ record_of records i p
given_other id page access guarded records i p other = by_found (record_of records i p) refl
  where
    by_found : (o : Option Record) → record_of records i p ≡ o → option_map (given_at id page access guarded) o ≡ o
    by_found None found = refl
    by_found (Some r) found =
        let one = found_passes (is_record i p) records r found in
        let apart : is_record id page r ≡ false = grind (arith, common_steps, one, other) in
        ap (λ b. Some (if b then given access guarded r else r)) apart

granted_new : (id page : ℕ) (access : Access) (guarded : Bool) (old : List Record) (place : ℕ) (i p : ℕ)
    → record_of old id page ≡ None
    → record_of (insert old place (given access guarded (blank id page))) i p ≡ (if i == id && p == page then Some (given access guarded (blank id page)) else record_of old i p)
granted_new id page access guarded old place i p none = by_key (i == id && p == page) refl
  where
    key : is_record i p (given access guarded (blank id page)) ≡ is_record i p (blank id page)
    key = rw (given_region access guarded (blank id page), given_page access guarded (blank id page)) refl

    by_key : (b : Bool) → (i == id && p == page) ≡ b
        → record_of (insert old place (given access guarded (blank id page))) i p ≡ (if i == id && p == page then Some (given access guarded (blank id page)) else record_of old i p)
    by_key true e =
        let region : i ≡ id = grind (arith, common_steps, e) in
        let number : p ≡ page = grind (arith, common_steps, e) in
        let absent : record_of old i p ≡ None = rw (region, number) none in
        let found = find-insert (is_record i p) old place (given access guarded (blank id page)) absent in
        grind (arith, common_steps, found, key, e)
    by_key false e =
        let apart : is_record i p (given access guarded (blank id page)) ≡ false = grind (arith, common_steps, key, e) in
        grind (arith, common_steps, find-insert_other (is_record i p) old place (given access guarded (blank id page)) apart, e)

granted_again : (id page : ℕ) (access : Access) (guarded : Bool) (old : List Record) (r : Record) (i p : ℕ)
    → record_of old id page ≡ Some r
    → record_of (map (given_at id page access guarded) old) i p ≡ (if i == id && p == page then Some (given access guarded r) else record_of old i p)
granted_again id page access guarded old r i p found =
    record_of-map (given_at id page access guarded) (given_keeps id page access guarded) old i p ∙ by_key (i == id && p == page) refl
  where
    by_key : (b : Bool) → (i == id && p == page) ≡ b
        → option_map (given_at id page access guarded) (record_of old i p) ≡ (if i == id && p == page then Some (given access guarded r) else record_of old i p)
    by_key true e =
        let region : i ≡ id = grind (arith, common_steps, e) in
        let number : p ≡ page = grind (arith, common_steps, e) in
        let one = found_passes (is_record id page) old r found in
        let there : record_of old i p ≡ Some r = rw (region, number) found in
        grind (arith, common_steps, there, one, e)
    by_key false e = grind (arith, common_steps, given_other id page access guarded old i p e, e)

record_of-granted : (id page : ℕ) (access : Access) (guarded : Bool) (old new : List Record)
    → IsGranted id page access guarded old new → (i p : ℕ)
    → record_of new i p ≡ (if i == id && p == page then Some (given access guarded (unwrap_or (record_of old id page) (blank id page))) else record_of old i p)
record_of-granted id page access guarded old new is i p = by_found (record_of old id page) refl is
  where
    by_found : (o : Option Record) → record_of old id page ≡ o
        → MatchOption o (IsOneMore old (given access guarded (blank id page)) new) (λ _. new ≡ map (given_at id page access guarded) old)
        → record_of new i p ≡ (if i == id && p == page then Some (given access guarded (unwrap_or (record_of old id page) (blank id page))) else record_of old i p)
    by_found None found more =
        ap (λ (l : List Record). record_of l i p) more.inserted ∙ granted_new id page access guarded old more.place i p found
        ∙ ap (λ (o : Option Record). if i == id && p == page then Some (given access guarded (unwrap_or o (blank id page))) else record_of old i p) (sym found)
    by_found (Some r) found same =
        ap (λ (l : List Record). record_of l i p) same ∙ granted_again id page access guarded old r i p found
        ∙ ap (λ (o : Option Record). if i == id && p == page then Some (given access guarded (unwrap_or o (blank id page))) else record_of old i p) (sym found)

pub record_of-unmapped : (records : List Record) (copies : List Copy) (page i p : ℕ)
    → record_of (filter (λ r. not (is_without_copy copies page r)) records) i p ≡ (if p == page && not (is_some (copy_of copies i page)) then None else record_of records i p)
record_of-unmapped records copies page i p =
    find-filter_key (is_record i p) (λ (r : Record). not (is_without_copy copies page r)) (p == page && not (is_some (copy_of copies i page)))
    (λ r one. let region : r.region ≡ i = grind (arith, common_steps, one) in let number : r.page ≡ p = grind (arith, common_steps, one) in rw (region, number) refl) records

-- ---- private copies

pub copy_of-ordered : (copies : List Copy) (copy : Copy) (id page : ℕ) → copy_of copies copy.region copy.page ≡ None
    → copy_of (in_order copy_before copy copies) id page ≡ (if id == copy.region && page == copy.page then Some copy else copy_of copies id page)
copy_of-ordered copies copy id page none = by_key (id == copy.region && page == copy.page) refl (in_order_place copy_before copy copies)
  where
    by_key : (b : Bool) → (id == copy.region && page == copy.page) ≡ b → IsPlace copy_before copy copies
        → copy_of (in_order copy_before copy copies) id page ≡ (if id == copy.region && page == copy.page then Some copy else copy_of copies id page)
    by_key true e at =
        let region : id ≡ copy.region = grind (arith, common_steps, e) in
        let number : page ≡ copy.page = grind (arith, common_steps, e) in
        let absent : copy_of copies id page ≡ None = rw (region, number) none in
        let found = find-insert (is_copy id page) copies at.place copy absent in
        ap (λ (l : List Copy). copy_of l id page) at.inserted ∙ grind (arith, common_steps, found, e)
    by_key false e at =
        let other : is_copy id page copy ≡ false = grind (arith, common_steps, e) in
        let found = find-insert_other (is_copy id page) copies at.place copy other in
        ap (λ (l : List Copy). copy_of l id page) at.inserted ∙ grind (arith, common_steps, found, e)

put_key : (copies : List Copy) (id page at : ℕ) (bytes : List ℕ) (i p : ℕ)
    → option_map (put_at id page at bytes) (copy_of copies i p) ≡ (if i == id && p == page then option_map (copy_with_piece at bytes) (copy_of copies id page) else copy_of copies i p)
put_key copies id page at bytes i p = by_key (i == id && p == page) refl (copy_of copies i p) refl
  where
    by_key : (b : Bool) → (i == id && p == page) ≡ b → (o : Option Copy) → copy_of copies i p ≡ o
        → option_map (put_at id page at bytes) (copy_of copies i p) ≡ (if i == id && p == page then option_map (copy_with_piece at bytes) (copy_of copies id page) else copy_of copies i p)
    by_key true e None found =
        let region : i ≡ id = grind (arith, common_steps, e) in
        let number : p ≡ page = grind (arith, common_steps, e) in
        let absent : copy_of copies id page ≡ None = rw (← region, ← number) found in
        grind (arith, common_steps, found, absent, e)
    by_key false e None found = grind (arith, common_steps, found, e)
    by_key true e (Some copy) found =
        let region : i ≡ id = grind (arith, common_steps, e) in
        let number : p ≡ page = grind (arith, common_steps, e) in
        let there : copy_of copies id page ≡ Some copy = rw (← region, ← number) found in
        let one = found_passes (is_copy i p) copies copy found in
        grind (arith, common_steps, found, there, one, e)
    by_key false e (Some copy) found =
        let one = found_passes (is_copy i p) copies copy found in
        grind (arith, common_steps, found, one, e)

pub copy_of-put : (copies : List Copy) (id page at : ℕ) (bytes : List ℕ) (i p : ℕ)
    → copy_of (map (put_at id page at bytes) copies) i p ≡ (if i == id && p == page then option_map (copy_with_piece at bytes) (copy_of copies id page) else copy_of copies i p)
copy_of-put copies id page at bytes i p =
    find-map (is_copy i p) (put_at id page at bytes) (λ copy. grind (arith, common_steps)) copies ∙ put_key copies id page at bytes i p

-- ---- by equations

-- a number is its own, and no other
same_number : (id : ℕ) → (id == id) ≡ true
same_number id = grind (arith, common_steps)

same_key : (id page : ℕ) → (id == id && page == page) ≡ true
same_key id page = grind (arith, common_steps)

pub granted_found : (id page : ℕ) (access : Access) (guarded : Bool) (old new : RegionsNow)
    → IsGranted id page access guarded old.records new.records
    → ChangesRecord old new id page (Some (granted id page access guarded old))
granted_found id page access guarded old new is = record {
  here =
      record_of-granted id page access guarded old.records new.records is id page
      ∙ ap (λ b. if b then Some (granted id page access guarded old) else record_of old.records id page) (same_key id page);
  others = λ i p other.
      record_of-granted id page access guarded old.records new.records is i p
      ∙ ap (λ b. if b then Some (granted id page access guarded old) else record_of old.records i p) other;
}

pub stripped_found : (page : ℕ) (old new : List Record) → new ≡ map (without_execute page) old → (i p : ℕ)
    → record_of new i p ≡ option_map (without_execute page) (record_of old i p)
stripped_found page old new same i p =
    ap (λ (l : List Record). record_of l i p) same ∙ record_of-map (without_execute page) (stripped_keeps page) old i p

pub unmapped_found : (page : ℕ) (copies : List Copy) (old new : List Record)
    → new ≡ filter (λ r. not (is_without_copy copies page r)) old → (i p : ℕ)
    → record_of new i p ≡ (if p == page && not (is_some (copy_of copies i page)) then None else record_of old i p)
unmapped_found page copies old new same i p =
    ap (λ (l : List Record). record_of l i p) same ∙ record_of-unmapped old copies page i p

pub added_found : (region : Region) (old new : RegionsNow) → new ≡ with_region region old → region_of old.regions region.id ≡ None
    → ChangesRegion old new region.id (Some region)
added_found region old new same none =
    subst (λ now. ChangesRegion old now region.id (Some region)) (sym same)
    (record {
      here = region_of-ordered old.regions region region.id none ∙ ap (λ b. if b then Some region else region_of old.regions region.id) (same_number region.id);
      others = λ i other. region_of-ordered old.regions region i none ∙ ap (λ b. if b then Some region else region_of old.regions i) other;
    })

pub made_found : (id page : ℕ) (bytes : List ℕ) (old new : RegionsNow) → new ≡ with_copy (private_copy id page bytes) old
    → copy_of old.copies id page ≡ None
    → ChangesCopy old new id page (Some (private_copy id page bytes))
made_found id page bytes old new same none =
    let copy : Copy = private_copy id page bytes in
    subst (λ now. ChangesCopy old now id page (Some copy)) (sym same)
    (record {
      here = copy_of-ordered old.copies copy id page none ∙ ap (λ b. if b then Some copy else copy_of old.copies id page) (same_key id page);
      others = λ i p other. copy_of-ordered old.copies copy i p none ∙ ap (λ b. if b then Some copy else copy_of old.copies i p) other;
    })

pub put_found : (id page at : ℕ) (bytes : List ℕ) (old new : RegionsNow) → new ≡ with_bytes id page at bytes old
    → ChangesCopy old new id page (rewritten id page at bytes old)
put_found id page at bytes old new same =
    subst (λ now. ChangesCopy old now id page (rewritten id page at bytes old)) (sym same)
    (record {
      here = copy_of-put old.copies id page at bytes id page ∙ ap (λ b. if b then rewritten id page at bytes old else copy_of old.copies id page) (same_key id page);
      others = λ i p other. copy_of-put old.copies id page at bytes i p ∙ ap (λ b. if b then rewritten id page at bytes old else copy_of old.copies i p) other;
    })

pub region_gone : (id : ℕ) (old new : RegionsNow) → new ≡ without_region id old → AreGone (λ i. i == id) old new
region_gone id old new same =
    subst (AreGone (λ i. i == id) old) (sym same)
    (record {
      regions = λ i. region_of-without old.regions id i;
      records = λ i page. record_of-without old.records id i page;
      copies = λ i page. copy_of-without old.copies id i page;
    })

pub pid_gone : (pid : ℕ) (old new : RegionsNow) → AllPairs (λ one other. is_region one.id other ≡ false) old.regions
    → new ≡ without_pid pid old → AreGone (is_of_pid old.regions pid) old new
pid_gone pid old new pairs same =
    subst (AreGone (is_of_pid old.regions pid) old) (sym same)
    (record {
      regions = λ i. region_of-without_pid old.regions pid i pairs;
      records = λ i page. record_of-without_pid old.regions old.records pid i page;
      copies = λ i page. copy_of-without_pid old.regions old.copies pid i page;
    })
