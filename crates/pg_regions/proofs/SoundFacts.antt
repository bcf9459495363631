-- Each call keeps what is true after every call.
use Rattle.std.proofs.Common.{◌≡◌, ℕ, ◌+◌, ◌<◌, ◌≤◌, ◌==◌, List, length, map, filter, Bool, true, false, not, Option, Some, None, Bor, refl, ap, sym, subst, ◌∙◌, arith}
use Rattle.std.specs.Prelude.{All, AllPairs, insert, MatchOption, IfSome, if◌then◌else◌}
use Rattle.std.specs.Option.{option_map, option_copied}
use Rattle.std.proofs.lemmas.Grind.{common_steps}
use Rattle.std.proofs.lemmas.Bool.Decides.{nat_tests}
use Rattle.std.proofs.lemmas.List.{length-map}
use Rattle.std.proofs.lemmas.List.Edits.{length-insert}
use Rattle.std.proofs.lemmas.List.Elements.{All-from_recursion, recursion_from_All, All-filter}
use Rattle.std.proofs.lemmas.List.Kept.{AllPairs-filter}
use Rattle.cs_policy.specs.declared.access.Access.{Access}
use Rattle.cs_policy.specs.declared.region.Region.{Region}
use Rattle.cs_policy.specs.declared.region.Record.{Record}
use Rattle.pg_bytes.specs.Order.{in_order}
use Rattle.pg_io.specs.MemPagesLaws.{length-over}
use Rattle.pg_regions.specs.Lookups.{Copy, RegionsRise, RecordsRise, CopiesRise, region_before, record_before, copy_before, is_region, region_of, is_record, record_of, is_copy, copy_of, bytes_of, is_of_pid, HasPage, HasPrivatePage}
use Rattle.pg_regions.specs.RegionsNow.{RegionsNow, spare, IsSound}
use Rattle.pg_regions.specs.Steps.{with_region, without_region, without_pid, IsFresh, KeepsRoom, one_region_less, one_copy_less, blank, given, given_at, IsOneMore, IsGranted, without_execute, stripped, is_without_copy, unmapped, with_copy, put_at, with_bytes}
use Rattle.pg_regions.proofs.ListFacts.{length_filter, filter_all, all_map, found_passes, found_has, none_passes, All-mapped, All-inserted}
use Rattle.pg_regions.proofs.PairFacts.{pairs_map, pairs_insert}
use Rattle.pg_regions.proofs.OrderFacts.{before_later, before_other, IsPlace, in_order_place, all_ordered, ordered_rise}
use Rattle.pg_regions.proofs.FoundFacts.{KeepsKeys, is_record-kept, region_swap, record_swap, copy_swap, region_of-without, region_of-without_pid, given_keeps, given_region, given_page, stripped_keeps}
use Rattle.pg_regions.proofs.StandFacts.{Stands, StandsPrivate, Page, PrivatePage, other_number, records_pushed, copies_pushed, records_left, copies_left}

abbrev OneRegion : Region → Region → Type 0
OneRegion one other = is_region one.id other ≡ false

abbrev OneRecord : Record → Record → Type 0
OneRecord one other = is_record one.region one.page other ≡ false

abbrev OneCopy : Copy → Copy → Type 0
OneCopy one other = is_copy one.region one.page other ≡ false

abbrev IsWhole : ℕ → Copy → Type 0
IsWhole page copy = length copy.bytes ≡ page

-- ---- regions

region_put_apart : (regions : List Region) (region : Region) → region_of regions region.id ≡ None → AllPairs OneRegion regions
    → IsPlace region_before region regions → AllPairs OneRegion (in_order region_before region regions)
region_put_apart regions region none pairs at =
    subst (AllPairs OneRegion) (sym at.inserted) (pairs_insert OneRegion region_swap regions at.place region (none_passes (is_region region.id) regions none) pairs)

region_put_rise : (regions : List Region) (region : Region) → region_of regions region.id ≡ None → RegionsRise regions
    → RegionsRise (in_order region_before region regions)
region_put_rise regions region none rise =
    ordered_rise region_before (λ x y z one other. grind (arith, nat_tests)) region regions
    (all_map (λ (x : Region). is_region region.id x ≡ false) (λ x. region_before x region ≡ false → region_before region x ≡ true) regions
    (λ x other late. grind (arith, nat_tests)) (none_passes (is_region region.id) regions none)) rise

pub with_region_sound : (now : RegionsNow) (region : Region) → IsSound now → 0 < (spare now).regions
    → region_of now.regions region.id ≡ None → IsSound (with_region region now)
with_region_sound now region sound room none = record {
  one_region = region_put_apart now.regions region none sound.one_region (in_order_place region_before region now.regions);
  regions_rise = region_put_rise now.regions region none sound.regions_rise;
  records_rise = sound.records_rise;
  copies_rise = sound.copies_rise;
  page = sound.page;
  one_record = sound.one_record;
  one_copy = sound.one_copy;
  records_stand = records_pushed now.regions region now.records none sound.records_stand;
  copies_stand = copies_pushed now.regions region now.copies none sound.copies_stand;
  whole = sound.whole;
  few_regions = let at = in_order_place region_before region now.regions in omega (arith, ap length at.inserted, length-insert now.regions at.place region at.within);
  few_records = sound.few_records;
  few_copies = sound.few_copies;
  countable = sound.countable;
}

pub with_region_room : (now new : RegionsNow) (region : Region) → new ≡ with_region region now → spare new ≡ one_region_less (spare now)
with_region_room now new region same =
    let at = in_order_place region_before region now.regions in
    ap spare same ∙ ap (λ (n : ℕ). record (spare now) { regions = n }) (omega (arith, ap length at.inserted, length-insert now.regions at.place region at.within))

-- some regions went, with what belonged to them
module _ (now : RegionsNow) (stays : Region → Bool) (gone : ℕ → Bool) (left : (i : ℕ) → region_of (filter stays now.regions) i ≡ (if gone i then None else region_of now.regions i)) where
  abbrev after : RegionsNow
  after = record now {
    regions = filter stays now.regions;
    records = filter (λ r. not (gone r.region)) now.records;
    copies = filter (λ copy. not (gone copy.region)) now.copies;
  }

  gone_sound : IsSound now → IsSound after
  gone_sound sound = record {
    one_region = AllPairs-filter OneRegion stays now.regions sound.one_region;
    one_record = AllPairs-filter OneRecord (λ r. not (gone r.region)) now.records sound.one_record;
    one_copy = AllPairs-filter OneCopy (λ copy. not (gone copy.region)) now.copies sound.one_copy;
    regions_rise = AllPairs-filter (λ one other. region_before one other ≡ true) stays now.regions sound.regions_rise;
    records_rise = AllPairs-filter (λ one other. record_before one other ≡ true) (λ r. not (gone r.region)) now.records sound.records_rise;
    copies_rise = AllPairs-filter (λ one other. copy_before one other ≡ true) (λ copy. not (gone copy.region)) now.copies sound.copies_rise;
    page = sound.page;
    records_stand = records_left now.regions (filter stays now.regions) gone left now.records sound.records_stand;
    copies_stand = copies_left now.regions (filter stays now.regions) gone left now.copies sound.copies_stand;
    whole = All-filter (λ copy. not (gone copy.region)) (IsWhole now.page) now.copies sound.whole;
    few_regions = omega (arith, sound.few_regions, length_filter stays now.regions);
    few_records = omega (arith, sound.few_records, length_filter (λ (r : Record). not (gone r.region)) now.records);
    few_copies = omega (arith, sound.few_copies, length_filter (λ (copy : Copy). not (gone copy.region)) now.copies);
    countable = sound.countable;
  }

  gone_room : KeepsRoom now after
  gone_room = record {
    regions = omega (arith, length_filter stays now.regions);
    records = omega (arith, length_filter (λ (r : Record). not (gone r.region)) now.records);
    copies = omega (arith, length_filter (λ (copy : Copy). not (gone copy.region)) now.copies);
  }

pub without_region_sound : (now : RegionsNow) (id : ℕ) → IsSound now → IsSound (without_region id now)
without_region_sound now id = gone_sound now (λ region. not (region.id == id)) (λ i. i == id) (region_of-without now.regions id)

pub without_region_room : (now : RegionsNow) (id : ℕ) → KeepsRoom now (without_region id now)
without_region_room now id = gone_room now (λ region. not (region.id == id)) (λ i. i == id) (region_of-without now.regions id)

pub without_pid_sound : (now : RegionsNow) (pid : ℕ) → IsSound now → IsSound (without_pid pid now)
without_pid_sound now pid sound =
    gone_sound now (λ region. not (region.pid == pid)) (is_of_pid now.regions pid)
    (λ i. region_of-without_pid now.regions pid i sound.one_region) sound

pub without_pid_room : (now : RegionsNow) (pid : ℕ) → IsSound now → KeepsRoom now (without_pid pid now)
without_pid_room now pid sound =
    gone_room now (λ region. not (region.pid == pid)) (is_of_pid now.regions pid)
    (λ i. region_of-without_pid now.regions pid i sound.one_region)

-- without a region that does not stand all is as it was
pub without_absent : (now : RegionsNow) (id : ℕ) → IsSound now → region_of now.regions id ≡ None → now ≡ without_region id now
without_absent now id sound none =
    ap (λ (l : List Region). record now { regions = l }) (sym regions)
    ∙ ap (λ (l : List Record). record now { regions = (without_region id now).regions; records = l }) (sym records)
    ∙ ap (λ (l : List Copy). record (without_region id now) { copies = l }) (sym copies)
  where
    regions : filter (λ region. not (region.id == id)) now.regions ≡ now.regions
    regions =
        filter_all (λ region. not (region.id == id)) now.regions
        (all_map (λ region. is_region id region ≡ false) (λ region. not (region.id == id) ≡ true) now.regions
        (λ region other. ap not other) (none_passes (is_region id) now.regions none))

    records : filter (λ r. not (r.region == id)) now.records ≡ now.records
    records =
        filter_all (λ r. not (r.region == id)) now.records
        (all_map (Stands now.regions) (λ r. not (r.region == id) ≡ true) now.records
        (λ r has. ap not (other_number (Page r.page) now.regions id r.region none has))
        (recursion_from_All (Stands now.regions) now.records sound.records_stand))

    copies : filter (λ copy. not (copy.region == id)) now.copies ≡ now.copies
    copies =
        filter_all (λ copy. not (copy.region == id)) now.copies
        (all_map (StandsPrivate now.regions) (λ copy. not (copy.region == id) ≡ true) now.copies
        (λ copy has. ap not (other_number (PrivatePage copy.page) now.regions id copy.region none has))
        (recursion_from_All (StandsPrivate now.regions) now.copies sound.copies_stand))

-- a region that does not stand has no record and no copy
absent_fresh : (now : RegionsNow) (id : ℕ) → IsSound now → region_of now.regions id ≡ None → IsFresh now id
absent_fresh now id sound none = record {
  no_record = λ page. record_none page (record_of now.records id page) refl;
  no_copy = λ page. copy_none page (copy_of now.copies id page) refl;
}
  where
    record_none : (page : ℕ) (o : Option Record) → record_of now.records id page ≡ o → record_of now.records id page ≡ None
    record_none page None e = e
    record_none page (Some r) e =
        let stand = recursion_from_All (Stands now.regions) now.records sound.records_stand in
        let has : Stands now.regions r = found_has (Stands now.regions) (is_record id page) now.records r stand e in
        let one = found_passes (is_record id page) now.records r e in
        let other = other_number (Page r.page) now.regions id r.region none has in
        absurd (grind (arith, common_steps, one, other))

    copy_none : (page : ℕ) (o : Option Copy) → copy_of now.copies id page ≡ o → copy_of now.copies id page ≡ None
    copy_none page None e = e
    copy_none page (Some copy) e =
        let stand = recursion_from_All (StandsPrivate now.regions) now.copies sound.copies_stand in
        let has : StandsPrivate now.regions copy = found_has (StandsPrivate now.regions) (is_copy id page) now.copies copy stand e in
        let one = found_passes (is_copy id page) now.copies copy e in
        let other = other_number (PrivatePage copy.page) now.regions id copy.region none has in
        absurd (grind (arith, common_steps, one, other))

pub with_region_fresh : (now new : RegionsNow) (region : Region) → new ≡ with_region region now → IsSound now
    → region_of now.regions region.id ≡ None → IsFresh new region.id
with_region_fresh now new region same sound none =
    let before = absent_fresh now region.id sound none in
    subst (λ after. IsFresh after region.id) (sym same)
    (record { no_record = before.no_record; no_copy = before.no_copy })

-- ---- records

-- each record is changed, and whose it is stays
records_map_sound : (now : RegionsNow) (f : Record → Record) → KeepsKeys f → IsSound now
    → IsSound (record now { records = map f now.records })
records_map_sound now f keeps sound = record {
  one_region = sound.one_region;
  one_record =
      pairs_map OneRecord f
      (λ one other apart. rw (keeps.region one, keeps.page one) (is_record-kept f keeps one.region one.page other ∙ apart)) now.records
      sound.one_record;
  one_copy = sound.one_copy;
  regions_rise = sound.regions_rise;
  records_rise =
      pairs_map (λ one other. record_before one other ≡ true) f
      (λ one other rise. rw (keeps.region one, keeps.page one, keeps.region other, keeps.page other) rise) now.records sound.records_rise;
  copies_rise = sound.copies_rise;
  page = sound.page;
  records_stand =
      All-mapped (Stands now.regions) (Stands now.regions) f now.records (λ r has. rw (keeps.region r, keeps.page r) has)
      sound.records_stand;
  copies_stand = sound.copies_stand;
  whole = sound.whole;
  few_regions = sound.few_regions;
  few_records = omega (arith, sound.few_records, length-map now.records f);
  few_copies = sound.few_copies;
  countable = sound.countable;
}

-- one record more, of a page of a region that stands
record_insert_sound : (now : RegionsNow) (r : Record) (place : ℕ) → place ≤ length now.records
    → record_of now.records r.region r.page ≡ None
    → Stands now.regions r → 0 < (spare now).records → RecordsRise (insert now.records place r) → IsSound now
    → IsSound (record now { records = insert now.records place r })
record_insert_sound now r place within none has room rise sound = record {
  regions_rise = sound.regions_rise;
  records_rise = rise;
  copies_rise = sound.copies_rise;
  page = sound.page;
  one_region = sound.one_region;
  one_record =
      pairs_insert OneRecord record_swap now.records place r (none_passes (is_record r.region r.page) now.records none) sound.one_record;
  one_copy = sound.one_copy;
  records_stand = All-inserted (Stands now.regions) now.records place r has sound.records_stand;
  copies_stand = sound.copies_stand;
  whole = sound.whole;
  few_regions = sound.few_regions;
  few_records = omega (arith, length-insert now.records place r within);
  few_copies = sound.few_copies;
  countable = sound.countable;
}

pub granted_sound : (now : RegionsNow) (id page : ℕ) (access : Access) (guarded : Bool) (new : List Record) → IsSound now
    → HasPage now.regions id page → 0 < (spare now).records → RecordsRise new → IsGranted id page access guarded now.records new
    → IsSound (record now { records = new })
granted_sound now id page access guarded new sound has room rise is = by_found (record_of now.records id page) refl is
  where
    by_found : (o : Option Record) → record_of now.records id page ≡ o
        → MatchOption o (IsOneMore now.records (given access guarded (blank id page)) new) (λ _. new ≡ map (given_at id page access guarded) now.records)
        → IsSound (record now { records = new })
    by_found None found more =
        let first = given access guarded (blank id page) in
        let region = given_region access guarded (blank id page) in
        let number = given_page access guarded (blank id page) in
        subst (λ (l : List Record). IsSound (record now { records = l })) (sym more.inserted)
        (record_insert_sound now first more.place more.within (rw (region, number) found) (rw (region, number) has) room (subst RecordsRise more.inserted rise) sound)
    by_found (Some r) found same =
        subst (λ (l : List Record). IsSound (record now { records = l })) (sym same)
        (records_map_sound now (given_at id page access guarded) (given_keeps id page access guarded) sound)

pub stripped_sound : (now : RegionsNow) (page : ℕ) → IsSound now → IsSound (stripped page now)
stripped_sound now page sound = records_map_sound now (without_execute page) (stripped_keeps page) sound

pub unmapped_sound : (now : RegionsNow) (page : ℕ) → IsSound now → IsSound (unmapped page now)
unmapped_sound now page sound = record {
  one_region = sound.one_region;
  one_record = AllPairs-filter OneRecord (λ r. not (is_without_copy now.copies page r)) now.records sound.one_record;
  one_copy = sound.one_copy;
  regions_rise = sound.regions_rise;
  records_rise = AllPairs-filter (λ one other. record_before one other ≡ true) (λ r. not (is_without_copy now.copies page r)) now.records sound.records_rise;
  copies_rise = sound.copies_rise;
  page = sound.page;
  records_stand = All-filter (λ r. not (is_without_copy now.copies page r)) (Stands now.regions) now.records sound.records_stand;
  copies_stand = sound.copies_stand;
  whole = sound.whole;
  few_regions = sound.few_regions;
  few_records = omega (arith, sound.few_records, length_filter (λ (r : Record). not (is_without_copy now.copies page r)) now.records);
  few_copies = sound.few_copies;
  countable = sound.countable;
}

pub unmapped_room : (now : RegionsNow) (page : ℕ) → KeepsRoom now (unmapped page now)
unmapped_room now page = record {
  regions = omega arith;
  records = omega (arith, length_filter (λ (r : Record). not (is_without_copy now.copies page r)) now.records);
  copies = omega arith;
}

-- ---- private copies

copy_put_apart : (copies : List Copy) (copy : Copy) → copy_of copies copy.region copy.page ≡ None → AllPairs OneCopy copies
    → IsPlace copy_before copy copies → AllPairs OneCopy (in_order copy_before copy copies)
copy_put_apart copies copy none pairs at =
    subst (AllPairs OneCopy) (sym at.inserted)
    (pairs_insert OneCopy copy_swap copies at.place copy (none_passes (is_copy copy.region copy.page) copies none) pairs)

copy_put_rise : (copies : List Copy) (copy : Copy) → copy_of copies copy.region copy.page ≡ None → CopiesRise copies
    → CopiesRise (in_order copy_before copy copies)
copy_put_rise copies copy none rise =
    ordered_rise copy_before (λ x y z. before_later x.page x.region y.page y.region z.page z.region) copy copies
    (all_map (λ (x : Copy). is_copy copy.region copy.page x ≡ false) (λ x. copy_before x copy ≡ false → copy_before copy x ≡ true) copies
    (λ x other late. before_other x.page x.region copy.page copy.region late other) (none_passes (is_copy copy.region copy.page) copies none)) rise

-- what holds of a copy and of others holds of all of them
all_with_copy : (P : Copy → Type 0) (copies : List Copy) (copy : Copy) → P copy → All P copies → All P (in_order copy_before copy copies)
all_with_copy P copies copy one all =
    All-from_recursion P (in_order copy_before copy copies) (all_ordered copy_before P copy copies one (recursion_from_All P copies all))

pub with_copy_sound : (now : RegionsNow) (copy : Copy) → IsSound now → 0 < (spare now).copies
    → copy_of now.copies copy.region copy.page ≡ None
    → HasPrivatePage now.regions copy.region copy.page → length copy.bytes ≡ now.page → IsSound (with_copy copy now)
with_copy_sound now copy sound room none has whole = record {
  one_region = sound.one_region;
  one_record = sound.one_record;
  one_copy = copy_put_apart now.copies copy none sound.one_copy (in_order_place copy_before copy now.copies);
  regions_rise = sound.regions_rise;
  records_rise = sound.records_rise;
  copies_rise = copy_put_rise now.copies copy none sound.copies_rise;
  page = sound.page;
  records_stand = sound.records_stand;
  copies_stand = all_with_copy (StandsPrivate now.regions) now.copies copy has sound.copies_stand;
  whole = all_with_copy (IsWhole now.page) now.copies copy whole sound.whole;
  few_regions = sound.few_regions;
  few_records = sound.few_records;
  few_copies = let at = in_order_place copy_before copy now.copies in omega (arith, ap length at.inserted, length-insert now.copies at.place copy at.within);
  countable = sound.countable;
}

pub with_copy_room : (now new : RegionsNow) (copy : Copy) → new ≡ with_copy copy now → spare new ≡ one_copy_less (spare now)
with_copy_room now new copy same =
    let at = in_order_place copy_before copy now.copies in
    ap spare same ∙ ap (λ (n : ℕ). record (spare now) { copies = n }) (omega (arith, ap length at.inserted, length-insert now.copies at.place copy at.within))

module _ (id page at : ℕ) (bytes : List ℕ) where
  put_region : (copy : Copy) → (put_at id page at bytes copy).region ≡ copy.region
  put_region copy = grind (arith, common_steps)

  put_page : (copy : Copy) → (put_at id page at bytes copy).page ≡ copy.page
  put_page copy = grind (arith, common_steps)

  put_whole : (size : ℕ) → at + length bytes ≤ size → (copy : Copy) → IsWhole size copy → IsWhole size (put_at id page at bytes copy)
  put_whole size fits copy whole =
      let kept = length-over copy.bytes bytes at (omega arith) in
      grind (arith, common_steps, kept, whole)

  pub with_bytes_sound : (now : RegionsNow) → IsSound now → at + length bytes ≤ now.page
      → IsSound (with_bytes id page at bytes now)
  with_bytes_sound now sound fits = record {
    one_region = sound.one_region;
    one_record = sound.one_record;
    one_copy =
        pairs_map OneCopy (put_at id page at bytes) (λ one other apart. grind (arith, common_steps, apart)) now.copies sound.one_copy;
    regions_rise = sound.regions_rise;
    records_rise = sound.records_rise;
    copies_rise =
        pairs_map (λ one other. copy_before one other ≡ true) (put_at id page at bytes)
        (λ one other rise. rw (put_region one, put_page one, put_region other, put_page other) rise) now.copies sound.copies_rise;
    page = sound.page;
    records_stand = sound.records_stand;
    copies_stand =
        All-mapped (StandsPrivate now.regions) (StandsPrivate now.regions) (put_at id page at bytes) now.copies
        (λ copy has. rw (put_region copy, put_page copy) has) sound.copies_stand;
    whole = All-mapped (IsWhole now.page) (IsWhole now.page) (put_at id page at bytes) now.copies (put_whole now.page fits) sound.whole;
    few_regions = sound.few_regions;
    few_records = sound.few_records;
    few_copies = omega (arith, sound.few_copies, length-map now.copies (put_at id page at bytes));
    countable = sound.countable;
  }

-- the bytes of a copy that was found are a whole page
pub found_whole : (now : RegionsNow) (id page : ℕ) (result : Option (Bor (List ℕ))) → IsSound now
    → option_copied result ≡ bytes_of now.copies id page
    → IfSome result (λ bytes. length bytes.now ≡ now.page)
found_whole now id page None sound e = tt
found_whole now id page (Some bytes) sound e = by_found (copy_of now.copies id page) refl e
  where
    by_found : (o : Option Copy) → copy_of now.copies id page ≡ o → Some bytes.now ≡ option_map (λ copy. copy.bytes) o
        → length bytes.now ≡ now.page
    by_found None found same = absurd (cc)
    by_found (Some copy) found same =
        let own : bytes.now ≡ copy.bytes = cc in
        ap length own ∙ found_has (IsWhole now.page) (is_copy id page) now.copies copy (recursion_from_All (IsWhole now.page) now.copies sound.whole) found

-- ---- by equations

pub sound_by : (now new : RegionsNow) → new ≡ now → IsSound now → IsSound new
sound_by now new same sound = subst IsSound (sym same) sound

pub room_by : (old now new : RegionsNow) → new ≡ now → KeepsRoom old now → KeepsRoom old new
room_by old now new same room = subst (KeepsRoom old) (sym same) room
