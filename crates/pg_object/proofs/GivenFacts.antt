-- What a region is given is what the plain file gives it.
use Rattle.std.proofs.Common.{◌≡◌, ℕ, ◌==◌, Bool, true, false, List, map, Option, Some, None, refl, sym, ap, subst, ◌∙◌, arith, inl, inr}
use Rattle.std.specs.Prelude.{◌&&◌, ◌⊎◌, MatchBool, IsSomeAnd, is_some, unwrap_or, if◌then◌else◌}
use Rattle.std.specs.Option.{option_map}
use Rattle.std.proofs.lemmas.Grind.{common_steps}
use mathlib.Core.Path.{fun_ext}
use Rattle.cs_policy.specs.declared.access.Access.{Access}
use Rattle.cs_policy.specs.declared.access.Access.TheVariants.{Read, Write, Execute}
use Rattle.cs_policy.specs.declared.region.Region.{Region}
use Rattle.cs_policy.specs.declared.region.Record.{Record}
use Rattle.pg_cache.specs.Cache.{KeepsSizes}
use Rattle.pg_pages.specs.Pages.{PagesNow}
use Rattle.pg_regions.specs.Lookups.{record_of, bytes_of, is_shared, IsWriter}
use Rattle.pg_regions.specs.RegionsNow.{RegionsNow, Room, spare, IsSound}
use Rattle.pg_regions.specs.Steps.{blank, given, spare_granted, one_record_less}
use Rattle.pg_plain.specs.PlainFile.{Resident, PlainFile, page_of}
use Rattle.pg_plain.specs.Given.{put_at, granted, stripped, copied, written_to, unexecuted}
use Rattle.pg_object.specs.Object.{ObjectNow, resident_of, seen}
use Rattle.pg_object.specs.Acts.{LeavesRoom, room_of_access, nothing_back, GainsRoom}
use Rattle.pg_object.specs.Enters.{Grants, StripsPage, Copies, WritesTo, GivesTo}
use Rattle.pg_object.proofs.RoomFacts.{gains_spare, gains_record, gains_both}
use Rattle.pg_object.proofs.AfterFacts.{with_parts}

-- the object with other pages and regions, as a plain file
pub seen_parts : (old : ObjectNow) (pages : PagesNow) (regions : RegionsNow) (content : List (List ℕ)) (records : ℕ → ℕ → Option Record) (copies : ℕ → ℕ → Option (List ℕ)) (residents : List Resident)
    → KeepsSizes old.pages.cache pages.cache → regions.regions ≡ old.regions.regions → record_of regions.records ≡ records → bytes_of regions.copies ≡ copies → map resident_of pages.cache.held ≡ residents
    → seen (with_parts old pages regions) content ≡ record (seen old content) { records = records; copies = copies; residents = residents }
seen_parts old pages regions content records copies residents sizes stand same_records same_copies list =
    ap (λ n. record (seen (with_parts old pages regions) content) { page_size = n }) sizes.page_size
    ∙ ap (λ n. record (seen (with_parts old pages regions) content) { page_size = old.pages.cache.pager.page_size; limit = n }) sizes.limit
    ∙ ap (λ rs. record (seen old content) { regions = rs; records = record_of regions.records; copies = bytes_of regions.copies; residents = map resident_of pages.cache.held }) stand
    ∙ ap (λ rs. record (seen old content) { records = rs; copies = bytes_of regions.copies; residents = map resident_of pages.cache.held }) same_records
    ∙ ap (λ cs. record (seen old content) { records = records; copies = cs; residents = map resident_of pages.cache.held }) same_copies
    ∙ ap (λ rs. record (seen old content) { records = records; copies = copies; residents = rs }) list

-- what a file gives once the page is at hand
abbrev pub given_from : Region → ℕ → Access → Bool → PlainFile → PlainFile
given_from region page Read guarded file = granted region page Read guarded file
given_from region page Write guarded file = written_to region page (granted region page Write guarded file)
given_from region page Execute guarded file = granted region page Execute guarded file

module _ (file : PlainFile) (old : RegionsNow) (region : Region) (page : ℕ) (guarded : Bool) (same_records : record_of old.records ≡ file.records) (same_copies : bytes_of old.copies ≡ file.copies) where
  granted_records : (new : RegionsNow) (access : Access) → Grants old region page access guarded new
      → record_of new.records ≡ put_at region.id page (given access guarded (unwrap_or (file.records region.id page) (blank region.id page))) file.records
  granted_records new access grants =
      fun_ext (λ i. fun_ext (λ p. grants.records i p))
      ∙ ap (λ (f : ℕ → ℕ → Option Record). put_at region.id page (given access guarded (unwrap_or (f region.id page) (blank region.id page))) f) same_records

  granted_copies : (new : RegionsNow) (access : Access) → Grants old region page access guarded new → bytes_of new.copies ≡ file.copies
  granted_copies new access grants = ap (λ (now : RegionsNow). bytes_of now.copies) grants.others ∙ same_copies

  granted_plain : (new : RegionsNow) (access : Access) → Grants old region page access guarded new
      → record file { records = record_of new.records; copies = bytes_of new.copies } ≡ granted region page access guarded file
  granted_plain new access grants =
      ap (λ rs. record file { records = rs; copies = bytes_of new.copies }) (granted_records new access grants)
      ∙ ap (λ cs. record file { records = put_at region.id page (given access guarded (unwrap_or (file.records region.id page) (blank region.id page))) file.records; copies = cs }) (granted_copies new access grants)

  written_plain : (mid new : RegionsNow) (bytes : List ℕ) → (is_some (file.copies region.id page) ≡ false → bytes ≡ page_of file page) → Grants old region page Write guarded mid → WritesTo mid region page bytes new
      → record file { records = record_of new.records; copies = bytes_of new.copies } ≡ written_to region page (granted region page Write guarded file)
  written_plain mid new bytes own grants writes = by_shared region.shared refl writes
    where
      by_copy : (b : Bool) → is_some (file.copies region.id page) ≡ b → Copies mid region page bytes new
          → record file { records = record_of new.records; copies = bytes_of new.copies }
          ≡ (if b then granted region page Write guarded file else record (granted region page Write guarded file) { copies = put_at region.id page (page_of file page) file.copies })
      by_copy b e copies =
          let test : is_some (bytes_of mid.copies region.id page) ≡ b = ap (λ (f : ℕ → ℕ → Option (List ℕ)). is_some (f region.id page)) (granted_copies mid Write grants) ∙ e in
          let records = ap (λ (now : RegionsNow). record_of now.records) copies.others ∙ granted_records mid Write grants in
          let now : bytes_of new.copies ≡ (λ i p. if b then file.copies i p else put_at region.id page (page_of file page) file.copies i p) =
          fun_ext (λ i. fun_ext (λ p. copies.copies i p
          ∙ ap (λ c. if c then bytes_of mid.copies i p else put_at region.id page bytes (bytes_of mid.copies) i p) test
          ∙ ap (λ (f : ℕ → ℕ → Option (List ℕ)). if b then f i p else put_at region.id page bytes f i p) (granted_copies mid Write grants)
          ∙ swap b e i p)) in
          ap (λ rs. record file { records = rs; copies = bytes_of new.copies }) records
          ∙ ap (λ cs. record (granted region page Write guarded file) { copies = cs }) now
          ∙ by_bool b
        where
          swap : (b : Bool) → is_some (file.copies region.id page) ≡ b → (i p : ℕ) → (if b then file.copies i p else put_at region.id page bytes file.copies i p) ≡ (if b then file.copies i p else put_at region.id page (page_of file page) file.copies i p)
          swap true e i p = refl
          swap false e i p = ap (λ x. put_at region.id page x file.copies i p) (own e)

          by_bool : (b : Bool) → record (granted region page Write guarded file) { copies = λ i p. if b then file.copies i p else put_at region.id page (page_of file page) file.copies i p }
              ≡ (if b then granted region page Write guarded file else record (granted region page Write guarded file) { copies = put_at region.id page (page_of file page) file.copies })
          by_bool true = refl
          by_bool false = refl

      by_shared : (b : Bool) → region.shared ≡ b → MatchBool b (StripsPage mid page new) (Copies mid region page bytes new)
          → record file { records = record_of new.records; copies = bytes_of new.copies }
          ≡ (if region.shared then stripped page (granted region page Write guarded file) else copied region page (granted region page Write guarded file))
      by_shared true e strips =
          let copies = ap (λ (now : RegionsNow). bytes_of now.copies) strips.others ∙ granted_copies mid Write grants in
          let records : record_of new.records ≡ (stripped page (granted region page Write guarded file)).records =
          fun_ext (λ i. fun_ext (λ p. strips.records i p ∙ ap (λ (f : ℕ → ℕ → Option Record). if p == page then option_map unexecuted (f i p) else f i p) (granted_records mid Write grants))) in
          ap (λ rs. record file { records = rs; copies = bytes_of new.copies }) records
          ∙ ap (λ cs. record file { records = (stripped page (granted region page Write guarded file)).records; copies = cs }) copies
          ∙ ap (λ b. if b then stripped page (granted region page Write guarded file) else copied region page (granted region page Write guarded file)) (sym e)
      by_shared false e copies =
          by_copy (is_some (file.copies region.id page)) refl copies
          ∙ ap (λ b. if b then stripped page (granted region page Write guarded file) else copied region page (granted region page Write guarded file)) (sym e)

  pub gives_plain : (new : RegionsNow) (access : Access) (bytes : List ℕ) → (access ≡ Write → is_some (file.copies region.id page) ≡ false → bytes ≡ page_of file page) → GivesTo old region page access guarded bytes new
      → record file { records = record_of new.records; copies = bytes_of new.copies } ≡ given_from region page access guarded file
  gives_plain new Read bytes own gives = granted_plain new Read gives
  gives_plain new Execute bytes own gives = granted_plain new Execute gives
  gives_plain new Write bytes own gives = written_plain gives.0 new bytes (own refl) gives.1.0 gives.1.1

-- ---- what stays

pub gives_regions : (old : RegionsNow) (region : Region) (page : ℕ) (access : Access) (guarded : Bool) (bytes : List ℕ) (new : RegionsNow) → GivesTo old region page access guarded bytes new
    → (new.regions ≡ old.regions) × (new.page ≡ old.page)
gives_regions old region page Read guarded bytes new gives = (ap (λ (now : RegionsNow). now.regions) gives.others, ap (λ (now : RegionsNow). now.page) gives.others)
gives_regions old region page Execute guarded bytes new gives = (ap (λ (now : RegionsNow). now.regions) gives.others, ap (λ (now : RegionsNow). now.page) gives.others)
gives_regions old region page Write guarded bytes new gives =
    let first = gives.1.0.others in
    let second = by_shared region.shared gives.1.1 in
    (second.0 ∙ ap (λ (now : RegionsNow). now.regions) first, second.1 ∙ ap (λ (now : RegionsNow). now.page) first)
  where
    by_shared : (b : Bool) → MatchBool b (StripsPage gives.0 page new) (Copies gives.0 region page bytes new) → (new.regions ≡ gives.0.regions) × (new.page ≡ gives.0.page)
    by_shared true strips = (ap (λ (now : RegionsNow). now.regions) strips.others, ap (λ (now : RegionsNow). now.page) strips.others)
    by_shared false copies = (ap (λ (now : RegionsNow). now.regions) copies.others, ap (λ (now : RegionsNow). now.page) copies.others)

pub gives_sound : (old : RegionsNow) (region : Region) (page : ℕ) (access : Access) (guarded : Bool) (bytes : List ℕ) (new : RegionsNow) → GivesTo old region page access guarded bytes new → IsSound new
gives_sound old region page Read guarded bytes new gives = gives.sound
gives_sound old region page Execute guarded bytes new gives = gives.sound
gives_sound old region page Write guarded bytes new gives = by_shared region.shared gives.1.1
  where
    by_shared : (b : Bool) → MatchBool b (StripsPage gives.0 page new) (Copies gives.0 region page bytes new) → IsSound new
    by_shared true strips = strips.sound
    by_shared false copies = copies.sound

one_record : (old : RegionsNow) (id page : ℕ) (new : RegionsNow) → spare new ≡ spare_granted id page old → LeavesRoom (record { regions = 0; records = 1; copies = 0 }) old new
one_record old id page new same = by_there (is_some (record_of old.records id page)) same
  where
    by_there : (b : Bool) → spare new ≡ (if b then spare old else one_record_less (spare old)) → LeavesRoom (record { regions = 0; records = 1; copies = 0 }) old new
    by_there true e = record {
      regions = let now = ap (λ (room : Room). room.regions) e in omega arith;
      records = let now = ap (λ (room : Room). room.records) e in omega arith;
      copies = let now = ap (λ (room : Room). room.copies) e in omega arith;
    }
    by_there false e = record {
      regions = let now = ap (λ (room : Room). room.regions) e in omega arith;
      records = let now = ap (λ (room : Room). room.records) e in omega arith;
      copies = let now = ap (λ (room : Room). room.copies) e in omega arith;
    }

pub gives_room : (old : RegionsNow) (region : Region) (page : ℕ) (access : Access) (guarded : Bool) (bytes : List ℕ) (new : RegionsNow) → GivesTo old region page access guarded bytes new → LeavesRoom (room_of_access access) old new
gives_room old region page Read guarded bytes new gives = one_record old region.id page new gives.room
gives_room old region page Execute guarded bytes new gives = one_record old region.id page new gives.room
gives_room old region page Write guarded bytes new gives = by_shared region.shared gives.1.1 (one_record old region.id page gives.0 gives.1.0.room)
  where
    by_shared : (b : Bool) → MatchBool b (StripsPage gives.0 page new) (Copies gives.0 region page bytes new) → LeavesRoom (record { regions = 0; records = 1; copies = 0 }) old gives.0
        → LeavesRoom (record { regions = 0; records = 1; copies = 1 }) old new
    by_shared true strips first = record {
      regions = let now = ap (λ (room : Room). room.regions) strips.room in let one = first.regions in omega arith;
      records = let now = ap (λ (room : Room). room.records) strips.room in let one = first.records in omega arith;
      copies = let now = ap (λ (room : Room). room.copies) strips.room in let one = first.copies in omega arith;
    }
    by_shared false copies first = record {
      regions = let now = copies.room.regions in let one = first.regions in omega arith;
      records = let now = copies.room.records in let one = first.records in omega arith;
      copies = let now = copies.room.copies in let one = first.copies in omega arith;
    }

pub gives_gains : (old : RegionsNow) (region : Region) (page : ℕ) (access : Access) (guarded : Bool) (bytes : List ℕ) (new : RegionsNow) → GivesTo old region page access guarded bytes new → GainsRoom nothing_back old new
gives_gains old region page Read guarded bytes new gives = gains_record old region.id page new gives.room (ap (λ (now : RegionsNow). now.room) gives.others)
gives_gains old region page Execute guarded bytes new gives = gains_record old region.id page new gives.room (ap (λ (now : RegionsNow). now.room) gives.others)
gives_gains old region page Write guarded bytes new gives =
    gains_both old gives.0 new (gains_record old region.id page gives.0 gives.1.0.room (ap (λ (now : RegionsNow). now.room) gives.1.0.others)) (by_shared region.shared gives.1.1)
  where
    by_shared : (b : Bool) → MatchBool b (StripsPage gives.0 page new) (Copies gives.0 region page bytes new) → GainsRoom nothing_back gives.0 new
    by_shared true strips = gains_spare nothing_back gives.0 new strips.room (ap (λ (now : RegionsNow). now.room) strips.others)
    by_shared false copies = copies.gains

-- ---- a writer that comes is the region, where it is shared and writes the page

abbrev Writes : Option Record → Type 0
Writes o = IsSomeAnd o (λ (r : Record). r.write ≡ true)

abbrev pub Comes : Region → ℕ → Access → ℕ → ℕ → Type 0
Comes region page access q id = (q ≡ page) × ((access ≡ Write) × (id ≡ region.id))

granted_writer : (access : Access) (guarded : Bool) (id page : ℕ) (o : Option Record) → Writes (Some (given access guarded (unwrap_or o (blank id page)))) → (access ≡ Write) ⊎ Writes o
granted_writer Write guarded id page o there = inl refl
granted_writer Read guarded id page None there = absurd (grind (arith, common_steps, there))
granted_writer Read guarded id page (Some r) there = inr there
granted_writer Execute guarded id page None there = absurd (grind (arith, common_steps, there))
granted_writer Execute guarded id page (Some r) there = inr there

granted_comes : (old : RegionsNow) (region : Region) (page : ℕ) (access : Access) (guarded : Bool) (new : RegionsNow) → Grants old region page access guarded new → (q id : ℕ) → Writes (record_of new.records id q)
    → Writes (record_of old.records id q) ⊎ Comes region page access q id
granted_comes old region page access guarded new grants q id there = by_test (id == region.id && q == page) refl (subst Writes (grants.records id q) there)
  where
    by_test : (b : Bool) → (id == region.id && q == page) ≡ b
        → Writes (if id == region.id && q == page then Some (given access guarded (unwrap_or (record_of old.records region.id page) (blank region.id page))) else record_of old.records id q)
        → Writes (record_of old.records id q) ⊎ Comes region page access q id
    by_test false e w = inl (subst (λ b. Writes (if b then Some (given access guarded (unwrap_or (record_of old.records region.id page) (blank region.id page))) else record_of old.records id q)) e w)
    by_test true e w =
        let own : id ≡ region.id = grind (arith, common_steps, e) in
        let number : q ≡ page = grind (arith, common_steps, e) in
        by_access (granted_writer access guarded region.id page (record_of old.records region.id page)
        (subst (λ b. Writes (if b then Some (given access guarded (unwrap_or (record_of old.records region.id page) (blank region.id page))) else record_of old.records id q)) e w)) own number
      where
        by_access : (access ≡ Write) ⊎ Writes (record_of old.records region.id page) → id ≡ region.id → q ≡ page → Writes (record_of old.records id q) ⊎ Comes region page access q id
        by_access (inl write) own number = inr (number, (write, own))
        by_access (inr was) own number = inl (subst (λ i. Writes (record_of old.records i q)) (sym own) (subst (λ p. Writes (record_of old.records region.id p)) (sym number) was))

pub gives_writers : (old : RegionsNow) (region : Region) (page : ℕ) (access : Access) (guarded : Bool) (bytes : List ℕ) (new : RegionsNow) → GivesTo old region page access guarded bytes new
    → (q id : ℕ) → IsWriter new.regions new.records q id → IsWriter old.regions old.records q id ⊎ Comes region page access q id
gives_writers old region page access guarded bytes new gives q id writer = by_either (writes access gives)
  where
    same : new.regions ≡ old.regions
    same = (gives_regions old region page access guarded bytes new gives).0

    by_either : Writes (record_of old.records id q) ⊎ Comes region page access q id → IsWriter old.regions old.records q id ⊎ Comes region page access q id
    by_either (inl was) = inl (record { shared = ap (λ rs. is_shared rs id) (sym (gives_regions old region page access guarded bytes new gives).0) ∙ writer.shared; writes = was })
    by_either (inr comes) = inr comes

    back : (mid : RegionsNow) (b : Bool) → MatchBool b (StripsPage mid page new) (Copies mid region page bytes new) → Writes (record_of mid.records id q)
    back mid true strips = by_test (q == page) (record_of mid.records id q) (subst Writes (strips.records id q) writer.writes)
      where
        by_test : (b : Bool) (o : Option Record) → Writes (if b then option_map unexecuted o else o) → Writes o
        by_test false o w = w
        by_test true None w = absurd w
        by_test true (Some r) w = w
    back mid false copies = subst (λ (now : RegionsNow). Writes (record_of now.records id q)) copies.others writer.writes

    writes : (a : Access) → GivesTo old region page a guarded bytes new → Writes (record_of old.records id q) ⊎ Comes region page a q id
    writes Read g = granted_comes old region page Read guarded new g q id writer.writes
    writes Execute g = granted_comes old region page Execute guarded new g q id writer.writes
    writes Write g = granted_comes old region page Write guarded g.0 g.1.0 q id (back g.0 region.shared g.1.1)
