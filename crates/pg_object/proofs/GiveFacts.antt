-- What a region is given of a page, by the calls on the regions.
use Rattle.std.proofs.Common.{◌≡◌, ℕ, ◌==◌, Bool, true, false, List, Option, Some, None, refl, sym, ap, subst, ◌∙◌, arith, inl, inr}
use Rattle.std.specs.Prelude.{◌&&◌, IsTrue, IfSome, IfNone, IsSome, IsSomeAnd, is_some, if◌then◌else◌}
use Rattle.std.specs.Option.{option_map, option_copied}
use Rattle.std.specs.Borrow.{Bor}
use Rattle.std.proofs.lemmas.Grind.{common_steps}
use Rattle.cs_policy.specs.declared.access.Access.{Access}
use Rattle.cs_policy.specs.declared.region.Region.{Region}
use Rattle.pg_cache.specs.Held.{Held}
use Rattle.pg_cache.specs.Cache.{CacheNow, resident_page, at_hand}
use Rattle.pg_cache.proofs.GiveFacts.{hand_resident}
use Rattle.pg_plain.specs.PlainFile.{having}
use Rattle.pg_regions.specs.Lookups.{region_of, has_page, HasPage, HasPrivatePage, Copy, record_of, copy_of, bytes_of}
use Rattle.pg_regions.specs.RegionsNow.{RegionsNow, Room, spare, IsSound}
use Rattle.pg_regions.specs.Steps.{ChangesRecord, ChangesCopy, one_copy_less, granted, private_copy, spare_granted, stripped, FindsStripped, with_copy}
use Rattle.pg_plain.specs.Given.{put_at}
use Rattle.pg_object.specs.Enters.{IsAtHand, Grants, StripsPage, Copies}
use Rattle.pg_object.specs.Acts.{nothing_back}
use Rattle.pg_object.proofs.RoomFacts.{gains_same, gains_copy}
use Rattle.pg_object.proofs.StripFacts.{found_stripped}

-- a function of region and page that was changed at one of them
put_is : {X : Type 0} (id page : ℕ) (x : X) (f : ℕ → ℕ → Option X) (i p : ℕ) (o : Option X) → ((i == id && p == page) ≡ true → o ≡ Some x) → ((i == id && p == page) ≡ false → o ≡ f i p) → o ≡ put_at id page x f i p
put_is id page x f i p o here away = by_test (i == id && p == page) refl
  where
    by_test : (b : Bool) → (i == id && p == page) ≡ b → o ≡ (if i == id && p == page then Some x else f i p)
    by_test true e = here e ∙ ap (λ b. if b then Some x else f i p) (sym e)
    by_test false e = away e ∙ ap (λ b. if b then Some x else f i p) (sym e)

both_numbers : (i id p page : ℕ) → (i == id && p == page) ≡ true → (i ≡ id) × (p ≡ page)
both_numbers i id p page e = (grind (arith, common_steps, e), grind (arith, common_steps, e))

pub grants : (old new : RegionsNow) (region : Region) (page : ℕ) (access : Access) (guarded : Bool) → new ≡ record old { records = new.records }
    → ChangesRecord old new region.id page (Some (granted region.id page access guarded old)) → spare new ≡ spare_granted region.id page old → IsSound new → Grants old region page access guarded new
grants old new region page access guarded others found room sound = record {
  records = λ i p. put_is region.id page (granted region.id page access guarded old) (record_of old.records) i p (record_of new.records i p)
      (λ e. let same = both_numbers i region.id p page e in ap (λ j. record_of new.records j p) same.0 ∙ ap (record_of new.records region.id) same.1 ∙ found.here) (found.others i p);
  others = others;
  room = room;
  sound = sound;
}

pub strips_page : (old new : RegionsNow) (page : ℕ) → new ≡ stripped page old → FindsStripped old new page → spare new ≡ spare old → IsSound new → StripsPage old page new
strips_page old new page after found room sound = record {
  records = found_stripped old new page found;
  others = after ∙ ap (λ (now : RegionsNow). record old { records = now.records }) (sym after);
  room = room;
  sound = sound;
}

pub copies : (old new : RegionsNow) (region : Region) (page : ℕ) (bytes : List ℕ) → copy_of old.copies region.id page ≡ None → new ≡ with_copy (private_copy region.id page bytes) old
    → ChangesCopy old new region.id page (Some (private_copy region.id page bytes)) → spare new ≡ one_copy_less (spare old) → IsSound new → Copies old region page bytes new
copies old new region page bytes absent after found room sound = record {
  copies = λ i p.
      put_is region.id page bytes (bytes_of old.copies) i p (bytes_of new.copies i p)
      (λ e. let same = both_numbers i region.id p page e in ap (λ j. bytes_of new.copies j p) same.0 ∙ ap (bytes_of new.copies region.id) same.1 ∙ ap (option_map (λ (copy : Copy). copy.bytes)) found.here)
      (λ e. ap (option_map (λ (copy : Copy). copy.bytes)) (found.others i p e))
      ∙ sym (ap (λ b. if b then bytes_of old.copies i p else put_at region.id page bytes (bytes_of old.copies) i p) none);
  others = after ∙ ap (λ (now : RegionsNow). record old { copies = now.copies }) (sym after);
  room = record {
    regions = let now = ap (λ (room : Room). room.regions) room in omega arith;
    records = let now = ap (λ (room : Room). room.records) room in omega arith;
    copies = let now = ap (λ (room : Room). room.copies) room in omega arith;
  };
  gains = gains_copy old new room (ap (λ (now : RegionsNow). now.room) after);
  sound = sound;
}
  where
    none : is_some (bytes_of old.copies region.id page) ≡ false
    none = ap (λ o. is_some (option_map (λ (copy : Copy). copy.bytes) o)) absent

pub copies_already : (old : RegionsNow) (region : Region) (page : ℕ) (bytes : List ℕ) → is_some (bytes_of old.copies region.id page) ≡ true → IsSound old → Copies old region page bytes old
copies_already old region page bytes there sound = record {
  copies = λ i p. sym (ap (λ b. if b then bytes_of old.copies i p else put_at region.id page bytes (bytes_of old.copies) i p) there);
  others = refl;
  room = record { regions = omega arith; records = omega arith; copies = omega arith };
  gains = gains_same nothing_back old;
  sound = sound;
}

-- ---- a page that is at hand for a region

pub at_hand_shared : (cache : CacheNow) (regions : RegionsNow) (region : Region) (page : ℕ) → IsAtHand cache regions region page → region.shared ≡ true → IsSome (resident_page cache page)
at_hand_shared cache regions region page (inl private) shared = absurd (let no = private.0 in grind (arith, common_steps, no, shared))
at_hand_shared cache regions region page (inr resident) shared = resident

pub at_hand_uncopied : (cache : CacheNow) (regions : RegionsNow) (region : Region) (page : ℕ) → IsAtHand cache regions region page → copy_of regions.copies region.id page ≡ None → IsSome (resident_page cache page)
at_hand_uncopied cache regions region page (inl private) none = absurd (let there = sym (ap is_some none) ∙ private.1 in grind (arith, common_steps, there))
at_hand_uncopied cache regions region page (inr resident) none = resident

pub hand_some : (cache : CacheNow) (page : ℕ) → IsSome (resident_page cache page) → IsSome (at_hand cache page)
hand_some cache page there = by_held (resident_page cache page) refl there
  where
    by_held : (o : Option Held) → resident_page cache page ≡ o → IsSome o → IsSome (at_hand cache page)
    by_held None e there = absurd (grind (arith, common_steps, there))
    by_held (Some h) e there = ap is_some (hand_resident cache page h e)

-- the bytes of a resident page are those that are lent
pub same_lent : (cache : CacheNow) (page : ℕ) (bytes lent : List ℕ) → IsSome (resident_page cache page) → IfSome (resident_page cache page) (λ held. bytes ≡ held.bytes)
    → option_map (λ (held : Held). held.bytes) (at_hand cache page) ≡ Some lent → bytes ≡ lent
same_lent cache page bytes lent there own is = by_held (resident_page cache page) refl there own
  where
    by_held : (o : Option Held) → resident_page cache page ≡ o → IsSome o → IfSome o (λ held. bytes ≡ held.bytes) → bytes ≡ lent
    by_held None e there own = absurd (grind (arith, common_steps, there))
    by_held (Some h) e there own =
        let some : Some h.bytes ≡ Some lent = sym (ap (option_map (λ (held : Held). held.bytes)) (hand_resident cache page h e)) ∙ is in
        let same : h.bytes ≡ lent = cc in
        own ∙ same

pub has_of : (page : ℕ) (found : Option Region) (region : Region) → having page found ≡ Some region → (found ≡ Some region) × IsTrue (has_page page region)
has_of page None region e = absurd (cc)
has_of page (Some r) region e = by_test (has_page page r) refl
  where
    by_test : (b : Bool) → has_page page r ≡ b → (Some r ≡ Some region) × IsTrue (has_page page region)
    by_test true f =
        let some : Some r ≡ Some region = sym (ap (λ c. if c then Some r else None) f) ∙ e in
        let same : r ≡ region = cc in
        (some, subst (λ (x : Region). IsTrue (has_page page x)) same (grind (arith, common_steps, f)))
    by_test false f =
        let none : None ≡ Some region = sym (ap (λ c. if c then Some r else None) f) ∙ e in
        absurd (cc)

pub private_page : (regions : List Region) (region : Region) (page : ℕ) → having page (region_of regions region.id) ≡ Some region → region.shared ≡ false → HasPrivatePage regions region.id page
private_page regions region page stands private =
    let has = has_of page (region_of regions region.id) region stands in
    subst (λ (o : Option Region). IsSomeAnd o (λ r. IsTrue (has_page page r) × (r.shared ≡ false))) (sym has.0) (has.1, private)

pub own_page : (regions : List Region) (region : Region) (page : ℕ) → having page (region_of regions region.id) ≡ Some region → HasPage regions region.id page
own_page regions region page stands =
    let has = has_of page (region_of regions region.id) region stands in
    subst (λ (o : Option Region). IsSomeAnd o (λ r. IsTrue (has_page page r))) (sym has.0) has.1

pub no_copy : (regions : RegionsNow) (id page : ℕ) (found : Option (Bor (List ℕ))) → is_some found ≡ false → IfNone found (copy_of regions.copies id page ≡ None) → copy_of regions.copies id page ≡ None
no_copy regions id page None e none = none
no_copy regions id page (Some x) e none = absurd (grind (arith, common_steps, e))

pub some_bytes : (regions : RegionsNow) (id page : ℕ) (found : Option (Bor (List ℕ))) → is_some found ≡ true → option_copied found ≡ bytes_of regions.copies id page → is_some (bytes_of regions.copies id page) ≡ true
some_bytes regions id page None e is = absurd (grind (arith, common_steps, e))
some_bytes regions id page (Some x) e is = ap is_some (sym is)
