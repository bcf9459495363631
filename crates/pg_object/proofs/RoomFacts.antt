-- Room that no call gains but where it is given back.
use Rattle.std.proofs.Common.{◌≡◌, ℕ, ◌-◌, ◌≤◌, Bool, true, false, Option, Some, None, refl, sym, ap, subst, ◌∙◌, arith}
use Rattle.std.specs.Prelude.{is_some, if◌then◌else◌}
use Rattle.std.proofs.lemmas.Bool.{false≢true}
use Rattle.pg_regions.specs.Lookups.{record_of}
use Rattle.pg_regions.specs.RegionsNow.{RegionsNow, Room, spare}
use Rattle.pg_regions.specs.Steps.{one_region_less, one_record_less, one_copy_less, spare_granted}
use Rattle.pg_object.specs.Acts.{GivenBack, nothing_back, all_back, leaving_back, GainsRoom}

no_more : (n m : ℕ) → n ≡ m → n ≤ m
no_more n m e = omega arith

-- as much is left as was
pub gains_same : (back : GivenBack) (now : RegionsNow) → GainsRoom back now now
gains_same back now = record { room = refl; regions = λ none. omega arith; records = λ none. omega arith; copies = λ none. omega arith }

pub gains_spare : (back : GivenBack) (old new : RegionsNow) → spare new ≡ spare old → new.room ≡ old.room → GainsRoom back old new
gains_spare back old new same room = record {
  room = room;
  regions = λ none. no_more (spare new).regions (spare old).regions (ap (λ (left : Room). left.regions) same);
  records = λ none. no_more (spare new).records (spare old).records (ap (λ (left : Room). left.records) same);
  copies = λ none. no_more (spare new).copies (spare old).copies (ap (λ (left : Room). left.copies) same);
}

-- all kinds of room are given back
pub gains_all : (old new : RegionsNow) → new.room ≡ old.room → GainsRoom all_back old new
gains_all old new room = record {
  room = room;
  regions = λ wrong. absurd (false≢true (sym wrong));
  records = λ wrong. absurd (false≢true (sym wrong));
  copies = λ wrong. absurd (false≢true (sym wrong));
}

-- one region more, one record more, one copy more
less : (n m : ℕ) → n ≡ m - 1 → n ≤ m
less n m e = omega arith

pub gains_region : (back : GivenBack) (old new : RegionsNow) → spare new ≡ one_region_less (spare old) → new.room ≡ old.room → GainsRoom back old new
gains_region back old new one room = record {
  room = room;
  regions = λ none. less (spare new).regions (spare old).regions (ap (λ (left : Room). left.regions) one);
  records = λ none. no_more (spare new).records (spare old).records (ap (λ (left : Room). left.records) one);
  copies = λ none. no_more (spare new).copies (spare old).copies (ap (λ (left : Room). left.copies) one);
}

pub gains_record : (old : RegionsNow) (id page : ℕ) (new : RegionsNow) → spare new ≡ spare_granted id page old → new.room ≡ old.room → GainsRoom nothing_back old new
gains_record old id page new granted room = by_there (is_some (record_of old.records id page)) granted
  where
    by_there : (b : Bool) → spare new ≡ (if b then spare old else one_record_less (spare old)) → GainsRoom nothing_back old new
    by_there true same = gains_spare nothing_back old new same room
    by_there false one = record {
      room = room;
      regions = λ none. no_more (spare new).regions (spare old).regions (ap (λ (left : Room). left.regions) one);
      records = λ none. less (spare new).records (spare old).records (ap (λ (left : Room). left.records) one);
      copies = λ none. no_more (spare new).copies (spare old).copies (ap (λ (left : Room). left.copies) one);
    }

pub gains_copy : (old new : RegionsNow) → spare new ≡ one_copy_less (spare old) → new.room ≡ old.room → GainsRoom nothing_back old new
gains_copy old new one room = record {
  room = room;
  regions = λ none. no_more (spare new).regions (spare old).regions (ap (λ (left : Room). left.regions) one);
  records = λ none. no_more (spare new).records (spare old).records (ap (λ (left : Room). left.records) one);
  copies = λ none. less (spare new).copies (spare old).copies (ap (λ (left : Room). left.copies) one);
}

at_most : (n m k : ℕ) → n ≤ m → m ≤ k → n ≤ k
at_most n m k one two = omega arith

-- two changes, one after another
pub gains_both : (old mid new : RegionsNow) → GainsRoom nothing_back old mid → GainsRoom nothing_back mid new → GainsRoom nothing_back old new
gains_both old mid new one two = record {
  room = two.room ∙ one.room;
  regions = λ none. at_most (spare new).regions (spare mid).regions (spare old).regions (two.regions refl) (one.regions refl);
  records = λ none. at_most (spare new).records (spare mid).records (spare old).records (two.records refl) (one.records refl);
  copies = λ none. at_most (spare new).copies (spare mid).copies (spare old).copies (two.copies refl) (one.copies refl);
}

-- where records alone changed, and their room is given back
pub gains_records : (back : GivenBack) (old new : RegionsNow) → back ≡ record { regions = false; records = true; copies = false } → new ≡ record old { records = new.records } → GainsRoom back old new
gains_records back old new gone others = record {
  room = ap (λ (now : RegionsNow). now.room) others;
  regions = λ none. no_more (spare new).regions (spare old).regions (ap (λ (now : RegionsNow). (spare now).regions) others);
  records = λ wrong. absurd (false≢true (sym wrong ∙ ap (λ (b : GivenBack). b.records) gone));
  copies = λ none. no_more (spare new).copies (spare old).copies (ap (λ (now : RegionsNow). (spare now).copies) others);
}

-- a page left, if one did, and then what the region was given
pub gains_given : (left : Option ℕ) (old mid new : RegionsNow) → (left ≡ None → mid ≡ old) → mid ≡ record old { records = mid.records } → GainsRoom nothing_back mid new → GainsRoom (leaving_back left) old new
gains_given None old mid new same others given = subst (λ (r : RegionsNow). GainsRoom nothing_back r new) (same refl) given
gains_given (Some page) old mid new same others given = record {
  room = given.room ∙ ap (λ (now : RegionsNow). now.room) others;
  regions = λ none. at_most (spare new).regions (spare mid).regions (spare old).regions (given.regions refl)
      (no_more (spare mid).regions (spare old).regions (ap (λ (now : RegionsNow). (spare now).regions) others));
  records = λ wrong. absurd (false≢true (sym wrong));
  copies = λ none. at_most (spare new).copies (spare mid).copies (spare old).copies (given.copies refl)
      (no_more (spare mid).copies (spare old).copies (ap (λ (now : RegionsNow). (spare now).copies) others));
}
