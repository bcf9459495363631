-- Pages of regions that stand, when a region comes and when regions go.
use Rattle.std.proofs.Common.{◌≡◌, ℕ, ◌==◌, List, filter, Bool, true, false, not, Some, None, refl, ap, sym, subst, ◌∙◌, arith}
use Rattle.std.specs.Prelude.{All, IsSomeAnd, IsTrue, if◌then◌else◌}
use Rattle.std.proofs.lemmas.Grind.{common_steps}
use Rattle.std.proofs.lemmas.List.Elements.{All-weaker}
use Rattle.cs_policy.specs.declared.region.Region.{Region}
use Rattle.cs_policy.specs.declared.region.Record.{Record}
use Rattle.pg_bytes.specs.Order.{in_order}
use Rattle.pg_regions.specs.Lookups.{Copy, region_before, region_of, has_page, HasPage, HasPrivatePage}
use Rattle.pg_regions.proofs.ListFacts.{All-filtered}
use Rattle.pg_regions.proofs.FoundFacts.{region_of-ordered}

-- the record is of a page of a region that stands
abbrev pub Stands : List Region → Record → Type 0
Stands regions r = HasPage regions r.region r.page

-- the copy is of a page of a private region that stands
abbrev pub StandsPrivate : List Region → Copy → Type 0
StandsPrivate regions copy = HasPrivatePage regions copy.region copy.page

-- what is said of the region of a page, for records and for copies
abbrev pub Page : ℕ → Region → Type 0
Page page region = IsTrue (has_page page region)

abbrev pub PrivatePage : ℕ → Region → Type 0
PrivatePage page region = IsTrue (has_page page region) × (region.shared ≡ false)

-- ---- a region that is found is not one that is not

pub other_number : (P : Region → Type 0) (regions : List Region) (id i : ℕ) → region_of regions id ≡ None
    → IsSomeAnd (region_of regions i) P → (i == id) ≡ false
other_number P regions id i none has = by_number (i == id) refl
  where
    by_number : (b : Bool) → (i == id) ≡ b → (i == id) ≡ false
    by_number true e =
        let same : i ≡ id = grind (arith, common_steps, e) in
        let absent : region_of regions i ≡ None = rw same none in
        absurd (subst (λ o. IsSomeAnd o P) absent has)
    by_number false e = e

-- ---- what is found as before is said of as before

pub found_again : (P : Region → Type 0) (old new : List Region) (i : ℕ) → region_of new i ≡ region_of old i
    → IsSomeAnd (region_of old i) P → IsSomeAnd (region_of new i) P
found_again P old new i same has = subst (λ o. IsSomeAnd o P) (sym same) has

found_pushed : (P : Region → Type 0) (regions : List Region) (region : Region) (i : ℕ) → region_of regions region.id ≡ None
    → IsSomeAnd (region_of regions i) P → IsSomeAnd (region_of (in_order region_before region regions) i) P
found_pushed P regions region i none has =
    let other = other_number P regions region.id i none has in
    found_again P regions (in_order region_before region regions) i
    (region_of-ordered regions region i none ∙ ap (λ b. if b then Some region else region_of regions i) other) has

-- one more region
pub records_pushed : (regions : List Region) (region : Region) (records : List Record) → region_of regions region.id ≡ None
    → All (Stands regions) records → All (Stands (in_order region_before region regions)) records
records_pushed regions region records none all =
    All-weaker (Stands regions) (Stands (in_order region_before region regions)) (λ r has. found_pushed (Page r.page) regions region r.region none has) records all

pub copies_pushed : (regions : List Region) (region : Region) (copies : List Copy) → region_of regions region.id ≡ None
    → All (StandsPrivate regions) copies → All (StandsPrivate (in_order region_before region regions)) copies
copies_pushed regions region copies none all =
    All-weaker (StandsPrivate regions) (StandsPrivate (in_order region_before region regions))
    (λ copy has. found_pushed (PrivatePage copy.page) regions region copy.region none has) copies all

-- some regions went: those that `gone` tells, with what belonged to them
module _ (old new : List Region) (gone : ℕ → Bool) (left : (i : ℕ) → region_of new i ≡ (if gone i then None else region_of old i)) where
  found_left : (P : Region → Type 0) (i : ℕ) → not (gone i) ≡ true → IsSomeAnd (region_of old i) P → IsSomeAnd (region_of new i) P
  found_left P i stays has = found_again P old new i (grind (arith, common_steps, left i, stays)) has

  pub records_left : (records : List Record) → All (Stands old) records
      → All (Stands new) (filter (λ r. not (gone r.region)) records)
  records_left records all =
      All-filtered (Stands old) (Stands new) (λ r. not (gone r.region)) records (λ r stays has. found_left (Page r.page) r.region stays has) all

  pub copies_left : (copies : List Copy) → All (StandsPrivate old) copies
      → All (StandsPrivate new) (filter (λ copy. not (gone copy.region)) copies)
  copies_left copies all =
      All-filtered (StandsPrivate old) (StandsPrivate new) (λ copy. not (gone copy.region)) copies
      (λ copy stays has. found_left (PrivatePage copy.page) copy.region stays has) all
