-- For the layer above: what is said of a region stays where others come and go, and what a record that was found is of.
use Rattle.std.proofs.Common.{◌≡◌, ℕ, ◌==◌, List, Bool, false, Option, Some, None, ap, ◌∙◌, arith}
use Rattle.std.specs.Prelude.{if◌then◌else◌}
use Rattle.std.specs.Option.{option_map_or}
use Rattle.std.proofs.lemmas.Grind.{common_steps}
use Rattle.cs_policy.specs.declared.region.Region.{Region}
use Rattle.cs_policy.specs.declared.region.Record.{Record}
use Rattle.pg_regions.specs.Lookups.{region_of, is_record, record_of, is_shared, HasPage, HasPrivatePage}
use Rattle.pg_regions.specs.RegionsNow.{RegionsNow}
use Rattle.pg_regions.specs.Steps.{ChangesRegion, AreGone}
use Rattle.pg_regions.proofs.ListFacts.{found_passes}
use Rattle.pg_regions.proofs.StandFacts.{Page, PrivatePage, found_again}

shared_again : (old new : List Region) (id : ℕ) → region_of new id ≡ region_of old id → is_shared new id ≡ is_shared old id
shared_again old new id same = ap (λ (o : Option Region). option_map_or (λ region. region.shared) o false) same

-- ---- a change under another number

module _ (old new : RegionsNow) (id : ℕ) (found : Option Region) (changes : ChangesRegion old new id found) (i : ℕ) (other : (i == id) ≡ false) where
  -- the region is shared where it was
  pub changed_shared : is_shared new.regions i ≡ is_shared old.regions i
  changed_shared = shared_again old.regions new.regions i (changes.others i other)

  -- the region has the pages that it had
  pub changed_page : (page : ℕ) → HasPage old.regions i page → HasPage new.regions i page
  changed_page page has = found_again (Page page) old.regions new.regions i (changes.others i other) has

  -- the private region has the pages that it had
  pub changed_private_page : (page : ℕ) → HasPrivatePage old.regions i page → HasPrivatePage new.regions i page
  changed_private_page page has = found_again (PrivatePage page) old.regions new.regions i (changes.others i other) has

-- ---- a region that is not gone, where others are

module _ (gone : ℕ → Bool) (old new : RegionsNow) (are_gone : AreGone gone old new) (i : ℕ) (stays : gone i ≡ false) where
  left_found : region_of new.regions i ≡ region_of old.regions i
  left_found = are_gone.regions i ∙ ap (λ b. if b then None else region_of old.regions i) stays

  -- the region is shared where it was
  pub left_shared : is_shared new.regions i ≡ is_shared old.regions i
  left_shared = shared_again old.regions new.regions i left_found

  -- the region has the pages that it had
  pub left_page : (page : ℕ) → HasPage old.regions i page → HasPage new.regions i page
  left_page page has = found_again (Page page) old.regions new.regions i left_found has

  -- the private region has the pages that it had
  pub left_private_page : (page : ℕ) → HasPrivatePage old.regions i page → HasPrivatePage new.regions i page
  left_private_page page has = found_again (PrivatePage page) old.regions new.regions i left_found has

-- ---- a record that was found

-- it is of the region
pub record_region : (records : List Record) (id page : ℕ) (r : Record) → record_of records id page ≡ Some r → r.region ≡ id
record_region records id page r found =
    let one = found_passes (is_record id page) records r found in grind (arith, common_steps, one)

-- it is of the page
pub record_page : (records : List Record) (id page : ℕ) (r : Record) → record_of records id page ≡ Some r → r.page ≡ page
record_page records id page r found =
    let one = found_passes (is_record id page) records r found in grind (arith, common_steps, one)
