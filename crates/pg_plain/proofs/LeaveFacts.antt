-- Regions that go, and pages that leave, take what stands on them along.
use Rattle.std.proofs.Common.{◌≡◌, ℕ, ◌≤◌, Bool, true, false, List, Option, Some, None, length, refl, sym, ap, subst, ◌∙◌, arith, not}
use Rattle.std.specs.Prelude.{◌&&◌, ◌==◌, IsSomeAnd, IsTrue, find, is_some, if◌then◌else◌}
use Rattle.std.specs.Option.{option_map_or}
use Rattle.std.proofs.lemmas.Grind.{common_steps}
use Rattle.std.proofs.lemmas.List.Sums.{length-filter}
use Rattle.pg_digest.specs.Kinds.{Hash}
use Rattle.cs_policy.specs.declared.region.Region.{Region}
use Rattle.pg_regions.specs.Lookups.{region_of, is_region, has_page}
use Rattle.pg_plain.specs.PlainFile.{Resident, PlainFile, has_copy, is_page, is_resident}
use Rattle.pg_plain.specs.Given.{without_page, unmapped}
use Rattle.pg_plain.specs.Steps.{is_gone, without_regions}
use Rattle.pg_plain.specs.Keep.{Keep}
use Rattle.pg_regions.proofs.ListFacts.{find-filter_key}
use Rattle.pg_plain.proofs.ListFacts.{find-filter_kept}
use Rattle.pg_plain.proofs.FewerFacts.{Fewer}

-- where a test of an option is true, it is there, and no other one was chosen
pub chosen : {X : Type 0} (gone : Bool) (found : Option X) (f : X → Bool) → option_map_or f (if gone then None else found) false ≡ true
    → (gone ≡ false) × (option_map_or f found false ≡ true)
chosen true found f e = absurd (grind (arith, common_steps, e))
chosen false found f e = (refl, e)

pub chosen_some : {X : Type 0} (gone : Bool) (found : Option X) → is_some (if gone then None else found) ≡ true
    → (gone ≡ false) × (is_some found ≡ true)
chosen_some true found e = absurd (grind (arith, common_steps, e))
chosen_some false found e = (refl, e)

-- ---- regions go

-- a region that does not go is found as it was
region_stays : (goes : Region → Bool) (file : PlainFile) (id : ℕ) → is_gone goes file id ≡ false → region_of (without_regions goes file).regions id ≡ region_of file.regions id
region_stays goes file id stays =
    find-filter_kept (is_region id) (λ region. not (goes region)) file.regions (by_region (region_of file.regions id) stays)
  where
    by_region : (region : Option Region) → option_map_or goes region false ≡ false → option_map_or (λ region. not (goes region)) region true ≡ true
    by_region None e = refl
    by_region (Some region) e = ap not e

module _ (hash : Hash) (goes : Region → Bool) (file : PlainFile) (keep : Keep hash file) where
  abbrev new : PlainFile
  new = without_regions goes file

  copy_stays : (id page : ℕ) → is_gone goes file id ≡ false → has_copy new id page ≡ has_copy file id page
  copy_stays id page stays = ap (λ gone. is_some (if gone then None else file.copies id page)) stays

  pub dropped_fewer : Fewer file new
  dropped_fewer = record {
    page_size = refl;
    limit = refl;
    blobs = refl;
    executes = λ id page e. (chosen (is_gone goes file id) (file.records id page) (λ r. r.execute && r.guarded) e).1;
    bytes = λ id page e. refl;
    writes = λ id page e. (chosen (is_gone goes file id) (file.records id page) (λ r. r.write) e).1;
    shared = λ id page e. ap (λ region. option_map_or (λ r. r.shared) region false) (region_stays goes file id (chosen (is_gone goes file id) (file.records id page) (λ r. r.write) e).0);
    copy = λ id page e. copy_stays id page (chosen_some (is_gone goes file id) (file.records id page) e).0;
    private_copies = λ id page e.
        let there = chosen_some (is_gone goes file id) (file.copies id page) e in
        subst (λ region. IsSomeAnd region (λ r. IsTrue (has_page page r) × (r.shared ≡ false))) (sym (region_stays goes file id there.0))
        (keep.private_copies id page there.1);
    at_hand = λ id page e f.
        let there = chosen_some (is_gone goes file id) (file.records id page) e in
        keep.at_hand id page there.1 (sym (copy_stays id page there.0) ∙ f);
    records_stand = λ id page e.
        let there = chosen_some (is_gone goes file id) (file.records id page) e in
        subst (λ region. IsSomeAnd region (λ r. IsTrue (has_page page r))) (sym (region_stays goes file id there.0)) (keep.records_stand id page there.1);
    few = keep.few;
  }

-- ---- pages that leave

-- no record of a page that left is without a private copy
pub left_has : (left : ℕ) (file : PlainFile) (id page : ℕ) → is_some (unmapped left file id page) ≡ true → has_copy file id page ≡ false → (page == left) ≡ false
left_has left file id page e f = by_test (page == left) refl
  where
    by_test : (b : Bool) → (page == left) ≡ b → b ≡ false
    by_test false g = refl
    by_test true g = absurd (grind (arith, common_steps, e, f, g))

-- a file that a page leaves, with these resident pages then
module _ (hash : Hash) (left : ℕ) (file : PlainFile) (keep : Keep hash file) (residents : List Resident)
    (stay : (page : ℕ) → (page == left) ≡ false → is_resident file page ≡ true → is_some (find (is_page page) residents) ≡ true)
    (few : length residents ≤ file.limit) where
  abbrev after_leaving : PlainFile
  after_leaving = record file { residents = residents; records = unmapped left file }

  pub left_fewer : Fewer file after_leaving
  left_fewer = record {
    page_size = refl;
    limit = refl;
    blobs = refl;
    executes = λ id page e. (chosen (page == left && not (has_copy file id page)) (file.records id page) (λ r. r.execute && r.guarded) e).1;
    bytes = λ id page e. refl;
    writes = λ id page e. (chosen (page == left && not (has_copy file id page)) (file.records id page) (λ r. r.write) e).1;
    shared = λ id page e. refl;
    copy = λ id page e. refl;
    private_copies = keep.private_copies;
    at_hand = λ id page e f. stay page (left_has left file id page e f) (keep.at_hand id page (chosen_some (page == left && not (has_copy file id page)) (file.records id page) e).1 f);
    records_stand = λ id page e. keep.records_stand id page (chosen_some (page == left && not (has_copy file id page)) (file.records id page) e).1;
    few = few;
  }

-- a page stays in the list that another leaves
pub other_stays : (left page : ℕ) (residents : List Resident) → (page == left) ≡ false → find (is_page page) (without_page left residents) ≡ find (is_page page) residents
other_stays left page residents other =
    find-filter_key (is_page page) (λ resident. not (is_page left resident)) false (λ resident here. grind (arith, common_steps, here, other)) residents

pub evicted_fewer : (hash : Hash) (file : PlainFile) (page : ℕ) → Keep hash file
    → Fewer file (record file { residents = without_page page file.residents; records = unmapped page file })
evicted_fewer hash file page keep =
    left_fewer hash page file keep (without_page page file.residents)
    (λ other apart here. ap is_some (other_stays page other file.residents apart) ∙ here)
    (subst (λ n. n ≤ file.limit) refl (grind (arith, common_steps, length-filter (λ resident. not (is_page page resident)) file.residents, keep.few)))
