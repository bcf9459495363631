-- A page that is given to a region leaves what is true of every file.
use Rattle.std.proofs.Common.{◌≡◌, ℕ, Bool, true, false, [], Option, Some, None, refl, sym, ap, subst, ◌∙◌, arith}
use Rattle.std.specs.Prelude.{◌&&◌, ◌==◌, IsSomeAnd, IsTrue, is_some, unwrap_or, slice_index_or, if◌then◌else◌}
use Rattle.std.specs.Option.{option_map, option_map_or}
use Rattle.std.proofs.lemmas.Grind.{common_steps}
use Rattle.pg_digest.specs.Kinds.{Hash}
use Rattle.cs_policy.specs.declared.access.Access.{Access}
use Rattle.cs_policy.specs.declared.access.Access.TheVariants.{Read, Write, Execute}
use Rattle.cs_policy.specs.declared.region.Region.{Region}
use Rattle.cs_policy.specs.declared.region.Record.{Record}
use Rattle.pg_regions.specs.Lookups.{region_of, has_page, HasPage, HasPrivatePage, is_shared}
use Rattle.pg_regions.specs.Steps.{blank, given}
use Rattle.pg_plain.specs.PlainFile.{PlainFile, page_of, has_copy, has_record, may_write, may_execute_guarded, is_resident}
use Rattle.pg_plain.specs.Given.{put_at, granted, unexecuted, stripped, copied, at_hand, entered, given_page}
use Rattle.pg_plain.specs.Verdict.{verdict}
use Rattle.pg_plain.specs.Keep.{Keep, IsSealedNow}
use Rattle.pg_plain.proofs.FewerFacts.{Fewer, fewer_keep, sealed_there, itself}
use Rattle.pg_plain.proofs.GrantFacts.{is_here, everywhere, Grants, grants_keep}
use Rattle.pg_plain.proofs.EnterFacts.{entered_fewer, entered_keep, front_found}
use Rattle.pg_plain.proofs.VerdictFacts.{executable}

-- ---- what is put at a region and page

module _ {X : Type 0} (id page : ℕ) (x : X) (f : ℕ → ℕ → Option X) where
  pub put_here : put_at id page x f id page ≡ Some x
  put_here = grind (arith, common_steps)

  pub put_other : (i p : ℕ) → is_here id page i p ≡ false → put_at id page x f i p ≡ f i p
  put_other i p away = ap (λ b. if b then Some x else f i p) away

-- what is true of a record that may be blank is true of one that there is
from_old : (test : Record → Bool) (old : Option Record) (other : Record) → test other ≡ false → test (unwrap_or old other) ≡ true → option_map_or test old false ≡ true
from_old test None other fails e = absurd (grind (arith, common_steps, fails, e))
from_old test (Some r) other fails e = e

abbrev executes_guarded : Record → Bool
executes_guarded r = r.execute && r.guarded

pub strip_executes : (b : Bool) (r : Option Record) → option_map_or executes_guarded (if b then option_map unexecuted r else r) false ≡ true
    → (b ≡ false) × (option_map_or executes_guarded r false ≡ true)
strip_executes true None e = absurd (grind (arith, common_steps, e))
strip_executes true (Some r) e = absurd (grind (arith, common_steps, e))
strip_executes false r e = (refl, e)

pub strip_writes : (b : Bool) (r : Option Record) → option_map_or (λ r. r.write) (if b then option_map unexecuted r else r) false ≡ option_map_or (λ r. r.write) r false
strip_writes true None = refl
strip_writes true (Some r) = refl
strip_writes false r = refl

pub strip_has : (b : Bool) (r : Option Record) → is_some (if b then option_map unexecuted r else r) ≡ is_some r
strip_has true None = refl
strip_has true (Some r) = refl
strip_has false r = refl

same_page : (page : ℕ) → (page == page) ≡ false → ⊥
same_page page e = grind (arith, common_steps, e)

module _ (hash : Hash) (file : PlainFile) (region : Region) (page : ℕ) (keep : Keep hash file)
    (stands : region_of file.regions region.id ≡ Some region) (has : IsTrue (has_page page region))
    (hand : has_copy file region.id page ≡ false → is_resident file page ≡ true) where
  has_here : HasPage file.regions region.id page
  has_here = subst (λ r. IsSomeAnd r (λ region. IsTrue (has_page page region))) (sym stands) has

  shared_is : is_shared file.regions region.id ≡ region.shared
  shared_is = ap (λ r. option_map_or (λ region. region.shared) r false) stands

  -- where the access gives no right that a test asks for, who passes the test passed it before
  passes : (access : Access) (guarded : Bool) (test : Record → Bool)
      → ((r : Record) → test (given access guarded r) ≡ true → test r ≡ true) → test (blank region.id page) ≡ false
      → (i p : ℕ) → option_map_or test ((granted region page access guarded file).records i p) false ≡ true
      → option_map_or test (file.records i p) false ≡ true
  passes access guarded test less fails =
      everywhere (λ i p. option_map_or test ((granted region page access guarded file).records i p) false ≡ true → option_map_or test (file.records i p) false ≡ true)
      region.id page
      (λ e. from_old test (file.records region.id page) (blank region.id page) fails
      (less (unwrap_or (file.records region.id page) (blank region.id page))
      (ap (λ r. option_map_or test r false) (sym (put_here region.id page (given access guarded (unwrap_or (file.records region.id page) (blank region.id page))) file.records)) ∙ e)))
      (λ i p away e. ap (λ r. option_map_or test r false) (sym (put_other region.id page (given access guarded (unwrap_or (file.records region.id page) (blank region.id page))) file.records i p away)) ∙ e)

  -- records of other regions and pages stay
  others_test : (access : Access) (guarded : Bool) (test : Record → Bool) (i p : ℕ) → is_here region.id page i p ≡ false
      → option_map_or test ((granted region page access guarded file).records i p) false ≡ true → option_map_or test (file.records i p) false ≡ true
  others_test access guarded test i p away e =
      ap (λ r. option_map_or test r false) (sym (put_other region.id page (given access guarded (unwrap_or (file.records region.id page) (blank region.id page))) file.records i p away)) ∙ e

  others_has : (access : Access) (guarded : Bool) (i p : ℕ) → is_here region.id page i p ≡ false
      → has_record (granted region page access guarded file) i p ≡ true → has_record file i p ≡ true
  others_has access guarded i p away e =
      ap is_some (sym (put_other region.id page (given access guarded (unwrap_or (file.records region.id page) (blank region.id page))) file.records i p away)) ∙ e

  here_test : (access : Access) (guarded : Bool) (test : Record → Bool)
      → option_map_or test ((granted region page access guarded file).records region.id page) false ≡ test (given access guarded (unwrap_or (file.records region.id page) (blank region.id page)))
  here_test access guarded test =
      ap (λ r. option_map_or test r false) (put_here region.id page (given access guarded (unwrap_or (file.records region.id page) (blank region.id page))) file.records)

  -- an access that gives no right to write, or to execute under guard
  less_keep : (access : Access) (guarded : Bool) → ((r : Record) → executes_guarded (given access guarded r) ≡ true → executes_guarded r ≡ true)
      → ((r : Record) → (given access guarded r).write ≡ true → r.write ≡ true) → Keep hash (granted region page access guarded file)
  less_keep access guarded executes writes = fewer_keep hash file (granted region page access guarded file) less keep
    where
      less : Fewer file (granted region page access guarded file)
      less = record {
        page_size = refl;
        limit = refl;
        blobs = refl;
        executes = passes access guarded executes_guarded executes refl;
        bytes = λ i p e. refl;
        writes = passes access guarded (λ r. r.write) writes refl;
        shared = λ i p w. refl;
        copy = λ i p r. refl;
        private_copies = keep.private_copies;
        at_hand = everywhere (λ i p. has_record (granted region page access guarded file) i p ≡ true → has_copy file i p ≡ false → is_resident file p ≡ true)
            region.id page (λ _ c. hand c) (λ i p away r c. keep.at_hand i p (others_has access guarded i p away r) c);
        records_stand = everywhere (λ i p. has_record (granted region page access guarded file) i p ≡ true → HasPage file.regions i p)
            region.id page (λ _. has_here) (λ i p away r. keep.records_stand i p (others_has access guarded i p away r));
        few = keep.few;
      }

  pub read_keep : (guarded : Bool) → Keep hash (granted region page Read guarded file)
  read_keep guarded = less_keep Read guarded (λ r e. e) (λ r e. e)

  pub run_unguarded_keep : Keep hash (granted region page Execute false file)
  run_unguarded_keep = less_keep Execute false (λ r e. absurd (grind (arith, common_steps, e))) (λ r e. e)

  -- an execution under guard, where nothing is broken
  pub run_keep : (region.shared ≡ false → has_copy file region.id page ≡ false) → IsSealedNow hash file page
      → ((other : ℕ) → may_write file other page ≡ true → is_shared file.regions other ≡ false) → Keep hash (granted region page Execute true file)
  run_keep uncopied now unwritten = grants_keep hash file (granted region page Execute true file) region.id page grants keep
    where
      writes : (i p : ℕ) → may_write (granted region page Execute true file) i p ≡ true → may_write file i p ≡ true
      writes = passes Execute true (λ r. r.write) (λ r e. e) refl

      by_copy : (copy : Bool) → has_copy file region.id page ≡ copy → copy ≡ false
      by_copy false e = refl
      by_copy true e =
          let there = subst (λ r. IsSomeAnd r (λ region. IsTrue (has_page page region) × (region.shared ≡ false))) stands (keep.private_copies region.id page e) in
          sym e ∙ uncopied there.1

      no_copy : has_copy file region.id page ≡ false
      no_copy = by_copy (has_copy file region.id page) refl

      grants : Grants hash file (granted region page Execute true file) region.id page
      grants = record {
        page_size = refl;
        limit = refl;
        blobs = refl;
        regions = refl;
        pages = refl;
        residents = refl;
        executes = others_test Execute true executes_guarded;
        writes = others_test Execute true (λ r. r.write);
        records = others_has Execute true;
        copies = λ i p away. refl;
        sealed_here = λ e. now;
        unwritten_here = λ e other w. unwritten other (writes other page w);
        unexecuted_here = λ w i e. unwritten region.id (writes region.id page w);
        uncopied_here = λ e. no_copy;
        copied_here = λ w s. keep.copied region.id page (writes region.id page w) s;
        private_here = keep.private_copies region.id page;
        at_hand_here = hand;
        stands_here = has_here;
      }

  -- ---- a write

  abbrev write_granted : Bool → PlainFile
  write_granted guarded = granted region page Write guarded file

  written_not_executed : (guarded : Bool) → may_execute_guarded (write_granted guarded) region.id page ≡ true → ⊥
  written_not_executed guarded e = grind (arith, common_steps, here_test Write guarded executes_guarded, e)

  pub write_shared_keep : (guarded : Bool) → region.shared ≡ true → Keep hash (stripped page (write_granted guarded))
  write_shared_keep guarded shared = grants_keep hash file (stripped page (write_granted guarded)) region.id page grants keep
    where
      no_execute : (i : ℕ) → may_execute_guarded (stripped page (write_granted guarded)) i page ≡ true → ⊥
      no_execute i e = same_page page (strip_executes (page == page) ((write_granted guarded).records i page) e).0

      grants : Grants hash file (stripped page (write_granted guarded)) region.id page
      grants = record {
        page_size = refl;
        limit = refl;
        blobs = refl;
        regions = refl;
        pages = refl;
        residents = refl;
        executes = λ i p away e. others_test Write guarded executes_guarded i p away (strip_executes (p == page) ((write_granted guarded).records i p) e).1;
        writes = λ i p away e. others_test Write guarded (λ r. r.write) i p away (sym (strip_writes (p == page) ((write_granted guarded).records i p)) ∙ e);
        records = λ i p away e. others_has Write guarded i p away (sym (strip_has (p == page) ((write_granted guarded).records i p)) ∙ e);
        copies = λ i p away. refl;
        sealed_here = λ e. absurd (no_execute region.id e);
        unwritten_here = λ e other w. absurd (no_execute region.id e);
        unexecuted_here = λ w i e. absurd (no_execute i e);
        uncopied_here = λ e. absurd (no_execute region.id e);
        copied_here = λ w s. absurd (grind (arith, common_steps, s, shared_is, shared));
        private_here = keep.private_copies region.id page;
        at_hand_here = hand;
        stands_here = has_here;
      }

  abbrev with_copy : Bool → PlainFile
  with_copy guarded = record (write_granted guarded) { copies = put_at region.id page (page_of file page) file.copies }

  pub write_private_keep : (guarded : Bool) → region.shared ≡ false → Keep hash (copied region page (write_granted guarded))
  write_private_keep guarded private = by_copy (has_copy file region.id page) refl
    where
      not_shared : is_shared file.regions region.id ≡ false
      not_shared = shared_is ∙ private

      private_stands : HasPrivatePage file.regions region.id page
      private_stands = subst (λ r. IsSomeAnd r (λ region. IsTrue (has_page page region) × (region.shared ≡ false))) (sym stands) (has, private)

      by_copy : (copy : Bool) → has_copy file region.id page ≡ copy
          → Keep hash (if copy then write_granted guarded else with_copy guarded)
      by_copy true e = grants_keep hash file (write_granted guarded) region.id page (record {
        page_size = refl;
        limit = refl;
        blobs = refl;
        regions = refl;
        pages = refl;
        residents = refl;
        executes = others_test Write guarded executes_guarded;
        writes = others_test Write guarded (λ r. r.write);
        records = others_has Write guarded;
        copies = λ i p away. refl;
        sealed_here = λ f. absurd (written_not_executed guarded f);
        unwritten_here = λ f other w. absurd (written_not_executed guarded f);
        unexecuted_here = λ w i f. not_shared;
        uncopied_here = λ f. absurd (written_not_executed guarded f);
        copied_here = λ w s. e;
        private_here = keep.private_copies region.id page;
        at_hand_here = hand;
        stands_here = has_here;
      }) keep
      by_copy false e = grants_keep hash file (with_copy guarded) region.id page (record {
        page_size = refl;
        limit = refl;
        blobs = refl;
        regions = refl;
        pages = refl;
        residents = refl;
        executes = others_test Write guarded executes_guarded;
        writes = others_test Write guarded (λ r. r.write);
        records = others_has Write guarded;
        copies = λ i p away. ap is_some (put_other region.id page (page_of file page) file.copies i p away);
        sealed_here = λ f. absurd (written_not_executed guarded f);
        unwritten_here = λ f other w. absurd (written_not_executed guarded f);
        unexecuted_here = λ w i f. not_shared;
        uncopied_here = λ f. absurd (written_not_executed guarded f);
        copied_here = λ w s. ap is_some (put_here region.id page (page_of file page) file.copies);
        private_here = λ c. private_stands;
        at_hand_here = λ c. hand e;
        stands_here = has_here;
      }) keep

-- ---- a page that is given

-- The file with the page at hand for a region.
pub record AtHand (hash : Hash) (file now : PlainFile) (region : Region) (page : ℕ) : Type 0 where
  pub keep : Keep hash now
  pub fewer : Fewer file now
  pub regions : now.regions ≡ file.regions
  pub pages : now.pages ≡ file.pages
  pub copies : now.copies ≡ file.copies
  pub resident : has_copy now region.id page ≡ false → is_resident now page ≡ true

pub is_at_hand : (hash : Hash) (file : PlainFile) (region : Region) (page : ℕ) → Keep hash file → AtHand hash file (at_hand region page file) region page
is_at_hand hash file region page keep = by_copy (has_copy file region.id page) refl
  where
    by_copy : (copy : Bool) → has_copy file region.id page ≡ copy → AtHand hash file (if copy then file else entered page file) region page
    by_copy true e = record {
      keep = keep;
      fewer = itself hash file keep;
      regions = refl;
      pages = refl;
      copies = refl;
      resident = λ f. absurd (grind (arith, common_steps, e, f));
    }
    by_copy false e = record {
      keep = entered_keep hash file page keep;
      fewer = entered_fewer hash file page keep;
      regions = refl;
      pages = refl;
      copies = refl;
      resident = λ f. front_found hash file page keep;
    }

-- A page of a region that stands and has it is given: under guard, only where no rule is broken.
pub given_keep : (hash : Hash) (file : PlainFile) (region : Region) (page : ℕ) (access : Access) (guarded : Bool) → Keep hash file
    → region_of file.regions region.id ≡ Some region → IsTrue (has_page page region) → (guarded ≡ true → verdict hash file region page access ≡ None)
    → Keep hash (given_page region page access guarded file)
given_keep hash file region page access guarded keep stands has allowed = by_access access guarded allowed
  where
    hand : AtHand hash file (at_hand region page file) region page
    hand = is_at_hand hash file region page keep

    stands_now : region_of (at_hand region page file).regions region.id ≡ Some region
    stands_now = ap (λ regions. region_of regions region.id) hand.regions ∙ stands

    by_shared : (g shared : Bool) → region.shared ≡ shared
        → Keep hash (if shared then stripped page (granted region page Write g (at_hand region page file)) else copied region page (granted region page Write g (at_hand region page file)))
    by_shared g true e = write_shared_keep hash (at_hand region page file) region page hand.keep stands_now has hand.resident g e
    by_shared g false e = write_private_keep hash (at_hand region page file) region page hand.keep stands_now has hand.resident g e

    by_access : (a : Access) (g : Bool) → (g ≡ true → verdict hash file region page a ≡ None) → Keep hash (given_page region page a g file)
    by_access Read g rules = read_keep hash (at_hand region page file) region page hand.keep stands_now has hand.resident g
    by_access Write g rules = by_shared g region.shared refl
    by_access Execute false rules = run_unguarded_keep hash (at_hand region page file) region page hand.keep stands_now has hand.resident
    by_access Execute true rules =
        let run = executable hash file region page (rules refl) in
        run_keep hash (at_hand region page file) region page hand.keep stands_now has hand.resident
        (λ private. ap (λ copies. is_some (copies region.id page)) hand.copies ∙ run.uncopied private)
        (sealed_there hash file (at_hand region page file) page hand.fewer.page_size hand.fewer.blobs (ap (λ pages. slice_index_or pages page []) hand.pages) run.now_sealed)
        (λ other w. ap (λ regions. is_shared regions other) hand.regions ∙ run.unwritten other (hand.fewer.writes other page w))
