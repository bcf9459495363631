-- The rules that can be told without the bytes of a page, as the object tells them.
use Rattle.std.proofs.Common.{◌≡◌, ℕ, ◌≤◌, Bool, true, false, [], ◌∷◌, map, filter, Option, Some, None, refl, sym, ap, subst, ◌∙◌, arith}
use Rattle.std.specs.Prelude.{◌&&◌, IsTrue, IsSomeAnd, IfSome, IfNone, is_some, if◌then◌else◌}
use Rattle.std.specs.List.{AllByRecursion}
use Rattle.std.specs.Option.{option_map, option_map_or, option_or, option_copied}
use Rattle.std.specs.Borrow.{Bor}
use Rattle.std.proofs.lemmas.Grind.{common_steps}
use Rattle.std.proofs.lemmas.List.Elements.{recursion_from_All}
use Rattle.cs_policy.specs.declared.access.Access.{Access}
use Rattle.cs_policy.specs.declared.access.Access.TheVariants.{Read, Write, Execute}
use Rattle.cs_policy.specs.declared.region.Region.{Region}
use Rattle.cs_policy.specs.declared.region.Record.{Record}
use Rattle.cs_policy.specs.declared.denial.Denial.{Denial}
use Rattle.cs_policy.specs.declared.denial.Denial.TheVariants.{Unsigned, BeyondLimit, WritableShared}
use Rattle.cs_blob.specs.Signature.{Signature}
use Rattle.pg_digest.specs.Kinds.{Hash}
use Rattle.pg_cache.proofs.Laws.{some_pages, some_finds}
use Rattle.pg_regions.specs.Lookups.{is_region, region_of, record_of, IsWriter, IsLeastWriter, HasNoWriter}
use Rattle.pg_regions.specs.RegionsNow.{IsSound}
use Rattle.pg_regions.proofs.ListFacts.{found_passes, found_has}
use Rattle.pg_regions.proofs.PairFacts.{found_itself}
use Rattle.pg_regions.proofs.WriterFacts.{least_has, least_below, numbers_have, passing_have, none_pass}
use Rattle.pg_plain.specs.PlainFile.{Attached, may_write, writer}
use Rattle.pg_plain.specs.Covers.{covers, is_below_limit, Fits}
use Rattle.pg_plain.specs.Verdict.{first_denial, private_copy, unsigned, beyond_limit, writable_shared, verdict_without_bytes}
use Rattle.pg_object.specs.Object.{ObjectNow, seen, cover_of}
use Rattle.pg_object.specs.Kept.{IsSigned, IsKept}
use Rattle.pg_pages.specs.Marks.{marks_of}
use Rattle.pg_object.specs.Seals.{MarksAgree}
use Rattle.pg_object.specs.Enters.{Holds, against}

-- ---- the attached signature that covers a page

-- what is lent of it
pub lent : (found : Option (Bor Signature)) (cover : Option Attached) → option_copied found ≡ option_map (λ attached. attached.signature) cover → (blob : Bor Signature) → found ≡ Some blob
    → (attached : Attached) × ((cover ≡ Some attached) × (attached.signature ≡ blob.now))
lent found None e blob is = absurd (let some = sym (ap option_copied is) ∙ e in cc)
lent found (Some attached) e blob is =
    let same : Some attached.signature ≡ Some blob.now = sym e ∙ ap option_copied is in
    let one : attached.signature ≡ blob.now = cc in
    (attached, (refl, one))

pub lent_none : (found : Option (Bor Signature)) (cover : Option Attached) → option_copied found ≡ option_map (λ attached. attached.signature) cover → found ≡ None → cover ≡ None
lent_none found None e is = refl
lent_none found (Some attached) e is = absurd (let none = sym e ∙ ap option_copied is in cc)

-- it covers the page, and fits the file's pages
pub cover_covers : (now : ObjectNow) (page : ℕ) (attached : Attached) → cover_of now page ≡ Some attached → IsTrue (covers now.pages.cache.pager.page_size attached.signature page)
cover_covers now page attached e = found_passes (λ (a : Attached). covers now.pages.cache.pager.page_size a.signature page) now.blobs attached e

pub cover_fits : (hash : Hash) (now : ObjectNow) (page : ℕ) (attached : Attached) → IsKept hash now → cover_of now page ≡ Some attached → Fits now.pages.cache.pager.page_size attached.signature
cover_fits hash now page attached kept e =
    let keep = kept.keep (some_pages now.pages.cache) (some_finds now.pages.cache kept.sound) in
    found_has (λ (a : Attached). Fits now.pages.cache.pager.page_size a.signature) (λ (a : Attached). covers now.pages.cache.pager.page_size a.signature page) now.blobs attached
    (recursion_from_All (λ (a : Attached). Fits now.pages.cache.pager.page_size a.signature) now.blobs keep.blobs_fit) e

-- ---- the writer

-- the regions of the plain file that may write the page
abbrev writes_page : ObjectNow → ℕ → Region → Bool
writes_page now page region = region.shared && may_write (seen now []) region.id page

module _ (now : ObjectNow) (page : ℕ) (sound : IsSound now.regions) where
  own : AllByRecursion (λ (region : Region). region_of now.regions.regions region.id ≡ Some region) now.regions.regions
  own = found_itself (λ (x : Region). is_region x.id) (λ x. grind (arith, common_steps)) (λ x y e. grind (arith, common_steps, e)) now.regions.regions sound.one_region

  writer_numbers : AllByRecursion (IsWriter now.regions.regions now.regions.records page) (map (λ region. region.id) (filter (writes_page now page) now.regions.regions))
  writer_numbers = numbers_have (λ region. region.id) (writes_page now page) (IsWriter now.regions.regions now.regions.records page) (λ (region : Region). region_of now.regions.regions region.id ≡ Some region) now.regions.regions step own
    where
      step : (region : Region) → writes_page now page region ≡ true → region_of now.regions.regions region.id ≡ Some region → IsWriter now.regions.regions now.regions.records page region.id
      step region passes stands = record {
        shared = ap (λ o. option_map_or (λ (r : Region). r.shared) o false) stands ∙ grind (arith, common_steps, passes);
        writes = by_record (record_of now.regions.records region.id page) (grind (arith, common_steps, passes));
      }
        where
          by_record : (o : Option Record) → option_map_or (λ (r : Record). r.write) o false ≡ true → IsSomeAnd o (λ r. r.write ≡ true)
          by_record None e = absurd (grind (arith, common_steps, e))
          by_record (Some r) e = e

  -- a writer passes the test of its region
  passes_of : (id : ℕ) → IsWriter now.regions.regions now.regions.records page id → (region : Region) → region_of now.regions.regions id ≡ Some region → (region.id ≡ id) × (writes_page now page region ≡ true)
  passes_of id is region stands =
      let same : region.id ≡ id = grind (arith, common_steps, found_passes (is_region id) now.regions.regions region stands) in
      let shared : region.shared ≡ true = sym (ap (λ o. option_map_or (λ (r : Region). r.shared) o false) stands) ∙ is.shared in
      let may : may_write (seen now []) region.id page ≡ true = ap (λ i. may_write (seen now []) i page) same ∙ by_record (record_of now.regions.records id page) is.writes in
      (same, grind (arith, common_steps, shared, may))
    where
      by_record : (o : Option Record) → IsSomeAnd o (λ r. r.write ≡ true) → option_map_or (λ (r : Record). r.write) o false ≡ true
      by_record None there = absurd there
      by_record (Some r) there = there

  -- the region of a writer stands
  region_there : (id : ℕ) → IsWriter now.regions.regions now.regions.records page id → (region : Region) × (region_of now.regions.regions id ≡ Some region)
  region_there id is = by_region (region_of now.regions.regions id) refl is.shared
    where
      by_region : (o : Option Region) → region_of now.regions.regions id ≡ o → option_map_or (λ (r : Region). r.shared) o false ≡ true → (region : Region) × (region_of now.regions.regions id ≡ Some region)
      by_region None e shared = absurd (grind (arith, common_steps, shared))
      by_region (Some region) e shared = (region, e)

  pub writer_is : (o : Option ℕ) → IfSome o (IsLeastWriter now.regions.regions now.regions.records page) → IfNone o (HasNoWriter now.regions.regions now.regions.records page)
      → writer (seen now []) page ≡ o
  writer_is o least none = by_both o (writer (seen now []) page) refl least none
    where
      by_both : (o w : Option ℕ) → writer (seen now []) page ≡ w → IfSome o (IsLeastWriter now.regions.regions now.regions.records page) → IfNone o (HasNoWriter now.regions.regions now.regions.records page) → w ≡ o
      by_both None None f least none = refl
      by_both None (Some w) f least none = absurd (none w (least_has (IsWriter now.regions.regions now.regions.records page) (map (λ region. region.id) (filter (writes_page now page) now.regions.regions)) w f writer_numbers))
      by_both (Some o) None f least none =
          let there = region_there o least.writer in
          let passes = passes_of o least.writer there.0 there.1 in
          let fails = found_has (λ (r : Region). writes_page now page r ≡ false) (is_region o) now.regions.regions there.0 (none_pass (λ region. region.id) (writes_page now page) now.regions.regions f) there.1 in
          absurd (grind (arith, common_steps, passes.1, fails))
      by_both (Some o) (Some w) f least none =
          let is = least_has (IsWriter now.regions.regions now.regions.records page) (map (λ region. region.id) (filter (writes_page now page) now.regions.regions)) w f writer_numbers in
          let above = least.least w is in
          let there = region_there o least.writer in
          let passes = passes_of o least.writer there.0 there.1 in
          let all = passing_have (λ region. region.id) (writes_page now page) (λ n. w ≤ n) now.regions.regions (least_below (map (λ region. region.id) (filter (writes_page now page) now.regions.regions)) w f) in
          let each = found_has (λ (r : Region). writes_page now page r ≡ true → w ≤ r.id) (is_region o) now.regions.regions there.0 all there.1 in
          let below = each passes.1 in
          let own = passes.0 in
          ap Some (omega arith)

-- nobody may write a page that is kept as checked
pub checked_unwritten : (now : ObjectNow) (page : ℕ) → MarksAgree now → is_some (marks_of now.pages.marks page).validated ≡ true → HasNoWriter now.regions.regions now.regions.records page
checked_unwritten now page agree kept id is = let none = ap is_some (agree.unwritten page id is) in grind (arith, common_steps, sym none ∙ kept)

-- ---- where the page is covered below the limit

or_none : {X : Type 0} (o : Option X) → option_or o None ≡ o
or_none None = refl
or_none (Some x) = refl

pub rules_past : (now : ObjectNow) (page : ℕ) (attached : Attached) (o : Option ℕ) → cover_of now page ≡ Some attached → is_below_limit now.pages.cache.pager.page_size attached.signature page ≡ true
    → writer (seen now []) page ≡ o
    → option_map (λ id. WritableShared page id) o ≡ first_denial (unsigned (seen now []) page ∷ beyond_limit (seen now []) page ∷ writable_shared (seen now []) page ∷ [])
rules_past now page attached o cover below is =
    let first : unsigned (seen now []) page ≡ None = ap (λ c. if is_some c then None else Some (Unsigned page)) cover in
    let second : beyond_limit (seen now []) page ≡ None =
    ap (λ c. option_map_or (λ (a : Attached). if is_below_limit now.pages.cache.pager.page_size a.signature page then None else Some (BeyondLimit page)) c None) cover
    ∙ ap (λ b. if b then None else Some (BeyondLimit page)) below in
    sym (ap (λ o. option_or o (option_or (beyond_limit (seen now []) page) (option_or (writable_shared (seen now []) page) None))) first
    ∙ ap (λ o. option_or o (option_or (writable_shared (seen now []) page) None)) second
    ∙ or_none (writable_shared (seen now []) page)
    ∙ ap (option_map (λ id. WritableShared page id)) is)

-- where it is covered beyond it
pub rules_beyond : (now : ObjectNow) (page : ℕ) (attached : Attached) → cover_of now page ≡ Some attached → is_below_limit now.pages.cache.pager.page_size attached.signature page ≡ false
    → Some (BeyondLimit page) ≡ first_denial (unsigned (seen now []) page ∷ beyond_limit (seen now []) page ∷ writable_shared (seen now []) page ∷ [])
rules_beyond now page attached cover beyond =
    let first : unsigned (seen now []) page ≡ None = ap (λ c. if is_some c then None else Some (Unsigned page)) cover in
    let second : beyond_limit (seen now []) page ≡ Some (BeyondLimit page) =
    ap (λ c. option_map_or (λ (a : Attached). if is_below_limit now.pages.cache.pager.page_size a.signature page then None else Some (BeyondLimit page)) c None) cover
    ∙ ap (λ b. if b then None else Some (BeyondLimit page)) beyond in
    sym (ap (λ o. option_or o (option_or (beyond_limit (seen now []) page) (option_or (writable_shared (seen now []) page) None))) first
    ∙ ap (λ o. option_or o (option_or (writable_shared (seen now []) page) None)) second)

-- ---- the signature against which a page is held

or_both : {X : Type 0} (one other : Option X) → option_or one other ≡ None → (one ≡ None) × (other ≡ None)
or_both None other e = (refl, e)
or_both (Some x) other e = absurd (cc)

-- what is known where there is one
pub record Against (now : ObjectNow) (page : ℕ) (access : Access) (broken : Option Denial) (blob : Signature) : Type 0 where
  pub executes : access ≡ Execute
  pub unbroken : broken ≡ None
  pub attached : Attached
  pub cover : cover_of now page ≡ Some attached
  pub own : attached.signature ≡ blob
  pub below : is_below_limit now.pages.cache.pager.page_size attached.signature page ≡ true
  pub unwritten : HasNoWriter now.regions.regions now.regions.records page

module _ (now : ObjectNow) (page : ℕ) (sound : IsSound now.regions) where
  nobody_writes : writer (seen now []) page ≡ None → HasNoWriter now.regions.regions now.regions.records page
  nobody_writes none id is =
      let there = region_there now page sound id is in
      let passes = passes_of now page sound id is there.0 there.1 in
      let fails = found_has (λ (r : Region). writes_page now page r ≡ false) (is_region id) now.regions.regions there.0 (none_pass (λ region. region.id) (writes_page now page) now.regions.regions none) there.1 in
      grind (arith, common_steps, passes.1, fails)

  map_none : {X Y : Type 0} (f : X → Y) (o : Option X) → option_map f o ≡ None → o ≡ None
  map_none f None e = refl
  map_none f (Some x) e = absurd (cc)

  kept_none : {X : Type 0} (b : Bool) (x : X) → (if b then None else Some x) ≡ None → b ≡ true
  kept_none true x e = refl
  kept_none false x e = absurd (cc)

  pub against_some : (region : Region) (access : Access) (broken : Option Denial) (blob : Signature) → broken ≡ verdict_without_bytes (seen now []) region page access
      → against now.pages.cache.pager.page_size now.blobs page access broken ≡ Some blob → Against now page access broken blob
  against_some region Read broken blob rule e = absurd (none_is e)
    where
      none_is : None ≡ Some blob → ⊥
      none_is e = cc
  against_some region Write broken blob rule e = absurd (none_is e)
    where
      none_is : None ≡ Some blob → ⊥
      none_is e = cc
  against_some region Execute (Some denial) blob rule e = absurd (none_is e)
    where
      none_is : None ≡ Some blob → ⊥
      none_is e = cc
  against_some region Execute None blob rule e =
      let first = or_both (private_copy (seen now []) region page) (option_or (unsigned (seen now []) page) (option_or (beyond_limit (seen now []) page) (option_or (writable_shared (seen now []) page) None))) (sym rule) in
      let second = or_both (unsigned (seen now []) page) (option_or (beyond_limit (seen now []) page) (option_or (writable_shared (seen now []) page) None)) first.1 in
      let third = or_both (beyond_limit (seen now []) page) (option_or (writable_shared (seen now []) page) None) second.1 in
      let fourth = or_both (writable_shared (seen now []) page) None third.1 in
      by_cover (cover_of now page) refl e third.0 (nobody_writes (map_none (λ id. WritableShared page id) (writer (seen now []) page) fourth.0))
    where
      by_cover : (o : Option Attached) → cover_of now page ≡ o → option_map (λ attached. attached.signature) o ≡ Some blob
          → option_map_or (λ (a : Attached). if is_below_limit now.pages.cache.pager.page_size a.signature page then None else Some (BeyondLimit page)) (cover_of now page) None ≡ None
          → HasNoWriter now.regions.regions now.regions.records page → Against now page Execute None blob
      by_cover None f e within nobody = absurd (none_is e)
        where
          none_is : None ≡ Some blob → ⊥
          none_is e = cc
      by_cover (Some attached) f e within nobody = record {
        executes = refl;
        unbroken = refl;
        attached = attached;
        cover = f;
        own = same e;
        below = kept_none (is_below_limit now.pages.cache.pager.page_size attached.signature page) (BeyondLimit page)
            (sym (ap (λ o. option_map_or (λ (a : Attached). if is_below_limit now.pages.cache.pager.page_size a.signature page then None else Some (BeyondLimit page)) o None) f) ∙ within);
        unwritten = nobody;
      }
        where
          same : Some attached.signature ≡ Some blob → attached.signature ≡ blob
          same e = cc

-- it holds the digests of the page
pub against_holds : (hash : Hash) (now : ObjectNow) (page : ℕ) (access : Access) (broken : Option Denial) (blob : Signature) → IsKept hash now → Against now page access broken blob → Holds now.pages.cache.pager.page_size blob page
against_holds hash now page access broken blob kept is = subst (λ b. Holds now.pages.cache.pager.page_size b page) is.own (record {
  known = kept.sound.sized.size;
  fits = cover_fits hash now page is.attached kept is.cover;
  covered = cover_covers now page is.attached is.cover;
  below = grind (arith, common_steps, is.below);
  directory = (found_has (IsSigned hash now.pages.cache.pager.page_size) (λ (a : Attached). covers now.pages.cache.pager.page_size a.signature page) now.blobs is.attached
      (recursion_from_All (IsSigned hash now.pages.cache.pager.page_size) now.blobs kept.signatures) is.cover).directory;
})

module _ (now : ObjectNow) (page : ℕ) (region : Region) where
  -- an execution that breaks no rule without the bytes of the page is held against a signature
  pub against_there : verdict_without_bytes (seen now []) region page Execute ≡ None → (b : Signature) × (against now.pages.cache.pager.page_size now.blobs page Execute None ≡ Some b)
  against_there none =
      let first = or_both (private_copy (seen now []) region page) (option_or (unsigned (seen now []) page) (option_or (beyond_limit (seen now []) page) (option_or (writable_shared (seen now []) page) None))) none in
      let second = or_both (unsigned (seen now []) page) (option_or (beyond_limit (seen now []) page) (option_or (writable_shared (seen now []) page) None)) first.1 in
      by_cover (cover_of now page) refl second.0
    where
      by_cover : (o : Option Attached) → cover_of now page ≡ o → (if is_some (cover_of now page) then None else Some (Unsigned page)) ≡ None
          → (b : Signature) × (against now.pages.cache.pager.page_size now.blobs page Execute None ≡ Some b)
      by_cover None e signed = absurd (wrong (sym (ap (λ c. if is_some c then None else Some (Unsigned page)) e) ∙ signed))
        where
          wrong : Some (Unsigned page) ≡ None → ⊥
          wrong e = cc
      by_cover (Some attached) e signed = (attached.signature, ap (option_map (λ (a : Attached). a.signature)) e)
