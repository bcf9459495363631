-- Which marks of pages a call leaves, and which pages are checked then.
use Rattle.std.proofs.Common.{◌≡◌, ℕ, true, false, List, Option, Some, None, refl, sym, ap, subst, ◌∙◌, arith, not, inl, inr}
use Rattle.std.specs.Prelude.{◌⊎◌, ◌&&◌, All, IsTrue, IsSomeAnd, find, is_some}
use Rattle.std.proofs.lemmas.Grind.{common_steps}
use Rattle.pg_digest.specs.Kinds.{Hash}
use Rattle.pg_io.specs.MemPages.{pages_reached}
use Rattle.cs_policy.specs.declared.file.FileEvent.{FileEvent}
use Rattle.cs_policy.specs.declared.file.FileReply.{FileReply}
use Rattle.cs_blob.specs.Signature.{Signature}
use Rattle.pg_cache.specs.Cache.{resident_page}
use Rattle.pg_cache.specs.Cache as cache
use Rattle.pg_pages.specs.Marks.{Seal, marks_of}
use Rattle.pg_pages.specs.Pages.{PagesNow, IsMarked}
use Rattle.pg_regions.specs.Lookups.{IsWriter}
use Rattle.pg_regions.specs.RegionsNow.{RegionsNow}
use Rattle.pg_plain.specs.PlainFile.{Attached}
use Rattle.pg_plain.specs.Covers.{Fits, covers, is_below_limit}
use Rattle.pg_object.specs.Object.{ObjectNow}
use Rattle.pg_object.specs.Seals.{seal_for, MarksAgree}
use Rattle.pg_object.specs.Kept.{IsInside, IsSigned, IsKept}
use Rattle.pg_object.specs.Acts.{Acts}
use Rattle.pg_object.specs.Checked.{is_validated, is_resident, takes_out, KeepsChecked}
use Rattle.pg_object.proofs.KeepFacts.{keep_after}
use Rattle.pg_object.proofs.CheckedFacts.{checked_is}
use Rattle.pg_object.proofs.QuietFacts.{Does, Fewer}

-- ---- what becomes of the marks of a page

-- they say the same, and the page is resident where it was
pub record Same (old new : ObjectNow) (page : ℕ) : Type 0 where
  pub validated : (marks_of new.pages.marks page).validated ≡ (marks_of old.pages.marks page).validated
  pub writable : (marks_of new.pages.marks page).writable ≡ (marks_of old.pages.marks page).writable
  pub resident : is_resident new page ≡ is_resident old page

-- they are gone, and the page is not resident
pub record Gone (new : ObjectNow) (page : ℕ) : Type 0 where
  pub validated : (marks_of new.pages.marks page).validated ≡ None
  pub writable : (marks_of new.pages.marks page).writable ≡ false
  pub absent : is_resident new page ≡ false

abbrev pub Fates : ObjectNow → ObjectNow → Type 0
Fates old new = (page : ℕ) → Same old new page ⊎ Gone new page

pub same_fates : (old new : ObjectNow) → new.pages ≡ old.pages → Fates old new
same_fates old new same page = inl (record {
  validated = ap (λ (p : PagesNow). (marks_of p.marks page).validated) same;
  writable = ap (λ (p : PagesNow). (marks_of p.marks page).writable) same;
  resident = ap (λ (p : PagesNow). is_some (resident_page p.cache page)) same;
})

none_of : {X : Type 0} (o : Option X) → is_some o ≡ false → o ≡ None
none_of None e = refl
none_of (Some x) e = absurd (cc)

some_of : {X : Type 0} (o : Option X) → o ≡ None → is_some o ≡ false
some_of o e = ap is_some e

module _ (old new : ObjectNow) (fates : Fates old new) where
  validated_was : (page : ℕ) (seal : Seal) → (marks_of new.pages.marks page).validated ≡ Some seal → (marks_of old.pages.marks page).validated ≡ Some seal
  validated_was page seal e = by_fate (fates page)
    where
      by_fate : Same old new page ⊎ Gone new page → (marks_of old.pages.marks page).validated ≡ Some seal
      by_fate (inl same) = sym same.validated ∙ e
      by_fate (inr gone) = absurd (let none = sym gone.validated ∙ e in cc)

  -- the marks say what the signatures and the records say, where these stay and no region more may write a page
  pub fates_sealed : MarksAgree old → new.pages.cache.pager.page_size ≡ old.pages.cache.pager.page_size → new.blobs ≡ old.blobs
      → ((page id : ℕ) → IsWriter new.regions.regions new.regions.records page id → IsWriter old.regions.regions old.regions.records page id) → MarksAgree new
  fates_sealed seals size blobs writers = record {
    signed = λ page seal e.
        subst (λ (n : ℕ). IsSomeAnd (find (λ (attached : Attached). covers n attached.signature page) new.blobs) (λ attached. IsTrue (is_below_limit n attached.signature page) × (seal ≡ seal_for n attached.signature page))) (sym size)
        (subst (λ (b : List Attached). IsSomeAnd (find (λ (attached : Attached). covers old.pages.cache.pager.page_size attached.signature page) b) (λ attached. IsTrue (is_below_limit old.pages.cache.pager.page_size attached.signature page) × (seal ≡ seal_for old.pages.cache.pager.page_size attached.signature page))) (sym blobs)
        (seals.signed page seal (validated_was page seal e)));
    unmapped = λ page none. unmapped_by page none (fates page);
    unwritten = λ page id writer. unwritten_by page id writer (fates page);
  }
    where
      unmapped_by : (page : ℕ) → resident_page new.pages.cache page ≡ None → Same old new page ⊎ Gone new page → (marks_of new.pages.marks page).writable ≡ false
      unmapped_by page none (inl same) = same.writable ∙ seals.unmapped page (none_of (resident_page old.pages.cache page) (sym same.resident ∙ some_of (resident_page new.pages.cache page) none))
      unmapped_by page none (inr gone) = gone.writable

      unwritten_by : (page id : ℕ) → IsWriter new.regions.regions new.regions.records page id → Same old new page ⊎ Gone new page → (marks_of new.pages.marks page).validated ≡ None
      unwritten_by page id writer (inl same) = same.validated ∙ seals.unwritten page id (writers page id writer)
      unwritten_by page id writer (inr gone) = gone.validated

  -- the pages that were checked are checked where they are resident still, and no others are
  pub fates_checked : (e : FileEvent) (answer : FileReply) → ((page : ℕ) → takes_out old e answer page ≡ false) → KeepsChecked old e answer new
  fates_checked e answer stays = record {
    stays = λ page was.
        checked_is new page ∙ stays_by page (sym (checked_is old page) ∙ was) (fates page)
        ∙ sym (ap (λ b. not b && is_resident new page) (stays page));
    comes = λ page was_not is. absurd (let wrong = comes_by page (sym (checked_is old page) ∙ was_not) (sym (checked_is new page) ∙ is) (fates page) in cc);
  }
    where
      stays_by : (page : ℕ) → (is_resident old page && is_validated old page) ≡ true → Same old new page ⊎ Gone new page → (is_resident new page && is_validated new page) ≡ is_resident new page
      stays_by page was (inl same) =
          let validated : is_validated new page ≡ is_validated old page = ap is_some same.validated in
          let there : is_validated old page ≡ true = grind (arith, common_steps, was) in
          grind (arith, common_steps, validated, there)
      stays_by page was (inr gone) = let none = gone.absent in grind (arith, common_steps, none)

      comes_by : (page : ℕ) → (is_resident old page && is_validated old page) ≡ false → (is_resident new page && is_validated new page) ≡ true → Same old new page ⊎ Gone new page → false ≡ true
      comes_by page was_not is (inl same) =
          let validated : is_validated new page ≡ is_validated old page = ap is_some same.validated in
          let there = same.resident in
          sym was_not ∙ ap (λ b. b && is_validated old page) (sym there) ∙ ap (λ b. is_resident new page && b) (sym validated) ∙ is
      comes_by page was_not is (inr gone) = sym (ap (λ b. b && is_validated new page) gone.absent) ∙ is

-- ---- a call on the pages and regions of an object

-- the object with other pages and regions
abbrev pub with_parts : ObjectNow → PagesNow → RegionsNow → ObjectNow
with_parts old pages regions = record old { pages = pages; regions = regions }

pub does_parts : (hash : Hash) (old : ObjectNow) (now : PagesNow) (regions : RegionsNow) (e : FileEvent) (answer : FileReply) → IsKept hash old
    → Acts hash old e None answer (with_parts old now regions) → cache.IsSound now.cache → IsMarked hash now.cache now.marks → now.calls ≡ old.pages.calls
    → Fates old (with_parts old now regions) → Fewer old regions → ((page : ℕ) → takes_out old e answer page ≡ false) → Does hash old e None answer (with_parts old now regions)
does_parts hash old now regions e answer kept acts sound marked counted fates fewer untaken = record {
  acts = acts;
  checked = fates_checked old (with_parts old now regions) fates e answer untaken;
  unhashed = counted;
  kept = record {
    keep = keep_after hash old (with_parts old now regions) e None answer kept acts tt;
    sound = sound;
    marked = marked;
    regions_sound = fewer.sound;
    page = fewer.page ∙ kept.page ∙ sym acts.sizes.page_size;
    seals = fates_sealed old (with_parts old now regions) fates kept.seals acts.sizes.page_size refl fewer.writers;
    reached = acts.sizes.pages ∙ kept.reached ∙ ap (λ n. pages_reached n old.length) (sym acts.sizes.page_size);
    laid = kept.laid;
    inside = subst (λ n. All (IsInside n) regions.regions) (sym acts.sizes.pages) fewer.inside;
    signatures = subst (λ n. All (IsSigned hash n) old.blobs) (sym acts.sizes.page_size) kept.signatures;
    fits = subst (λ n. All (λ (attached : Attached). Fits n attached.signature) old.blobs) (sym acts.sizes.page_size) kept.fits;
    few_blobs = kept.few_blobs;
  };
}

-- regions that stay
pub fewer_same : (hash : Hash) (old : ObjectNow) → IsKept hash old → Fewer old old.regions
fewer_same hash old kept = record { sound = kept.regions_sound; page = refl; inside = kept.inside; writers = λ page id writer. writer }

-- ---- from an object that is seen as another value that is the same

pub does_from : (hash : Hash) (old now new : ObjectNow) (e : FileEvent) (blob : Option Signature) (answer : FileReply) → old ≡ now → Does hash old e blob answer new → Does hash now e blob answer new
does_from hash old now new e blob answer same does = subst (λ (o : ObjectNow). Does hash o e blob answer new) same does
