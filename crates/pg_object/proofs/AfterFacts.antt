-- What is true of every object is true after a call that changes its pages, records and copies.
use Rattle.std.proofs.Common.{◌≡◌, ℕ, Bool, true, false, List, Option, Some, None, refl, sym, ap, subst, ◌∙◌, arith, inl, inr}
use Rattle.std.specs.Prelude.{All, IsTrue, ◌⊎◌, IsSomeAnd, find, is_some}
use Rattle.std.proofs.lemmas.Grind.{common_steps}
use Rattle.pg_digest.specs.Kinds.{Hash}
use Rattle.pg_io.specs.MemPages.{pages_reached}
use Rattle.cs_policy.specs.declared.file.FileEvent.{FileEvent}
use Rattle.cs_policy.specs.declared.file.FileReply.{FileReply}
use Rattle.pg_cache.specs.Cache.{resident_page, KeepsSizes}
use Rattle.pg_cache.specs.Cache as cache
use Rattle.pg_pages.specs.Marks.{Seal, marks_of}
use Rattle.pg_pages.specs.Pages.{PagesNow, IsMarked}
use Rattle.pg_regions.specs.Lookups.{IsWriter}
use Rattle.pg_regions.specs.RegionsNow.{RegionsNow, IsSound}
use Rattle.pg_plain.specs.PlainFile.{Attached}
use Rattle.pg_plain.specs.Covers.{Fits, covers, is_below_limit}
use Rattle.pg_object.specs.Object.{ObjectNow, object_of}
use Rattle.pg_object.specs.Seals.{seal_for, MarksAgree}
use Rattle.pg_object.specs.Kept.{IsInside, IsSigned, IsKept}
use Rattle.pg_object.specs.Acts.{Acts}
use Rattle.pg_object.specs.Writes.{IsLess}
use Rattle.pg_object.proofs.KeepFacts.{keep_after}
use Rattle.pg_object.proofs.MarkFacts.{less_none}

-- the object with these pages and regions
abbrev pub with_parts : ObjectNow → PagesNow → RegionsNow → ObjectNow
with_parts old pages regions = object_of pages regions old.blobs old.length old.layout

-- what a seal is of a page, where its size and the signatures stay
abbrev pub Signs : List Attached → ℕ → ℕ → Seal → Type 0
Signs blobs size page seal = IsSomeAnd (find (λ attached. covers size attached.signature page) blobs) (λ attached.
    IsTrue (is_below_limit size attached.signature page) × (seal ≡ seal_for size attached.signature page))

pub signs_still : (old : ObjectNow) (pages : PagesNow) (regions : RegionsNow) (page : ℕ) (seal : Seal) → KeepsSizes old.pages.cache pages.cache
    → Signs old.blobs old.pages.cache.pager.page_size page seal → Signs old.blobs pages.cache.pager.page_size page seal
signs_still old pages regions page seal sizes signs = subst (λ s. Signs old.blobs s page seal) (sym sizes.page_size) signs

module _ (hash : Hash) (old : ObjectNow) (pages : PagesNow) (regions : RegionsNow) (e : FileEvent) (answer : FileReply)
    (kept : IsKept hash old) (acts : Acts hash old e None answer (with_parts old pages regions)) where
  pub kept_after : cache.IsSound pages.cache → IsMarked hash pages.cache pages.marks → IsSound regions → regions.page ≡ old.regions.page → regions.regions ≡ old.regions.regions
      → MarksAgree (with_parts old pages regions) → IsKept hash (with_parts old pages regions)
  kept_after sound marked regions_sound page same seals = record {
    keep = keep_after hash old (with_parts old pages regions) e None answer kept acts tt;
    sound = sound;
    marked = marked;
    regions_sound = regions_sound;
    page = page ∙ kept.page ∙ sym acts.sizes.page_size;
    seals = seals;
    reached = acts.sizes.pages ∙ kept.reached ∙ ap (λ s. pages_reached s old.length) (sym acts.sizes.page_size);
    laid = kept.laid;
    inside = subst (λ n. All (IsInside n) regions.regions) (sym acts.sizes.pages) (subst (All (IsInside old.pages.cache.pager.pages)) (sym same) kept.inside);
    signatures = subst (λ s. All (IsSigned hash s) old.blobs) (sym acts.sizes.page_size) kept.signatures;
    fits = subst (λ s. All (λ attached. Fits s attached.signature) old.blobs) (sym acts.sizes.page_size) kept.fits;
    few_blobs = kept.few_blobs;
  }

-- ---- marks that say less

module _ (old : ObjectNow) (pages : PagesNow) (regions : RegionsNow) (sizes : KeepsSizes old.pages.cache pages.cache) (seals : MarksAgree old)
    (less : (page : ℕ) → IsLess (marks_of old.pages.marks page) (marks_of pages.marks page)) where
  pub seals_less : ((page : ℕ) → is_some (resident_page pages.cache page) ≡ false → (is_some (resident_page old.pages.cache page) ≡ false) ⊎ ((marks_of pages.marks page).writable ≡ false))
      → ((page id : ℕ) → IsWriter regions.regions regions.records page id → IsWriter old.regions.regions old.regions.records page id)
      → MarksAgree (with_parts old pages regions)
  seals_less resident writers = record {
    signed = λ page seal e. signs_still old pages regions page seal sizes (seals.signed page seal ((less page).validated seal e));
    unmapped = λ page none. by_mark page none (marks_of pages.marks page).writable refl;
    unwritten = λ page id writer. less_none (marks_of old.pages.marks page) (marks_of pages.marks page) (less page) (seals.unwritten page id (writers page id writer));
  }
    where
      none_of : {X : Type 0} (o : Option X) → is_some o ≡ false → o ≡ None
      none_of None e = refl
      none_of (Some x) e = absurd (grind (arith, common_steps, e))

      by_mark : (page : ℕ) → resident_page pages.cache page ≡ None → (b : Bool) → (marks_of pages.marks page).writable ≡ b → b ≡ false
      by_mark page none false e = refl
      by_mark page none true e = by_either (resident page (ap is_some none))
        where
          by_either : (is_some (resident_page old.pages.cache page) ≡ false) ⊎ ((marks_of pages.marks page).writable ≡ false) → true ≡ false
          by_either (inl gone) = sym ((less page).writable e) ∙ seals.unmapped page (none_of (resident_page old.pages.cache page) gone)
          by_either (inr clear) = sym e ∙ clear
