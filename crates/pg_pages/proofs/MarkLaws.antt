-- For the layer above: what is kept of each page after a call, from what the call says of the marks.
use Rattle.std.proofs.Common.{◌≡◌, ◌≢◌, ℕ, ◌<◌, ◌≤◌, ◌⊎◌, List, length, Bool, true, false, Option, Some, None, refl, ap, sym, subst, ◌∙◌, arith, inl, inr}
use Rattle.std.specs.Prelude.{IsSomeAnd, is_some, if◌then◌else◌}
use Rattle.std.specs.Option.{option_map}
use Rattle.pg_digest.specs.Kinds.{Hash}
use Rattle.pg_cache.specs.Held.{Held}
use Rattle.pg_cache.specs.Cache.{CacheNow, resident_page}
use Rattle.pg_pages.specs.declared.row.Row.{Row}
use Rattle.pg_pages.specs.declared.row.Row.TheVariants.{Changed, Goes}
use Rattle.pg_pages.specs.Marks.{Marks, blank, after, marks_of, marked, marked_if}
use Rattle.pg_pages.specs.MarkSteps.{spare_gone, peeked}
use Rattle.pg_pages.specs.Pages.{IsMarked}
use Rattle.pg_pages.proofs.MarkFacts.{marked_here, marked_other, gone_blank, same_or, SpareBlank, spare_blank, absent_blank}

-- the page went, and with it what was kept of it
abbrev pub GoesAt : ℕ → List Marks → List Marks → Type 0
GoesAt page old new = new ≡ marked Goes page old

-- the page changed
abbrev pub ChangesAt : ℕ → List Marks → List Marks → Type 0
ChangesAt page old new = new ≡ marked Changed page old

module _ (old new : List Marks) (page : ℕ) where
  -- ---- a page that went

  module _ (goes : GoesAt page old new) where
    pub gone_here : marks_of new page ≡ blank
    gone_here = ap (λ m. marks_of m page) goes ∙ gone_blank page old

    pub gone_other : (q : ℕ) → q ≢ page → marks_of new q ≡ marks_of old q
    gone_other q apart = ap (λ m. marks_of m q) goes ∙ marked_other Goes page q old apart

  -- ---- a page that changed

  module _ (changes : ChangesAt page old new) where
    pub changed_here : page < length old → marks_of new page ≡ record { validated = None; tainted = false; writable = (marks_of old page).writable }
    changed_here inside = ap (λ m. marks_of m page) changes ∙ marked_here Changed page old inside

    pub changed_other : (q : ℕ) → q ≢ page → marks_of new q ≡ marks_of old q
    changed_other q apart = ap (λ m. marks_of m q) changes ∙ marked_other Changed page q old apart

-- ---- a page that makes way in the spare buffer

-- the same is kept of a page, or it stood in the spare buffer, and nothing is
abbrev pub KeepsOrGoes : CacheNow → List Marks → List Marks → ℕ → Type 0
KeepsOrGoes cache old new q =
    (marks_of new q ≡ marks_of old q) ⊎ (IsSomeAnd cache.spare (λ held. held.page ≡ q) × (marks_of new q ≡ blank))

spare_goes : (cache : CacheNow) (old : List Marks) (q : ℕ) → KeepsOrGoes cache old (spare_gone cache old) q
spare_goes cache old q = by_spare cache.spare
  where
    by_spare : (o : Option Held) → (marks_of (marked_if Goes (option_map (λ (held : Held). held.page) o) old) q ≡ marks_of old q)
        ⊎ (IsSomeAnd o (λ held. held.page ≡ q) × (marks_of (marked_if Goes (option_map (λ (held : Held). held.page) o) old) q ≡ blank))
    by_spare None = inl refl
    by_spare (Some held) = by_page (same_or q held.page)
      where
        by_page : (q ≡ held.page) ⊎ (q ≢ held.page) → (marks_of (marked Goes held.page old) q ≡ marks_of old q) ⊎ ((held.page ≡ q) × (marks_of (marked Goes held.page old) q ≡ blank))
        by_page (inl same) = inr (sym same, ap (marks_of (marked Goes held.page old)) same ∙ gone_blank held.page old)
        by_page (inr apart) = inl (marked_other Goes held.page q old apart)

-- after a peek
pub peeked_keeps : (cache : CacheNow) (old new : List Marks) (page : ℕ) → new ≡ peeked cache page old → (q : ℕ) → KeepsOrGoes cache old new q
peeked_keeps cache old new page is q = by_resident (is_some (resident_page cache page)) is
  where
    by_resident : (b : Bool) → new ≡ (if b then old else spare_gone cache old) → KeepsOrGoes cache old new q
    by_resident true e = inl (ap (λ m. marks_of m q) e)
    by_resident false e = by_case (spare_goes cache old q)
      where
        by_case : KeepsOrGoes cache old (spare_gone cache old) q → KeepsOrGoes cache old new q
        by_case (inl same) = inl (ap (λ m. marks_of m q) e ∙ same)
        by_case (inr gone) = inr (gone.0, ap (λ m. marks_of m q) e ∙ gone.1)

-- where no page is resident, and what was found of the page in the spare buffer is forgotten, nothing is kept of any page
pub forgotten_blank : (hash : Hash) (cache : CacheNow) (old new : List Marks) → new ≡ spare_gone cache old → IsMarked hash cache new
    → ((q : ℕ) → resident_page cache q ≡ None) → (q : ℕ) → marks_of new q ≡ blank
forgotten_blank hash cache old new is marked none q =
    absent_blank hash cache new q marked (subst (SpareBlank hash cache) (sym is) (spare_blank hash cache old)) (none q)
