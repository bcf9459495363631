-- The object of a file is opened with room for what callers need of it.
use Rattle.std.proofs.Common.{◌≡◌, ℕ, zero, suc, ◌+◌, ◌/◌, ◌≤◌, ◌<◌, ◌⊎◌, inl, inr, List, [], ◌∷◌, ◌++◌, length, drop, Some, None, Result, Ok, Err, refl, sym, ap, subst, ◌∙◌, arith}
use Rattle.std.specs.Prelude.{IfOk, ◌^◌, slice_get, unwrap_or}
use Rattle.std.proofs.lemmas.Grind.{common_steps}
use Rattle.std.proofs.lemmas.List.{length-append}
use Rattle.pg_history.proofs.ListFacts.{get-last, get-before, get-end}
use Rattle.pg_parts.specs.Rooms.{part_needs}
use Rattle.pg_digest.specs.Digests.{sha_hash}
use Rattle.pg_io.specs.MemPages.{MemPagerNow, shown}
use Rattle.cs_policy.specs.declared.layout.Layout.{Layout}
use Rattle.pg_book.specs.declared.needs.Needs.{Needs}
use Rattle.pg_cache.specs.Cache.{CacheNow}
use Rattle.pg_pages.specs.Pages.{PagesNow}
use Rattle.pg_plain.specs.PlainFile.{PlainFile, opened}
use Rattle.pg_regions.specs.RegionsNow.{spare}
use Rattle.pg_calls.specs.Room.{plus, Within}
use Rattle.pg_object.specs.declared.opening.Room.{Room}
use Rattle.pg_object.specs.Object.{ObjectNow}
use Rattle.pg_object.specs.Kept.{IsKept}
use Rattle.pg_object.specs.Opened.{IsOpened}
use Rattle.scene_open.specs.Opening.{limit_of}
use Rattle.scene_run.specs.Needs.{of_each, most_needed}
use Rattle.scene_run.specs.Parts.{IsFileOf, AreFiles}

-- ---- sums within a bound

pub sum-small : (all rest total : Needs) → ◌≡◌ {A = Needs} (plus all rest) total → Within total most_needed → Within all (of_each (2 ^ 62))
sum-small all rest total is within = record {
  entries = omega (arith, ap (λ (n : Needs). n.entries) is, within.entries);
  regions = omega (arith, ap (λ (n : Needs). n.regions) is, within.regions);
  records = omega (arith, ap (λ (n : Needs). n.records) is, within.records);
  copies = omega (arith, ap (λ (n : Needs). n.copies) is, within.copies);
  blobs = omega (arith, ap (λ (n : Needs). n.blobs) is, within.blobs);
  numbers = omega (arith, ap (λ (n : Needs). n.numbers) is, within.numbers);
}

pub next-small : (all first others total : Needs) → ◌≡◌ {A = Needs} (plus all (plus first others)) total → Within total most_needed → Within first (of_each (2 ^ 62))
next-small all first others total is within = record {
  entries = omega (arith, ap (λ (n : Needs). n.entries) is, within.entries);
  regions = omega (arith, ap (λ (n : Needs). n.regions) is, within.regions);
  records = omega (arith, ap (λ (n : Needs). n.records) is, within.records);
  copies = omega (arith, ap (λ (n : Needs). n.copies) is, within.copies);
  blobs = omega (arith, ap (λ (n : Needs). n.blobs) is, within.blobs);
  numbers = omega (arith, ap (λ (n : Needs). n.numbers) is, within.numbers);
}

-- ---- a file

pub both-ok : {X E : Type 0} (r : Result X E) (P Q R : X → Type 0) → ((x : X) → P x → Q x → R x) → IfOk r P → IfOk r Q → IfOk r R
both-ok (Ok x) P Q R all p q = all x p q
both-ok (Err e) P Q R all p q = tt

module _ (resident : ℕ) (needs : Needs) (pager : MemPagerNow) (layout : Layout) where
  abbrev limit : ℕ
  limit = limit_of resident (length pager.bytes / pager.page_size)

  abbrev opened_cache : CacheNow
  opened_cache = record { held = []; limit = limit; spare = None; pager = shown pager }

  pub file-of : (pages : PagesNow) (room : Room) → pages.cache ≡ opened_cache → room.regions ≡ needs.regions → room.records ≡ needs.records → room.copies ≡ needs.copies
      → Within needs most_needed → (object : ObjectNow) → IsOpened pages pager.length layout room object → IsKept sha_hash object → IsFileOf resident needs pager layout object
  file-of pages room cache regions records copies small object is kept = record {
    kept = kept;
    cache = is.cache ∙ cache;
    plain = λ content. is.plain content ∙ ap (λ (c : CacheNow). opened c.pager.page_size pager.length c.limit content layout) cache;
    spare = record {
      regions = subst (λ r. needs.regions ≤ (spare r).regions) (sym is.regions) (omega (arith, regions));
      records = subst (λ r. needs.records ≤ (spare r).records) (sym is.regions) (omega (arith, records));
      copies = subst (λ r. needs.copies ≤ (spare r).copies) (sym is.regions) (omega (arith, copies));
      blobs = omega (arith, small.blobs, ap (λ (f : PlainFile). length f.blobs) (is.plain []));
    };
  }

-- ---- files one after another

some-is : {A : Type 0} (a b : A) → Some a ≡ Some b → a ≡ b
some-is a b is = ap (λ o. unwrap_or o a) is

inside : {A : Type 0} (xs : List A) (k : ℕ) (x : A) → slice_get xs k ≡ Some x → k < length xs
inside [] k x is = absurd (grind (arith, common_steps, is))
inside (a ∷ xs) zero x is = omega arith
inside (a ∷ xs) (suc k) x is = omega (arith, inside xs k x is)

pub drop-at : {A : Type 0} (xs rest : List A) (k : ℕ) (x : A) → drop k xs ≡ x ∷ rest → slice_get xs k ≡ Some x
drop-at [] rest zero x is = absurd (grind (arith, common_steps, is))
drop-at [] rest (suc k) x is = absurd (grind (arith, common_steps, is))
drop-at (a ∷ xs) rest zero x is = ap (λ ys. slice_get ys 0) is
drop-at (a ∷ xs) rest (suc k) x is = drop-at xs rest k x is

pub drop-more : {A : Type 0} (xs rest : List A) (k : ℕ) (x : A) → drop k xs ≡ x ∷ rest → drop (suc k) xs ≡ rest
drop-more [] rest zero x is = absurd (grind (arith, common_steps, is))
drop-more [] rest (suc k) x is = absurd (grind (arith, common_steps, is))
drop-more (a ∷ xs) rest zero x is = ap (λ ys. drop 1 ys) is
drop-more (a ∷ xs) rest (suc k) x is = drop-more xs rest k x is

pub no-files : (resident : ℕ) (needs : List (List Needs)) (layouts : List Layout) → AreFiles resident needs [] layouts []
no-files resident needs layouts = record {
  count = refl;
  each = λ k object pager layout there one other. absurd (omega (arith, inside [] k object there));
}

pub one-more : (resident : ℕ) (needs : List (List Needs)) (layouts : List Layout) (pagers : List MemPagerNow) (files : List ObjectNow) (pager : MemPagerNow) (layout : Layout) (object : ObjectNow)
    → AreFiles resident needs pagers layouts files → slice_get layouts (length pagers) ≡ Some layout → IsFileOf resident (part_needs needs (length files)) pager layout object
    → AreFiles resident needs (pagers ++ pager ∷ []) layouts (files ++ object ∷ [])
one-more resident needs layouts pagers files pager layout object are laid is = record {
  count = length-append files (object ∷ []) ∙ ap (λ n. n + 1) are.count ∙ sym (length-append pagers (pager ∷ []));
  each = λ k o p l there one other. by_place k o p l one other (get-last files object o k there);
}
  where
    by_place : (k : ℕ) (o : ObjectNow) (p : MemPagerNow) (l : Layout) → slice_get (pagers ++ pager ∷ []) k ≡ Some p → slice_get layouts k ≡ Some l
        → (slice_get files k ≡ Some o) ⊎ ((k ≡ length files) × (object ≡ o)) → IsFileOf resident (part_needs needs k) p l o
    by_place k o p l one other (inl before) =
        are.each k o p l before (get-before pagers (pager ∷ []) k p (omega (arith, inside files k o before, are.count)) one) other
    by_place k o p l one other (inr last) =
        let at : k ≡ length pagers = last.0 ∙ are.count in
        let same_pager : pager ≡ p = some-is pager p (sym (get-end pagers pager []) ∙ ap (λ n. slice_get (pagers ++ pager ∷ []) n) (sym at) ∙ one) in
        let same_layout : layout ≡ l = some-is layout l (sym laid ∙ ap (λ n. slice_get layouts n) (sym at) ∙ other) in
        subst (λ n. IsFileOf resident (part_needs needs n) p l o) (sym last.0)
        (subst (λ q. IsFileOf resident (part_needs needs (length files)) q l o) same_pager
        (subst (λ m. IsFileOf resident (part_needs needs (length files)) pager m o) same_layout
        (subst (λ b. IsFileOf resident (part_needs needs (length files)) pager layout b) last.1 is)))
