-- What is required where a fault takes and gives a page: the page is inside the file, and at hand for its region.
use Rattle.std.proofs.Common.{◌≡◌, ℕ, ◌+◌, ◌<◌, true, false, [], Option, Some, None, refl, sym, ap, subst, ◌∙◌, arith, inl}
use Rattle.std.specs.Prelude.{IsTrue, IsSome, IsSomeAnd, IfSome, is_some}
use Rattle.std.specs.Option.{option_map, option_copied}
use Rattle.std.specs.Borrow.{Bor}
use Rattle.std.proofs.lemmas.Grind.{common_steps}
use Rattle.std.proofs.lemmas.List.Elements.{recursion_from_All}
use Rattle.pg_digest.specs.Kinds.{Hash}
use Rattle.cs_policy.specs.declared.access.Access.{Access}
use Rattle.cs_policy.specs.declared.denial.Denial.{Denial}
use Rattle.cs_policy.specs.declared.region.Region.{Region}
use Rattle.cs_blob.specs.Signature.{Signature}
use Rattle.pg_cache.proofs.Laws.{some_pages, some_finds}
use Rattle.pg_regions.specs.Lookups.{Copy, is_region, has_page, region_of, copy_of, bytes_of}
use Rattle.pg_regions.proofs.ListFacts.{found_passes, found_has}
use Rattle.pg_plain.specs.PlainFile.{having}
use Rattle.pg_plain.specs.Verdict.{verdict_without_bytes}
use Rattle.pg_object.specs.Object.{ObjectNow, seen}
use Rattle.pg_object.specs.Kept.{IsInside, IsKept}
use Rattle.pg_object.specs.Enters.{Holds, IsAtHand, against}
use Rattle.pg_object.proofs.GiveFacts.{has_of}
use Rattle.pg_object.proofs.RuleFacts.{against_some, against_holds}

module _ (hash : Hash) (old : ObjectNow) (kept : IsKept hash old) (id page : ℕ) (region : Region) (stands : having page (region_of old.regions.regions id) ≡ Some region) where
  found : (region_of old.regions.regions id ≡ Some region) × IsTrue (has_page page region)
  found = has_of page (region_of old.regions.regions id) region stands

  own_id : region.id ≡ id
  own_id = grind (arith, common_steps, found_passes (is_region id) old.regions.regions region found.0)

  pub own_stands : having page (region_of old.regions.regions region.id) ≡ Some region
  own_stands = ap (λ i. having page (region_of old.regions.regions i)) own_id ∙ stands

  pub inside_file : page < old.pages.cache.pager.pages
  inside_file =
      let within = found_has (IsInside old.pages.cache.pager.pages) (is_region id) old.regions.regions region (recursion_from_All (IsInside old.pages.cache.pager.pages) old.regions.regions kept.inside) found.0 in
      let has : page < region.first + region.pages = grind (arith, common_steps, found.1) in
      omega arith

  -- a private copy is at hand
  pub copy_at_hand : is_some (bytes_of old.regions.copies id page) ≡ true → IsAtHand old.pages.cache old.regions region page
  copy_at_hand copy =
      let keep = kept.keep (some_pages old.pages.cache) (some_finds old.pages.cache kept.sound) in
      inl (
        (subst (λ (o : Option Region). IsSomeAnd o (λ r. IsTrue (has_page page r) × (r.shared ≡ false))) found.0 (keep.private_copies id page copy)).1,
        by_copy (copy_of old.regions.copies region.id page) (ap (λ i. is_some (bytes_of old.regions.copies i page)) own_id ∙ copy),
      )
    where
      by_copy : (o : Option Copy) → is_some (option_map (λ (c : Copy). c.bytes) o) ≡ true → IsSome o
      by_copy None e = absurd (grind (arith, common_steps, e))
      by_copy (Some c) e = refl

  -- the signature that is lent for the page holds its digests
  pub lent_holds : (access : Access) (broken : Option Denial) → broken ≡ verdict_without_bytes (seen old []) region page access
      → (lent : Option (Bor Signature)) → option_copied lent ≡ against old.pages.cache.pager.page_size old.blobs page access broken
      → IfSome lent (λ blob. Holds old.pages.cache.pager.page_size blob.now page)
  lent_holds access broken rule None is = tt
  lent_holds access broken rule (Some blob) is =
      against_holds hash old page access broken blob.now kept (against_some old page kept.regions_sound region access broken blob.now rule (sym is))
