-- A page that an object holds as checked is resident and sealed now.
use Rattle.std.proofs.Common.{◌≡◌, ℕ, true, List, [], Option, Some, None, refl, sym, ap, subst, ◌∙◌, arith}
use Rattle.std.specs.Prelude.{IsTrue, IsSomeAnd, is_some, slice_index_or}
use Rattle.std.proofs.lemmas.Grind.{common_steps}
use Rattle.std.proofs.lemmas.Bool.{false≢true}
use Rattle.std.proofs.lemmas.Option.{get_or_from_slice_get}
use Rattle.std.specs.Option.{option_map}
use Rattle.pg_digest.specs.Kinds.{Hash}
use Rattle.cs_policy.specs.declared.access.Access.TheVariants.{Execute}
use Rattle.pg_cache.specs.Held.{Held}
use Rattle.pg_cache.specs.Cache.{resident_page}
use Rattle.pg_cache.specs.Finds.{Finds}
use Rattle.pg_cache.proofs.GiveFacts.{hand_resident, hand_whole_bytes}
use Rattle.pg_pages.specs.Marks.{Seal, marks_of}
use Rattle.pg_pages.specs.Pages.{IsSealed}
use Rattle.pg_plain.specs.PlainFile.{Attached}
use Rattle.pg_plain.specs.Covers.{is_below_limit, Sealed}
use Rattle.pg_plain.specs.Keep.{IsSealedNow}
use Rattle.pg_object.specs.Object.{ObjectNow, seen, cover_of}
use Rattle.pg_object.specs.Kept.{IsKept}
use Rattle.pg_object.specs.Seals.{seal_for}
use Rattle.pg_object.specs.Checked.{is_checked, AreSealedNow}
use Rattle.pg_object.proofs.CheckedFacts.{checked_resident, checked_validated}
use Rattle.pg_object.proofs.CompareFacts.{sealed_matches}
use Rattle.pg_object.proofs.RuleFacts.{against_holds}

module _ (hash : Hash) (now : ObjectNow) (kept : IsKept hash now) (pages : List (List ℕ)) (finds : Finds now.pages.cache pages) (page : ℕ) where
  -- a resident page that was found sealed, and the signature that covers it
  sealed_by : (held : Held) → resident_page now.pages.cache page ≡ Some held → (seal : Seal) → (marks_of now.pages.marks page).validated ≡ Some seal
      → (attached : Attached) → cover_of now page ≡ Some attached → IsTrue (is_below_limit now.pages.cache.pager.page_size attached.signature page)
      → seal ≡ seal_for now.pages.cache.pager.page_size attached.signature page
      → Sealed hash now.pages.cache.pager.page_size attached.signature page (slice_index_or pages page [])
  sealed_by held there seal found attached cover below own =
      let hand = hand_resident now.pages.cache page held there in
      let holds = against_holds hash now page Execute None attached.signature kept (record {
        executes = refl;
        unbroken = refl;
        attached = attached;
        cover = cover;
        own = refl;
        below = grind (arith, common_steps, below);
        unwritten = λ id writer. none_some seal (sym (kept.seals.unwritten page id writer) ∙ found);
      }) in
      let is_sealed = subst (λ o. IsSomeAnd o (λ (h : Held). IsSealed hash seal h.bytes)) hand ((kept.marked.fit page).valid seal found).sealed in
      let whole = hand_whole_bytes now.pages.cache page held.bytes kept.sound (ap (option_map (λ (h : Held). h.bytes)) hand) in
      subst (λ (bytes : List ℕ). Sealed hash now.pages.cache.pager.page_size attached.signature page bytes) (sym (get_or_from_slice_get pages page held.bytes [] (finds.resident page held there)))
      (record {
        covered = holds.covered;
        below = below;
        matches = sealed_matches hash now.pages.cache.pager.page_size attached.signature page held.bytes holds whole (subst (λ s. IsSealed hash s held.bytes) own is_sealed);
      })
    where
      none_some : (s : Seal) → None ≡ Some s → ⊥
      none_some s e = cc

  sealed_now : is_checked now page ≡ true → IsSealedNow hash (seen now pages) page
  sealed_now there = by_held (resident_page now.pages.cache page) refl (checked_resident now page there) (marks_of now.pages.marks page).validated refl (checked_validated now page there)
    where
      by_cover : (held : Held) → resident_page now.pages.cache page ≡ Some held → (seal : Seal) → (marks_of now.pages.marks page).validated ≡ Some seal
          → (o : Option Attached) → cover_of now page ≡ o
          → IsSomeAnd o (λ attached. IsTrue (is_below_limit now.pages.cache.pager.page_size attached.signature page) × (seal ≡ seal_for now.pages.cache.pager.page_size attached.signature page))
          → IsSomeAnd o (λ attached. Sealed hash now.pages.cache.pager.page_size attached.signature page (slice_index_or pages page []))
      by_cover held e seal f None g signs = signs
      by_cover held e seal f (Some attached) g signs = sealed_by held e seal f attached g signs.0 signs.1

      by_held : (o : Option Held) → resident_page now.pages.cache page ≡ o → is_some o ≡ true → (m : Option Seal) → (marks_of now.pages.marks page).validated ≡ m
          → is_some (marks_of now.pages.marks page).validated ≡ true → IsSealedNow hash (seen now pages) page
      by_held None e resident m f some = absurd (grind (arith, common_steps, resident))
      by_held (Some held) e resident None f some = absurd (grind (arith, common_steps, sym (ap is_some f) ∙ some))
      by_held (Some held) e resident (Some seal) f some = by_cover held e seal f (cover_of now page) refl (kept.seals.signed page seal f)

pub checked_sealed : (hash : Hash) (now : ObjectNow) → IsKept hash now → AreSealedNow hash now
checked_sealed hash now kept pages finds page there = record {
  resident = checked_resident now page there;
  is_sealed = sealed_now hash now kept pages finds page there;
  unwritten = λ id writer. false≢true (sym (ap is_some (kept.seals.unwritten page id writer)) ∙ checked_validated now page there);
}
