-- What becomes of the marks of the pages where one is looked at and brought.
use Rattle.std.proofs.Common.{◌≡◌, ℕ, ◌-◌, ◌<◌, ◌==◌, Bool, true, false, List, length, Option, Some, None, refl, sym, ap, subst, ◌∙◌, arith, inl, inr}
use Rattle.std.specs.Prelude.{◌⊎◌, Result, Ok, Err, IsSome, is_some, if◌then◌else◌}
use Rattle.std.specs.Option.{option_map}
use Rattle.std.proofs.lemmas.Grind.{common_steps}
use Rattle.pg_digest.specs.Kinds.{Hash}
use Rattle.cs_policy.specs.declared.denial.Denial.{Denial}
use Rattle.cs_blob.specs.Signature.{Signature}
use Rattle.pg_cache.specs.Held.{Held, find_held}
use Rattle.pg_cache.specs.Cache.{CacheNow, resident_page, at_hand, spare_of, victim, leaver_by, leaver, IsListed, IsSound}
use Rattle.pg_cache.specs.Gives.{has_left, BringGives}
use Rattle.pg_cache.proofs.HeldFacts.{found_page}
use Rattle.pg_cache.proofs.SoundFacts.{kept_find, find_at_place}
use Rattle.pg_cache.specs.declared.fault.PagerFault.{PagerFault}
use Rattle.pg_cache.proofs.GiveFacts.{hand_spare}
use Rattle.pg_pages.specs.Marks.{Seal, Marks, blank, sealed, sealed_at, marks_of}
use Rattle.pg_pages.specs.MarkSteps.{spare_gone, peeked, brought, cleared}
use Rattle.pg_pages.specs.Pages.{PagesNow, IsMarked}
use Rattle.pg_object.specs.Seals.{seal_for}
use Rattle.pg_object.specs.Enters.{found_other, marks_looked}
use Rattle.pg_object.specs.Writes.{IsLess}
use Rattle.pg_object.proofs.MarkFacts.{marked, marked_if, other, goes, unmaps, goes_less, unmaps_less, other_less, marked_other, marked_here, marked_less, length-marked, less_refl, less_same, less_both, gone_less, gone_other, length-gone, unmaps_validated, cleared_validated, cleared_less, length-cleared}

-- ---- a peek

peeked_less : (cache : CacheNow) (page : ℕ) (marks : List Marks) (q : ℕ) → IsLess (marks_of marks q) (marks_of (peeked cache page marks) q)
peeked_less cache page marks q = by_resident (is_some (resident_page cache page))
  where
    by_resident : (b : Bool) → IsLess (marks_of marks q) (marks_of (if b then marks else spare_gone cache marks) q)
    by_resident true = less_refl (marks_of marks q)
    by_resident false = gone_less cache marks q

peeked_still : (cache : CacheNow) (page : ℕ) (marks : List Marks) (q : ℕ) → IsListed cache → is_some (resident_page cache q) ≡ true → marks_of (peeked cache page marks) q ≡ marks_of marks q
peeked_still cache page marks q listed resident = by_resident (is_some (resident_page cache page))
  where
    by_resident : (b : Bool) → marks_of (if b then marks else spare_gone cache marks) q ≡ marks_of marks q
    by_resident true = refl
    by_resident false = gone_other cache marks q listed resident

length-peeked : (cache : CacheNow) (page : ℕ) (marks : List Marks) → length (peeked cache page marks) ≡ length marks
length-peeked cache page marks = by_resident (is_some (resident_page cache page))
  where
    by_resident : (b : Bool) → length (if b then marks else spare_gone cache marks) ≡ length marks
    by_resident true = refl
    by_resident false = length-gone cache marks

-- of a page that is not resident nothing is left
gone_blank : (hash : Hash) (cache : CacheNow) (page : ℕ) (marks : List Marks) → IsMarked hash cache marks → page < cache.pager.pages → resident_page cache page ≡ None → marks_of (spare_gone cache marks) page ≡ blank
gone_blank hash cache page marks has inside absent = by_spare cache.spare refl
  where
    at_none : (o : Option Held) → cache.spare ≡ o → spare_of o page ≡ None → at_hand cache page ≡ None
    at_none o e none = hand_spare cache page absent ∙ ap (λ s. spare_of s page) e ∙ none

    by_spare : (o : Option Held) → cache.spare ≡ o → marks_of (marked_if goes (option_map (λ (h : Held). h.page) o) marks) page ≡ blank
    by_spare None e = (has.fit page).blank (at_none None e refl)
    by_spare (Some h) e = by_test (h.page == page) refl
      where
        by_test : (b : Bool) → (h.page == page) ≡ b → marks_of (marked goes h.page marks) page ≡ blank
        by_test true f =
            let same : h.page ≡ page = grind (arith, common_steps, f) in
            let count = has.count in
            ap (λ n. marks_of (marked goes n marks) page) same ∙ marked_here goes page marks (omega arith)
        by_test false f =
            let apart : (page == h.page) ≡ false = grind (arith, common_steps, f) in
            marked_other goes h.page marks page apart ∙ (has.fit page).blank (at_none (Some h) e (ap (λ b. if b then Some h else None) f))

peeked_blank : (hash : Hash) (cache : CacheNow) (page : ℕ) (marks : List Marks) → IsMarked hash cache marks → page < cache.pager.pages → is_some (resident_page cache page) ≡ false → marks_of (peeked cache page marks) page ≡ blank
peeked_blank hash cache page marks has inside absent =
    ap (λ b. marks_of (if b then marks else spare_gone cache marks) page) absent ∙ gone_blank hash cache page marks has inside (none_of (resident_page cache page) absent)
  where
    none_of : {X : Type 0} (o : Option X) → is_some o ≡ false → o ≡ None
    none_of None e = refl
    none_of (Some x) e = absurd (grind (arith, common_steps, e))

-- ---- what a look leaves

-- the seal that the page was found sealed by, if it was
abbrev pub sealed_by : ℕ → Option Signature → ℕ → Result (Option Denial) PagerFault → Option Seal
sealed_by size (Some blob) page (Ok None) = Some (seal_for size blob page)
sealed_by size (Some blob) page (Ok (Some denial)) = None
sealed_by size (Some blob) page (Err fault) = None
sealed_by size None page noted = None

-- the marks after a page was looked at, or brought: `seal` is what it was found sealed by
pub record Marked (old : PagesNow) (page : ℕ) (seal : Option Seal) (new : List Marks) : Type 0 where
  pub validated : (q : ℕ) (s : Seal) → (marks_of new q).validated ≡ Some s → ((marks_of old.marks q).validated ≡ Some s) ⊎ ((q ≡ page) × (seal ≡ Some s))
  pub writable : (q : ℕ) → (marks_of new q).writable ≡ true → (marks_of old.marks q).writable ≡ true
  pub others : (q : ℕ) → (q == page) ≡ false → is_some (resident_page old.cache q) ≡ true → (marks_of new q).validated ≡ (marks_of old.marks q).validated
  pub here : (s : Seal) → seal ≡ Some s → (marks_of new page).validated ≡ Some s
  pub fresh : seal ≡ None → (s : Seal) → (marks_of new page).validated ≡ Some s → (is_some (resident_page old.cache page) ≡ true) × ((marks_of old.marks page).validated ≡ Some s)

none_some : {X : Type 0} (x : X) → None ≡ Some x → ⊥
none_some x e = cc

both_cases : {P : Type 0} (b : Bool) → (b ≡ true → P) → (b ≡ false → P) → P
both_cases true first second = first refl
both_cases false first second = second refl

module _ (hash : Hash) (old : PagesNow) (page : ℕ) (listed : IsListed old.cache) (is_marked : IsMarked hash old.cache old.marks) (inside : page < old.cache.pager.pages) where
  -- marks that say less, where no mark of a resident page changes
  less_marked : (new : List Marks) → ((q : ℕ) → IsLess (marks_of old.marks q) (marks_of new q))
      → ((q : ℕ) → (q == page) ≡ false → is_some (resident_page old.cache q) ≡ true → (marks_of new q).validated ≡ (marks_of old.marks q).validated)
      → (is_some (resident_page old.cache page) ≡ false → (marks_of new page).validated ≡ None) → Marked old page None new
  less_marked new less others absent = record {
    validated = λ q s e. inl ((less q).validated s e);
    writable = λ q e. (less q).writable e;
    others = others;
    here = λ s e. absurd (none_some s e);
    fresh = λ e s f. (both_cases (is_some (resident_page old.cache page)) (λ g. g) (λ g. absurd (none_some s (sym (absent g) ∙ f))), (less page).validated s f);
  }

  pub peeked_marked : Marked old page None (peeked old.cache page old.marks)
  peeked_marked = less_marked (peeked old.cache page old.marks) (peeked_less old.cache page old.marks)
      (λ q apart resident. ap (λ (m : Marks). m.validated) (peeked_still old.cache page old.marks q listed resident))
      (λ absent. ap (λ (m : Marks). m.validated) (peeked_blank hash old.cache page old.marks is_marked inside absent))

  -- before a comparison
  abbrev ready : List Marks
  ready = peeked old.cache page (cleared old.cache page old.marks)

  ready_less : (q : ℕ) → IsLess (marks_of old.marks q) (marks_of ready q)
  ready_less q = less_both (marks_of old.marks q) (marks_of (cleared old.cache page old.marks) q) (marks_of ready q) (cleared_less old.cache page old.marks q) (peeked_less old.cache page (cleared old.cache page old.marks) q)

  ready_still : (q : ℕ) → is_some (resident_page old.cache q) ≡ true → (marks_of ready q).validated ≡ (marks_of old.marks q).validated
  ready_still q resident = ap (λ (m : Marks). m.validated) (peeked_still old.cache page (cleared old.cache page old.marks) q listed resident) ∙ cleared_validated old.cache page old.marks q

  absent_cleared : is_some (resident_page old.cache page) ≡ false → cleared old.cache page old.marks ≡ old.marks
  absent_cleared absent = ap (λ b. if b then marked unmaps page old.marks else old.marks) absent

  ready_absent : is_some (resident_page old.cache page) ≡ false → marks_of ready page ≡ blank
  ready_absent absent = ap (λ ms. marks_of (peeked old.cache page ms) page) (absent_cleared absent) ∙ peeked_blank hash old.cache page old.marks is_marked inside absent

  ready_unmapped : (marks_of ready page).writable ≡ false
  ready_unmapped = both_cases (is_some (resident_page old.cache page))
      (λ resident. ap (λ (m : Marks). m.writable) (peeked_still old.cache page (cleared old.cache page old.marks) page listed resident)
      ∙ ap (λ b. (marks_of (if b then marked unmaps page old.marks else old.marks) page).writable) resident
      ∙ ap (λ (m : Marks). m.writable) (let count = is_marked.count in marked_here unmaps page old.marks (omega arith)))
      (λ absent. ap (λ (m : Marks). m.writable) (ready_absent absent))

  ready_long : page < length ready
  ready_long = let count = is_marked.count in let one = length-peeked old.cache page (cleared old.cache page old.marks) in let two = length-cleared old.cache page old.marks in omega arith

  pub failed_marked : Marked old page None ready
  failed_marked = less_marked ready ready_less (λ q apart resident. ready_still q resident) (λ absent. ap (λ (m : Marks). m.validated) (ready_absent absent))

  pub differs_marked : Marked old page None (found_other page ready)
  differs_marked = less_marked (found_other page ready)
      (λ q. less_both (marks_of old.marks q) (marks_of ready q) (marks_of (found_other page ready) q) (ready_less q) (marked_less other other_less page ready q))
      (λ q apart resident. ap (λ (m : Marks). m.validated) (marked_other other page ready q apart) ∙ ready_still q resident)
      (λ absent. ap (λ (m : Marks). m.validated) (marked_here other page ready ready_long))

  pub sealed_marked : (seal : Seal) → Marked old page (Some seal) (sealed_at seal page ready)
  sealed_marked seal = record {
    validated = λ q s e. both_cases (q == page)
        (λ f. let same : q ≡ page = grind (arith, common_steps, f) in inr (same, sym validated ∙ ap (λ p. (marks_of (sealed_at seal page ready) p).validated) (sym same) ∙ e))
        (λ f. inl ((ready_less q).validated s (sym (ap (λ (m : Marks). m.validated) (marked_other (sealed seal) page ready q f)) ∙ e)));
    writable = λ q e. both_cases (q == page)
        (λ f. let same : q ≡ page = grind (arith, common_steps, f) in
        (ready_less q).writable (ap (λ p. (marks_of ready p).writable) same ∙ sym (ap (λ (m : Marks). m.writable) (marked_here (sealed seal) page ready ready_long)) ∙ ap (λ p. (marks_of (sealed_at seal page ready) p).writable) (sym same) ∙ e))
        (λ f. (ready_less q).writable (sym (ap (λ (m : Marks). m.writable) (marked_other (sealed seal) page ready q f)) ∙ e));
    others = λ q apart resident. ap (λ (m : Marks). m.validated) (marked_other (sealed seal) page ready q apart) ∙ ready_still q resident;
    here = λ s e. validated ∙ e;
    fresh = λ e. absurd (none_some seal (sym e));
  }
    where
      validated : (marks_of (sealed_at seal page (peeked old.cache page (cleared old.cache page old.marks))) page).validated ≡ Some seal
      validated = ap (λ (m : Marks). m.validated) (marked_here (sealed seal) page ready ready_long) ∙ ap (λ b. if b then None else Some seal) ready_unmapped

  pub looked_marked : (size : ℕ) (blob : Option Signature) (noted : Result (Option Denial) PagerFault) → Marked old page (sealed_by size blob page noted) (marks_looked size old.cache blob page noted old.marks)
  looked_marked size None noted = peeked_marked
  looked_marked size (Some blob) (Ok None) = sealed_marked (seal_for size blob page)
  looked_marked size (Some blob) (Ok (Some denial)) = differs_marked
  looked_marked size (Some blob) (Err fault) = failed_marked

-- ---- what a bring leaves

-- the marks after the page was brought, by what was known before it was looked at
pub record Took (old : PagesNow) (page : ℕ) (seal : Option Seal) (new : PagesNow) : Type 0 where
  pub validated : (q : ℕ) (s : Seal) → (marks_of new.marks q).validated ≡ Some s → ((marks_of old.marks q).validated ≡ Some s) ⊎ ((q ≡ page) × (seal ≡ Some s))
  pub writable : (q : ℕ) → (marks_of new.marks q).writable ≡ true → (marks_of old.marks q).writable ≡ true
  pub stays : (q : ℕ) → (q == page) ≡ false → is_some (resident_page new.cache q) ≡ true → is_some (resident_page old.cache q) ≡ true → (marks_of new.marks q).validated ≡ (marks_of old.marks q).validated
  pub here : (s : Seal) → seal ≡ Some s → (marks_of new.marks page).validated ≡ Some s
  pub same : seal ≡ None → is_some (resident_page old.cache page) ≡ true → (s : Seal) → (marks_of new.marks page).validated ≡ Some s → (marks_of old.marks page).validated ≡ Some s
  pub fresh : seal ≡ None → (s : Seal) → (marks_of new.marks page).validated ≡ Some s → (is_some (resident_page old.cache page) ≡ true) × ((marks_of old.marks page).validated ≡ Some s)
  pub gone : (q : ℕ) → is_some (resident_page old.cache q) ≡ true → is_some (resident_page new.cache q) ≡ false → (marks_of new.marks q).writable ≡ false
  pub arrived : (q : ℕ) → (q == page) ≡ false → is_some (resident_page new.cache q) ≡ true → is_some (resident_page old.cache q) ≡ true
  pub there : is_some (resident_page new.cache page) ≡ true

module _ (hash : Hash) (old seen new : PagesNow) (page : ℕ) (seal : Option Seal) (left : Option ℕ) (held : seen.cache.held ≡ old.cache.held) (before : Marked old page seal seen.marks)
    (sound : IsSound seen.cache) (is_marked : IsMarked hash seen.cache seen.marks) (inside : page < seen.cache.pager.pages) (there : IsSome (at_hand seen.cache page))
    (gives : BringGives seen.cache page (Ok left) new.cache) (marks : new.marks ≡ brought seen.cache page (Ok left) seen.marks) where
  still_resident : (q : ℕ) → is_some (resident_page seen.cache q) ≡ is_some (resident_page old.cache q)
  still_resident q = ap (λ (l : List Held). is_some (find_held l q)) held

  -- the marks, where the page was not resident
  abbrev entered : List Marks
  entered = marked_if goes (leaver seen.cache page) (marked unmaps page seen.marks)

  marks_are : (b : Bool) → is_some (resident_page seen.cache page) ≡ b → new.marks ≡ (if b then seen.marks else entered)
  marks_are b e =
      marks ∙ ap (λ c. if c then seen.marks else marked_if goes left (marked unmaps page (if is_some (at_hand seen.cache page) then seen.marks else spare_gone seen.cache seen.marks))) e
      ∙ ap (λ c. if b then seen.marks else marked_if goes left (marked unmaps page (if c then seen.marks else spare_gone seen.cache seen.marks))) there
      ∙ ap (λ l. if b then seen.marks else marked_if goes l (marked unmaps page seen.marks)) gives.left

  entered_less : (l : Option ℕ) (q : ℕ) → IsLess (marks_of seen.marks q) (marks_of (marked_if goes l (marked unmaps page seen.marks)) q)
  entered_less None q = marked_less unmaps unmaps_less page seen.marks q
  entered_less (Some v) q = less_both (marks_of seen.marks q) (marks_of (marked unmaps page seen.marks) q) (marks_of (marked goes v (marked unmaps page seen.marks)) q)
      (marked_less unmaps unmaps_less page seen.marks q) (marked_less goes goes_less v (marked unmaps page seen.marks) q)

  less : (q : ℕ) → IsLess (marks_of seen.marks q) (marks_of new.marks q)
  less q = by_resident (is_some (resident_page seen.cache page)) refl
    where
      by_resident : (b : Bool) → is_some (resident_page seen.cache page) ≡ b → IsLess (marks_of seen.marks q) (marks_of new.marks q)
      by_resident true e = less_same (marks_of seen.marks q) (marks_of new.marks q) (ap (λ ms. marks_of ms q) (marks_are true e))
      by_resident false e = subst (λ ms. IsLess (marks_of seen.marks q) (marks_of ms q)) (sym (marks_are false e)) (entered_less (leaver seen.cache page) q)

  -- a page that did not leave keeps what was found of it
  entered_still : (l : Option ℕ) (q : ℕ) → has_left l q ≡ false → (marks_of (marked_if goes l (marked unmaps page seen.marks)) q).validated ≡ (marks_of seen.marks q).validated
  entered_still None q e = unmaps_validated page seen.marks q
  entered_still (Some v) q e =
      let apart : (q == v) ≡ false = grind (arith, common_steps, e) in
      ap (λ (m : Marks). m.validated) (marked_other goes v (marked unmaps page seen.marks) q apart) ∙ unmaps_validated page seen.marks q

  still : (q : ℕ) → has_left (leaver seen.cache page) q ≡ false → (marks_of new.marks q).validated ≡ (marks_of seen.marks q).validated
  still q stays = by_resident (is_some (resident_page seen.cache page)) refl
    where
      by_resident : (b : Bool) → is_some (resident_page seen.cache page) ≡ b → (marks_of new.marks q).validated ≡ (marks_of seen.marks q).validated
      by_resident true e = ap (λ ms. (marks_of ms q).validated) (marks_are true e)
      by_resident false e = ap (λ ms. (marks_of ms q).validated) (marks_are false e) ∙ entered_still (leaver seen.cache page) q stays

  -- the page that left was resident, and is not the page that was brought
  left_resident : (v : ℕ) → leaver seen.cache page ≡ Some v → (is_some (resident_page seen.cache page) ≡ false) × (is_some (resident_page seen.cache v) ≡ true)
  left_resident v e = by_held (resident_page seen.cache page) refl (victim seen.cache) refl e
    where
      by_held : (o : Option Held) → resident_page seen.cache page ≡ o → (w : Option Held) → victim seen.cache ≡ w → leaver_by o w ≡ Some v → (is_some (resident_page seen.cache page) ≡ false) × (is_some (resident_page seen.cache v) ≡ true)
      by_held (Some h) f w g e = absurd (none_some v e)
      by_held None f None g e = absurd (none_some v e)
      by_held None f (Some h) g e =
          let same : h.page ≡ v = cc in
          (ap is_some f, ap (λ n. is_some (resident_page seen.cache n)) (sym same) ∙ ap is_some (find_at_place seen.cache.pager.pages seen.cache.pager.told seen.cache.held (seen.cache.limit - 1) h sound.listed.kept g))

  page_stays : has_left (leaver seen.cache page) page ≡ false
  page_stays = by_left (leaver seen.cache page) refl
    where
      by_left : (o : Option ℕ) → leaver seen.cache page ≡ o → has_left o page ≡ false
      by_left None e = refl
      by_left (Some v) e = both_cases (v == page)
          (λ f. let same : v ≡ page = grind (arith, common_steps, f) in let facts = left_resident v e in
          absurd (grind (arith, common_steps, facts.0, sym (ap (λ n. is_some (resident_page seen.cache n)) same) ∙ facts.1)))
          (λ f. f)

  resident_new : (q : ℕ) → (q == page) ≡ false → is_some (resident_page new.cache q) ≡ is_some (if has_left (leaver seen.cache page) q then None else resident_page seen.cache q)
  resident_new q apart = ap is_some (gives.found.others q apart)

  stayed : (q : ℕ) → (q == page) ≡ false → is_some (resident_page new.cache q) ≡ true → has_left (leaver seen.cache page) q ≡ false
  stayed q apart resident = both_cases (has_left (leaver seen.cache page) q)
      (λ e. absurd (grind (arith, common_steps, sym (resident_new q apart ∙ ap (λ b. is_some (if b then None else resident_page seen.cache q)) e) ∙ resident))) (λ e. e)

  pub took : Took old page seal new
  took = record {
    validated = λ q s e. before.validated q s ((less q).validated s e);
    writable = λ q e. before.writable q ((less q).writable e);
    stays = λ q apart resident was. still q (stayed q apart resident) ∙ before.others q apart was;
    here = λ s e. still page page_stays ∙ before.here s e;
    same = λ e was s f. (before.fresh e s ((less page).validated s f)).1;
    fresh = λ e s f. before.fresh e s ((less page).validated s f);
    gone = λ q was absent. gone_of q was absent (q == page) refl;
    arrived = λ q apart resident.
        sym (still_resident q) ∙ sym (ap (λ b. is_some (if b then None else resident_page seen.cache q)) (stayed q apart resident)) ∙ sym (resident_new q apart) ∙ resident;
    there = gives.found.here;
  }
    where
      left_of : (o : Option ℕ) (q : ℕ) → has_left o q ≡ true → o ≡ Some q
      left_of None q e = absurd (grind (arith, common_steps, e))
      left_of (Some v) q e = ap Some (grind (arith, common_steps, e))

      gone_of : (q : ℕ) → is_some (resident_page old.cache q) ≡ true → is_some (resident_page new.cache q) ≡ false → (b : Bool) → (q == page) ≡ b → (marks_of new.marks q).writable ≡ false
      gone_of q was absent true e =
          let same : q ≡ page = grind (arith, common_steps, e) in
          absurd (grind (arith, common_steps, absent, ap (λ n. is_some (resident_page new.cache n)) same ∙ gives.found.here))
      gone_of q was absent false e =
          let left : has_left (leaver seen.cache page) q ≡ true = both_cases (has_left (leaver seen.cache page) q) (λ f. f)
          (λ f. absurd (grind (arith, common_steps, absent, resident_new q e ∙ ap (λ b. is_some (if b then None else resident_page seen.cache q)) f ∙ still_resident q ∙ was))) in
          let one = left_of (leaver seen.cache page) q left in
          let facts = left_resident q one in
          ap (λ ms. (marks_of ms q).writable) (marks_are false facts.0)
          ∙ ap (λ o. (marks_of (marked_if goes o (marked unmaps page seen.marks)) q).writable) one
          ∙ ap (λ (m : Marks). m.writable) (marked_here goes q (marked unmaps page seen.marks) (let count = is_marked.count in let long = length-marked unmaps page seen.marks in let inside_file = within q facts.1 in omega arith))
        where
          within : (q : ℕ) → is_some (resident_page seen.cache q) ≡ true → q < seen.cache.pager.pages
          within q there = by_held (resident_page seen.cache q) refl there
            where
              by_held : (o : Option Held) → resident_page seen.cache q ≡ o → is_some o ≡ true → q < seen.cache.pager.pages
              by_held None e there = absurd (grind (arith, common_steps, there))
              by_held (Some h) e there =
                  let own = (kept_find seen.cache.pager.pages seen.cache.pager.told seen.cache.held q h sound.listed.kept e).inside in
                  let number = found_page seen.cache.held q h e in omega arith
