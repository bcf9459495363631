-- Each call leaves marks that are true of the pages.
use Rattle.std.proofs.Common.{◌≡◌, ◌≢◌, ℕ, zero, suc, ◌<◌, ◌≤◌, ◌==◌, List, [], ◌∷◌, length, get_or, Bool, true, false, Some, None, refl, ap, sym, subst, ◌∙◌, arith, inl, inr}
use Rattle.std.specs.Prelude.{◌⊎◌, Option, IfSome, IsSome, IsSomeAnd, is_some, nat_lt, slice_set, if◌then◌else◌}
use Rattle.std.specs.Option.{option_map}
use Rattle.std.proofs.lemmas.Grind.{common_steps}
use Rattle.std.proofs.lemmas.Bool.Decides.{nat_tests}
use Rattle.std.proofs.Math.ListN.{length-set}
use Rattle.pg_digest.specs.Kinds.{Hash}
use Rattle.pg_cache.specs.Held.{Held, find_held}
use Rattle.pg_cache.specs.Cache.{CacheNow, resident_page, in_spare, spare_of, at_hand, or_else, IsSound}
use Rattle.pg_cache.proofs.HeldFacts.{found_page}
use Rattle.pg_cache.proofs.SoundFacts.{kept_find}
use Rattle.pg_cache.proofs.GiveFacts.{hand_resident, hand_spare, spare_found}
use Rattle.pg_pages.specs.declared.row.Row.{Row}
use Rattle.pg_pages.specs.declared.row.Row.TheVariants.{Enters, Goes}
use Rattle.pg_pages.specs.Marks.{Seal, Marks, blank, sealed, after, marks_of, marked, marked_if, sealed_at}
use Rattle.pg_pages.specs.MarkSteps.{spare_gone}
use Rattle.pg_pages.specs.Pages.{IsSealed, IsValid, IsFit, IsMarked}

-- ---- the marks of one page after another's, or its own, were set

set_at : (marks : List Marks) (page : ℕ) (m : Marks) → page < length marks → get_or (slice_set marks page m) page blank ≡ m
set_at [] page m inside = absurd (omega arith)
set_at (x ∷ xs) zero m inside = refl
set_at (x ∷ xs) (suc page) m inside = set_at xs page m (omega arith)

set_other : (marks : List Marks) (page q : ℕ) (m : Marks) → q ≢ page → get_or (slice_set marks page m) q blank ≡ get_or marks q blank
set_other [] page q m apart = refl
set_other (x ∷ xs) zero zero m apart = absurd (apart refl)
set_other (x ∷ xs) zero (suc q) m apart = refl
set_other (x ∷ xs) (suc page) zero m apart = refl
set_other (x ∷ xs) (suc page) (suc q) m apart = set_other xs page q m (λ e. apart (ap suc e))

none_set : (marks : List Marks) (page : ℕ) (m : Marks) → length marks ≤ page → get_or (slice_set marks page m) page blank ≡ blank
none_set [] page m past = refl
none_set (x ∷ xs) zero m past = absurd (omega arith)
none_set (x ∷ xs) (suc page) m past = none_set xs page m (omega arith)

pub set_same : (marks : List Marks) (page : ℕ) (m : Marks) → m ≡ get_or marks page blank → slice_set marks page m ≡ marks
set_same [] page m same = refl
set_same (x ∷ xs) zero m same = ap (λ (y : Marks). y ∷ xs) same
set_same (x ∷ xs) (suc page) m same = ap (λ (l : List Marks). x ∷ l) (set_same xs page m same)

pub marked_here : (row : Row) (page : ℕ) (marks : List Marks) → page < length marks → marks_of (marked row page marks) page ≡ after row (marks_of marks page)
marked_here row page marks inside = set_at marks page (after row (marks_of marks page)) inside

pub marked_other : (row : Row) (page q : ℕ) (marks : List Marks) → q ≢ page → marks_of (marked row page marks) q ≡ marks_of marks q
marked_other row page q marks apart = set_other marks page q (after row (marks_of marks page)) apart

pub sealed_here : (seal : Seal) (page : ℕ) (marks : List Marks) → page < length marks → marks_of (sealed_at seal page marks) page ≡ sealed seal (marks_of marks page)
sealed_here seal page marks inside = set_at marks page (sealed seal (marks_of marks page)) inside

pub sealed_other : (seal : Seal) (page q : ℕ) (marks : List Marks) → q ≢ page → marks_of (sealed_at seal page marks) q ≡ marks_of marks q
sealed_other seal page q marks apart = set_other marks page q (sealed seal (marks_of marks page)) apart

-- a page that goes has blank marks, wherever it is
pub gone_blank : (page : ℕ) (marks : List Marks) → marks_of (marked Goes page marks) page ≡ blank
gone_blank page marks = gone_of marks page
  where
    gone_of : (marks : List Marks) (page : ℕ) → get_or (slice_set marks page blank) page blank ≡ blank
    gone_of [] page = refl
    gone_of (x ∷ xs) zero = refl
    gone_of (x ∷ xs) (suc page) = gone_of xs page

pub length-marked : (row : Row) (page : ℕ) (marks : List Marks) → length (marked row page marks) ≡ length marks
length-marked row page marks = length-set marks page (after row (marks_of marks page))

pub length-marked_if : (row : Row) (page : Option ℕ) (marks : List Marks) → length (marked_if row page marks) ≡ length marks
length-marked_if row None marks = refl
length-marked_if row (Some page) marks = length-marked row page marks

-- there is none
pub none_of : (o : Option Held) → is_some o ≡ false → o ≡ None
none_of None e = refl
none_of (Some h) e = absurd (cc)

-- a resident page is one of the file's, and at hand
pub resident_inside : (cache : CacheNow) (page : ℕ) → IsSound cache → IsSome (resident_page cache page) → page < cache.pager.pages
resident_inside cache page sound there = inside_of (resident_page cache page) refl there
  where
    inside_of : (o : Option Held) → resident_page cache page ≡ o → IsSome o → page < cache.pager.pages
    inside_of None e s = absurd (cc)
    inside_of (Some h) e s = subst (λ p. p < cache.pager.pages) (found_page cache.held page h e) (kept_find cache.pager.pages cache.pager.told cache.held page h sound.listed.kept e).inside

pub resident_hand : (cache : CacheNow) (page : ℕ) → IsSome (resident_page cache page) → IsSome (at_hand cache page)
resident_hand cache page there = hand_of (resident_page cache page) refl there
  where
    hand_of : (o : Option Held) → resident_page cache page ≡ o → IsSome o → IsSome (at_hand cache page)
    hand_of None e s = absurd (cc)
    hand_of (Some h) e s = ap is_some (hand_resident cache page h e)

-- whether a page is this one
pub same_or : (q page : ℕ) → (q ≡ page) ⊎ (q ≢ page)
same_or q page = same_of (q == page) refl
  where
    same_of : (b : Bool) → (q == page) ≡ b → (q ≡ page) ⊎ (q ≢ page)
    same_of true e = inl (grind (arith, common_steps, e))
    same_of false e = inr (grind (arith, common_steps, e))

-- ---- marks that are true of a page

module _ (hash : Hash) where
  pub fit_blank : (cache : CacheNow) (page : ℕ) (m : Marks) → m ≡ blank → IsFit hash cache page m
  fit_blank cache page m is = record {
    blank = λ _. is;
    valid = λ seal v. absurd (let n = sym (ap (λ (x : Marks). x.validated) is) ∙ v in cc);
  }

  -- nothing was found of a page that is at hand
  pub fit_unvalidated : (cache : CacheNow) (page : ℕ) (m : Marks) → IsSome (at_hand cache page) → m.validated ≡ None → IsFit hash cache page m
  fit_unvalidated cache page m there none = record {
    blank = λ gone. absurd (let n = sym (ap is_some gone) ∙ there in cc);
    valid = λ seal v. absurd (let n = sym none ∙ v in cc);
  }

  -- a page's marks after a row, also of no page of the file
  pub marked_fit : (cache : CacheNow) (page : ℕ) (row : Row) (marks : List Marks) → IsFit hash cache page (after row (marks_of marks page)) → IsFit hash cache page (marks_of (marked row page marks) page)
  marked_fit cache page row marks here = fit_of (nat_lt page (length marks)) refl
    where
      fit_of : (b : Bool) → nat_lt page (length marks) ≡ b → IsFit hash cache page (marks_of (marked row page marks) page)
      fit_of true e =
          let inside : page < length marks = grind (arith, nat_tests, e) in
          subst (IsFit hash cache page) (sym (marked_here row page marks inside)) here
      fit_of false e =
          let past : length marks ≤ page = grind (arith, nat_tests, e) in
          fit_blank cache page _ (none_set marks page (after row (marks_of marks page)) past)

  -- the page is as it was, if it was at hand
  abbrev pub Stays : CacheNow → CacheNow → ℕ → Type 0
  Stays old new page = IfSome (at_hand old page) (λ h. at_hand new page ≡ Some h)

  -- the same bytes seal
  valid_still : (old new : CacheNow) (page : ℕ) (m m' : Marks) (seal : Seal) → Stays old new page → m'.tainted ≡ m.tainted → m'.writable ≡ false → IsValid hash old page m seal → IsValid hash new page m' seal
  valid_still old new page m m' seal stays tainted unmapped v = record {
    sealed = sealed_of (at_hand old page) stays v.sealed;
    untainted = tainted ∙ v.untainted;
    unmapped = unmapped;
  }
    where
      sealed_of : (o : Option Held) → IfSome o (λ h. at_hand new page ≡ Some h) → IsSomeAnd o (λ held. IsSealed hash seal held.bytes) → IsSomeAnd (at_hand new page) (λ held. IsSealed hash seal held.bytes)
      sealed_of None s v = absurd v
      sealed_of (Some h) s v = subst (λ o. IsSomeAnd o (λ (held : Held). IsSealed hash seal held.bytes)) (sym s) v

  blank_still : (old new : CacheNow) (page : ℕ) (m : Marks) → Stays old new page → (at_hand old page ≡ None → m ≡ blank) → at_hand new page ≡ None → m ≡ blank
  blank_still old new page m stays was gone = blank_of (at_hand old page) refl stays
    where
      blank_of : (o : Option Held) → at_hand old page ≡ o → IfSome o (λ h. at_hand new page ≡ Some h) → m ≡ blank
      blank_of None e s = was e
      blank_of (Some h) e s = absurd (let n = sym gone ∙ s in cc)

  pub fit_kept : (old new : CacheNow) (page : ℕ) (m : Marks) → Stays old new page → IsFit hash old page m → IsFit hash new page m
  fit_kept old new page m stays fit = record {
    blank = blank_still old new page m stays fit.blank;
    valid = λ seal v. let was = fit.valid seal v in valid_still old new page m m seal stays refl was.unmapped was;
  }

  -- no writer maps it any more, if one did
  pub fit_unmapped : (old new : CacheNow) (page : ℕ) (m : Marks) → Stays old new page → IsSome (at_hand new page) → IsFit hash old page m → IsFit hash new page (after Enters m)
  fit_unmapped old new page m stays there fit = record {
    blank = λ gone. absurd (let n = sym (ap is_some gone) ∙ there in cc);
    valid = λ seal v. valid_still old new page m (after Enters m) seal stays refl refl (fit.valid seal v);
  }

  -- it was found sealed
  pub fit_sealed : (cache : CacheNow) (page : ℕ) (seal : Seal) (m : Marks) → IsSomeAnd (at_hand cache page) (λ held. IsSealed hash seal held.bytes) → IsFit hash cache page (sealed seal m)
  fit_sealed cache page seal m is = record {
    blank = λ gone. absurd (subst (λ o. IsSomeAnd o (λ (held : Held). IsSealed hash seal held.bytes)) gone is);
    valid = λ other v. valid_of m.writable refl other v;
  }
    where
      valid_of : (w : Bool) → m.writable ≡ w → (other : Seal) → (if m.writable then None else Some seal) ≡ Some other → IsValid hash cache page (sealed seal m) other
      valid_of true e other v = absurd (let n = sym (ap (λ b. if b then None else Some seal) e) ∙ v in cc)
      valid_of false e other v =
          let same : Some seal ≡ Some other = sym (ap (λ b. if b then None else Some seal) e) ∙ v in
          let one : seal ≡ other = cc in
          record {
            sealed = subst (λ s. IsSomeAnd (at_hand cache page) (λ (held : Held). IsSealed hash s held.bytes)) one is;
            untainted = refl;
            unmapped = e;
          }

  -- what stands where list and spare buffer stay
  pub hands_same : (old new : CacheNow) (q : ℕ) → resident_page new q ≡ resident_page old q → new.spare ≡ old.spare → at_hand new q ≡ at_hand old q
  hands_same old new q r s = ap (λ o. or_else o (in_spare new q)) r ∙ ap (λ o. or_else (resident_page old q) (spare_of o q)) s

  pub stays_same : (old new : CacheNow) (q : ℕ) → at_hand new q ≡ at_hand old q → Stays old new q
  stays_same old new q same = stays_of (at_hand old q) same
    where
      stays_of : (o : Option Held) → at_hand new q ≡ o → IfSome o (λ h. at_hand new q ≡ Some h)
      stays_of None e = tt
      stays_of (Some h) e = e

  pub stays_resident : (old new : CacheNow) (q : ℕ) (h : Held) → resident_page old q ≡ Some h → resident_page new q ≡ Some h → Stays old new q
  stays_resident old new q h was is = subst (λ o. IfSome o (λ x. at_hand new q ≡ Some x)) (sym (hand_resident old q h was)) (hand_resident new q h is)

  -- ---- the page in the spare buffer goes

  abbrev pub SpareBlank : CacheNow → List Marks → Type 0
  SpareBlank cache marks = IfSome cache.spare (λ h. marks_of marks h.page ≡ blank)

  pub spare_blank : (cache : CacheNow) (marks : List Marks) → SpareBlank cache (spare_gone cache marks)
  spare_blank cache marks = blank_of cache.spare
    where
      blank_of : (o : Option Held) → IfSome o (λ h. marks_of (marked_if Goes (option_map (λ held. held.page) o) marks) h.page ≡ blank)
      blank_of None = tt
      blank_of (Some h) = gone_blank h.page marks

  pub spare_gone_marked : (cache : CacheNow) (marks : List Marks) → IsMarked hash cache marks → IsMarked hash cache (spare_gone cache marks)
  spare_gone_marked cache marks m = record {
    count = length-marked_if Goes (option_map (λ held. held.page) cache.spare) marks ∙ m.count;
    fit = λ q. fit_of (option_map (λ (held : Held). held.page) cache.spare) q;
  }
    where
      fit_of : (o : Option ℕ) (q : ℕ) → IsFit hash cache q (marks_of (marked_if Goes o marks) q)
      fit_of None q = m.fit q
      fit_of (Some page) q = here_of (same_or q page)
        where
          here_of : (q ≡ page) ⊎ (q ≢ page) → IsFit hash cache q (marks_of (marked Goes page marks) q)
          here_of (inl same) = fit_blank cache q _ (ap (marks_of (marked Goes page marks)) same ∙ gone_blank page marks)
          here_of (inr apart) = subst (IsFit hash cache q) (sym (marked_other Goes page q marks apart)) (m.fit q)

  -- nothing is kept then of a page that is not resident
  pub absent_blank : (cache : CacheNow) (marks : List Marks) (q : ℕ) → IsMarked hash cache marks → SpareBlank cache marks → resident_page cache q ≡ None → marks_of marks q ≡ blank
  absent_blank cache marks q m gone absent = blank_of (in_spare cache q) refl
    where
      blank_of : (o : Option Held) → in_spare cache q ≡ o → marks_of marks q ≡ blank
      blank_of None e = (m.fit q).blank (hand_spare cache q absent ∙ e)
      blank_of (Some s) e =
          let found = spare_found cache q s e in
          ap (marks_of marks) (sym found.1) ∙ subst (λ o. IfSome o (λ (h : Held). marks_of marks h.page ≡ blank)) found.0 gone

  -- where the list stays, and nothing is kept of the page in the spare buffer
  pub list_kept : (old new : CacheNow) (marks : List Marks) → new.held ≡ old.held → new.pager.pages ≡ old.pager.pages → SpareBlank old marks → IsMarked hash old marks → IsMarked hash new marks
  list_kept old new marks held pages gone m = record {
    count = m.count ∙ sym pages;
    fit = λ q. fit_of q (resident_page old q) refl;
  }
    where
      fit_of : (q : ℕ) (o : Option Held) → resident_page old q ≡ o → IsFit hash new q (marks_of marks q)
      fit_of q None e = fit_blank new q (marks_of marks q) (absent_blank old marks q m gone e)
      fit_of q (Some h) e = fit_kept old new q (marks_of marks q) (stays_resident old new q h e (ap (λ (l : List Held). find_held l q) held ∙ e)) (m.fit q)

  -- where list and spare buffer stay
  pub all_kept : (old new : CacheNow) (marks : List Marks) → new.held ≡ old.held → new.spare ≡ old.spare → new.pager.pages ≡ old.pager.pages → IsMarked hash old marks → IsMarked hash new marks
  all_kept old new marks held spare pages m = record {
    count = m.count ∙ sym pages;
    fit = λ q. fit_kept old new q (marks_of marks q) (stays_same old new q (hands_same old new q (ap (λ (l : List Held). find_held l q) held) spare)) (m.fit q);
  }

  -- one page's marks were set, and each other page stays
  pub one_marked : (old new : CacheNow) (marks marks' : List Marks) (page : ℕ) → length marks' ≡ length marks → new.pager.pages ≡ old.pager.pages → IsFit hash new page (marks_of marks' page)
      → ((q : ℕ) → q ≢ page → marks_of marks' q ≡ marks_of marks q) → ((q : ℕ) → q ≢ page → IsFit hash new q (marks_of marks q)) → IsMarked hash old marks → IsMarked hash new marks'
  one_marked old new marks marks' page long pages here others stay m = record {
    count = long ∙ m.count ∙ sym pages;
    fit = λ q. fit_of q (same_or q page);
  }
    where
      fit_of : (q : ℕ) → (q ≡ page) ⊎ (q ≢ page) → IsFit hash new q (marks_of marks' q)
      fit_of q (inl same) = subst (λ p. IsFit hash new p (marks_of marks' p)) (sym same) here
      fit_of q (inr apart) = subst (IsFit hash new q) (sym (others q apart)) (stay q apart)
