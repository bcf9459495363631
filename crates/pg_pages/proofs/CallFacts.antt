-- Each call of the pages leaves marks that are true: from what the cache's call gives.
use Rattle.std.proofs.Common.{◌≡◌, ◌≢◌, ℕ, ◌*◌, ◌/◌, ◌%◌, ◌<◌, ◌≤◌, ◌==◌, List, length, Bool, true, false, Some, None, refl, ap, sym, subst, ◌∙◌, arith, inl, inr, lit≤}
use Rattle.std.specs.Prelude.{◌⊎◌, Option, Result, Ok, Err, IfSome, IfOk, IsSome, IsSomeAnd, MatchOption, IsTrue, nat_le, is_some, slice_get, if◌then◌else◌}
use Rattle.std.specs.Option.{option_map}
use Rattle.std.proofs.lemmas.Grind.{common_steps}
use Rattle.std.proofs.Math.ListN.{length-set}
use Rattle.std.proofs.lemmas.Bool.Decides.{nat_tests}
use Rattle.std.proofs.Math.Nat.{mod-eq_of_lt}
use Rattle.pg_io.specs.PageBytes.{is_page_size}
use Rattle.pg_bytes.proofs.PageSizeFacts.{page_sizes}
use Rattle.pg_io.proofs.PageSizeFacts.{least_page}
use Rattle.pg_digest.specs.declared.kinds.HashKind.{HashKind}
use Rattle.pg_digest.specs.declared.kinds.HashKind.TheVariants.{Sha1, Sha256, Sha256Short, Sha384}
use Rattle.pg_digest.specs.Kinds.{Hash, size_of}
use Rattle.pg_cache.specs.Held.{Held}
use Rattle.pg_cache.specs.Cache.{CacheNow, resident_page, in_spare, at_hand, leaver_by, victim, contents, IsSound}
use Rattle.pg_cache.specs.Steps.{Leaves, Peeks, ReadsSpare}
use Rattle.pg_cache.specs.Gives.{has_left, PeekLeaves, BringGives, PutGives, WriteGives, EvictGives}
use Rattle.pg_cache.specs.declared.fault.PagerFault.{PagerFault}
use Rattle.pg_cache.proofs.GiveFacts.{hand_resident, hand_spare, hand_known_bytes, spare_found, peek_leaves}
use Rattle.pg_pages.specs.declared.check.Check.{Check}
use Rattle.pg_pages.specs.declared.check.Check.TheVariants.{Sealed}
use Rattle.pg_pages.specs.declared.row.Row.{Row}
use Rattle.pg_pages.specs.declared.row.Row.TheVariants.{Changed, ClearsWritable, Enters, Goes}
use Rattle.pg_pages.specs.Marks.{Seal, Marks, blank, sealed, after, marks_of, marked, marked_if, sealed_at}
use Rattle.pg_pages.specs.MarkSteps.{spare_gone, peeked, filled}
use Rattle.pg_pages.specs.Pages.{IsSealed, IsFit, IsMarked, Checked, bytes_at_hand}
use Rattle.pg_pages.proofs.MarkFacts.{set_same, marked_here, marked_other, sealed_here, sealed_other, gone_blank, length-marked, length-marked_if, same_or, fit_blank, fit_unvalidated, marked_fit, fit_kept, fit_unmapped, fit_sealed, hands_same, stays_same, stays_resident, SpareBlank, spare_blank, absent_blank, list_kept, all_kept, one_marked}

module _ (hash : Hash) where
  -- a page that is found is one of the file's
  inside_of : (cache : CacheNow) (marks : List Marks) (page : ℕ) → IsMarked hash cache marks → page < cache.pager.pages → page < length marks
  inside_of cache marks page m inside = let n = m.count in omega arith

  -- a page that stays where all is as it was
  stay_fit : (cache : CacheNow) (marks : List Marks) → IsMarked hash cache marks → (q : ℕ) → IsFit hash cache q (marks_of marks q)
  stay_fit cache marks m q = m.fit q

  -- ---- peek

  pub peek_marked : (old new : CacheNow) (marks before : List Marks) (page : ℕ) (failed : Bool) → marks ≡ peeked old page before → IsMarked hash old marks → PeekLeaves old page failed new → IsMarked hash new marks
  peek_marked old new marks before page failed is m leaves = peek_of (resident_page old page) refl
    where
      peek_of : (o : Option Held) → resident_page old page ≡ o → IsMarked hash new marks
      peek_of None e =
          let gone : marks ≡ spare_gone old before = is ∙ ap (λ o. if is_some o then before else spare_gone old before) e in
          list_kept hash old new marks leaves.list leaves.sizes.pages (subst (SpareBlank hash old) (sym gone) (spare_blank hash old before)) m
      peek_of (Some h) e = subst (λ (c : CacheNow). IsMarked hash c marks) (sym (leaves.no_call (ap is_some e)).1) m

  -- ---- put

  pub put_marked : (old new : CacheNow) (marks : List Marks) (page at : ℕ) (bytes : List ℕ) → IsSome (resident_page old page) → IsMarked hash old marks → PutGives old page at bytes new → IsMarked hash new (marked Changed page marks)
  put_marked old new marks page at bytes there m gives =
      one_marked hash old new marks (marked Changed page marks) page (length-marked Changed page marks) (ap (λ (c : CacheNow). c.pager.pages) gives.after)
      (marked_fit hash new page Changed marks (fit_unvalidated hash new page (after Changed (marks_of marks page)) (now_of (resident_page old page) refl there) refl))
      (λ q apart. marked_other Changed page q marks apart)
      (λ q apart. fit_kept hash old new q (marks_of marks q) (stays_same hash old new q (hands_same hash old new q (gives.found.others q (other q apart)) (ap (λ (c : CacheNow). c.spare) gives.after))) (m.fit q))
      m
    where
      other : (q : ℕ) → q ≢ page → (q == page) ≡ false
      other q apart = grind (arith, common_steps)

      now_of : (o : Option Held) → resident_page old page ≡ o → IsSome o → IsSome (at_hand new page)
      now_of None e s = absurd (cc)
      now_of (Some h) e s = ap is_some (hand_resident new page _ (gives.found.here ∙ ap (option_map _) e))

  -- ---- evict

  pub evict_failed_marked : (old new : CacheNow) (marks : List Marks) (page : ℕ) (fault : PagerFault) → IsMarked hash old marks → EvictGives old page (Err fault) new → IsMarked hash new marks
  evict_failed_marked old new marks page fault m gives = all_kept hash old new marks gives.unchanged gives.spare gives.sizes.pages m

  pub evict_marked : (old new : CacheNow) (marks : List Marks) (page : ℕ) → IsMarked hash old marks → EvictGives old page (Ok true) new → IsMarked hash new (marked Goes page marks)
  evict_marked old new marks page m gives =
      one_marked hash old new marks (marked Goes page marks) page (length-marked Goes page marks) gives.sizes.pages
      (fit_blank hash new page _ (gone_blank page marks))
      (λ q apart. marked_other Goes page q marks apart)
      (λ q apart. fit_kept hash old new q (marks_of marks q) (stays_same hash old new q (hands_same hash old new q (gives.found.others q (other q apart)) gives.spare)) (m.fit q))
      m
    where
      other : (q : ℕ) → q ≢ page → (q == page) ≡ false
      other q apart = grind (arith, common_steps)

  pub evict_none_marked : (old new : CacheNow) (marks : List Marks) (page : ℕ) → IsMarked hash old marks → EvictGives old page (Ok false) new → IsMarked hash new marks
  evict_none_marked old new marks page m gives = none_of (Ok false) refl (resident_page old page) refl gives.steps
    where
      none_of : (r : Result Bool PagerFault) → r ≡ Ok false → (o : Option Held) → resident_page old page ≡ o → MatchOption o ((r ≡ Ok false) × (new ≡ old)) (λ held. Leaves old held r new) → IsMarked hash new marks
      none_of r is None e s = subst (λ (c : CacheNow). IsMarked hash c marks) (sym s.1) m
      none_of r is (Some h) e s = absurd (let n = subst (λ x. IfOk x (λ left. left ≡ true)) is s.answer in cc)

  -- ---- write

  pub write_failed_marked : (old new : CacheNow) (marks before : List Marks) (page at : ℕ) (bytes : List ℕ) (fault : PagerFault) → marks ≡ spare_gone old before → IsMarked hash old marks → WriteGives old page at bytes (Err fault) new → IsMarked hash new marks
  write_failed_marked old new marks before page at bytes fault is m gives =
      list_kept hash old new marks gives.unchanged gives.sizes.pages (subst (SpareBlank hash old) (sym is) (spare_blank hash old before)) m

  pub write_marked : (old new : CacheNow) (marks before : List Marks) (page at : ℕ) (bytes : List ℕ) (done : Unit {0}) → page < old.pager.pages → marks ≡ spare_gone old before → IsMarked hash old marks → WriteGives old page at bytes (Ok done) new
      → IsMarked hash new (marked Changed page marks)
  write_marked old new marks before page at bytes done inside is m gives =
      one_marked hash old new marks (marked Changed page marks) page (length-marked Changed page marks) gives.sizes.pages
      (subst (IsFit hash new page) (sym (marked_here Changed page marks (inside_of old marks page m inside))) (here_of (resident_page old page) refl))
      (λ q apart. marked_other Changed page q marks apart)
      (λ q apart. other_of q (other q apart) (resident_page old q) refl)
      m
    where
      gone : SpareBlank hash old marks
      gone = subst (SpareBlank hash old) (sym is) (spare_blank hash old before)

      other : (q : ℕ) → q ≢ page → (q == page) ≡ false
      other q apart = grind (arith, common_steps)

      here_of : (o : Option Held) → resident_page old page ≡ o → IsFit hash new page (after Changed (marks_of marks page))
      here_of None e = fit_blank hash new page _ (ap (after Changed) (absent_blank hash old marks page m gone e))
      here_of (Some h) e = fit_unvalidated hash new page _ (ap is_some (hand_resident new page _ (gives.found.here ∙ ap (option_map _) e))) refl

      other_of : (q : ℕ) → (q == page) ≡ false → (o : Option Held) → resident_page old q ≡ o → IsFit hash new q (marks_of marks q)
      other_of q apart None e = fit_blank hash new q (marks_of marks q) (absent_blank hash old marks q m gone e)
      other_of q apart (Some h) e = fit_kept hash old new q (marks_of marks q) (stays_resident hash old new q h e (gives.found.others q apart ∙ e)) (m.fit q)

  -- ---- bring

  -- nothing is kept of a page that is not resident, but of the page that is brought
  abbrev pub BlankBeside : CacheNow → ℕ → List Marks → Type 0
  BlankBeside cache page marks = (q : ℕ) → q ≢ page → resident_page cache q ≡ None → marks_of marks q ≡ blank

  pub blank_beside : (cache : CacheNow) (marks before : List Marks) (page : ℕ) → resident_page cache page ≡ None → marks ≡ filled cache page before → IsMarked hash cache marks → BlankBeside cache page marks
  blank_beside cache marks before page absent is m = beside_of (at_hand cache page) refl
    where
      beside_of : (o : Option Held) → at_hand cache page ≡ o → BlankBeside cache page marks
      beside_of None e q apart none =
          let gone : marks ≡ spare_gone cache before = is ∙ ap (λ o. if is_some o then before else spare_gone cache before) e in
          absent_blank hash cache marks q m (subst (SpareBlank hash cache) (sym gone) (spare_blank hash cache before)) none
      beside_of (Some h) e q apart none = other_of (in_spare cache q) refl
        where
          other_of : (o : Option Held) → in_spare cache q ≡ o → marks_of marks q ≡ blank
          other_of None n = (m.fit q).blank (hand_spare cache q none ∙ n)
          other_of (Some s) n =
              let at = spare_found cache q s n in
              let here = spare_found cache page h (sym (hand_spare cache page absent) ∙ e) in
              let both : Some s ≡ Some h = sym at.0 ∙ here.0 in
              let one : s ≡ h = cc in
              absurd (apart (sym at.1 ∙ ap (λ (x : Held). x.page) one ∙ here.1))

  -- a bring that failed
  pub bring_failed_marked : (old new : CacheNow) (marks before : List Marks) (page : ℕ) (fault : PagerFault) → marks ≡ filled old page before → IsMarked hash old marks → BringGives old page (Err fault) new → IsMarked hash new marks
  bring_failed_marked old new marks before page fault is m gives = failed_of (at_hand old page) refl
    where
      failed_of : (o : Option Held) → at_hand old page ≡ o → IsMarked hash new marks
      failed_of None e =
          let gone : marks ≡ spare_gone old before = is ∙ ap (λ o. if is_some o then before else spare_gone old before) e in
          list_kept hash old new marks gives.unchanged gives.sizes.pages (subst (SpareBlank hash old) (sym gone) (spare_blank hash old before)) m
      failed_of (Some h) e = all_kept hash old new marks gives.unchanged (gives.spare_at_hand (ap is_some e)) gives.sizes.pages m

  -- a resident page
  pub bring_front_marked : (old new : CacheNow) (marks : List Marks) (page : ℕ) (left : Option ℕ) → IsSome (resident_page old page) → IsMarked hash old marks → BringGives old page (Ok left) new → IsMarked hash new marks
  bring_front_marked old new marks page left there m gives = front_of (resident_page old page) refl there
    where
      front_of : (o : Option Held) → resident_page old page ≡ o → IsSome o → IsMarked hash new marks
      front_of None e s = absurd (cc)
      front_of (Some h) e s = record {
        count = m.count ∙ sym gives.sizes.pages;
        fit = λ q. fit_kept hash old new q (marks_of marks q) (stays_same hash old new q (hands_same hash old new q (found_of q (same_or q page)) spare)) (m.fit q);
      }
        where
          spare : new.spare ≡ old.spare
          spare = gives.spare ∙ ap (λ o. if is_some o then old.spare else None) e

          found_of : (q : ℕ) → (q ≡ page) ⊎ (q ≢ page) → resident_page new q ≡ resident_page old q
          found_of q (inl same) =
              ap (resident_page new) same ∙ subst (λ o. IfSome o (λ held. resident_page new page ≡ Some held)) (hand_resident old page h e) gives.found.kept ∙ sym (ap (resident_page old) same ∙ e)
          found_of q (inr apart) =
              gives.found.others q (grind (arith, common_steps)) ∙ ap (λ l. if has_left l q then None else resident_page old q) (ap (λ o. leaver_by o (victim old)) e)

  -- another page, for which a victim may leave
  pub bring_marked : (old new : CacheNow) (marks before : List Marks) (page : ℕ) (left : Option ℕ) → page < old.pager.pages → resident_page old page ≡ None → marks ≡ filled old page before → IsMarked hash old marks → BringGives old page (Ok left) new
      → IsMarked hash new (marked_if Goes left (marked Enters page marks))
  bring_marked old new marks before page left inside absent is m gives = record {
    count = length-marked_if Goes left (marked Enters page marks) ∙ length-marked Enters page marks ∙ m.count ∙ sym gives.sizes.pages;
    fit = λ q. left_of left refl q;
  }
    where
      beside : BlankBeside old page marks
      beside = blank_beside old marks before page absent is m

      other : (q : ℕ) → q ≢ page → (q == page) ≡ false
      other q apart = grind (arith, common_steps)

      enters_here : IsFit hash new page (after Enters (marks_of marks page))
      enters_here = enters_of (at_hand old page) refl
        where
          now : IsSome (at_hand new page)
          now = now_of (resident_page new page) refl gives.found.here
            where
              now_of : (o : Option Held) → resident_page new page ≡ o → IsSome o → IsSome (at_hand new page)
              now_of None e s = absurd (cc)
              now_of (Some h) e s = ap is_some (hand_resident new page h e)

          enters_of : (o : Option Held) → at_hand old page ≡ o → IsFit hash new page (after Enters (marks_of marks page))
          enters_of None e = fit_blank hash new page _ (ap (after Enters) ((m.fit page).blank e))
          enters_of (Some h) e =
              let kept = subst (λ o. IfSome o (λ held. resident_page new page ≡ Some held)) e gives.found.kept in
              fit_unmapped hash old new page (marks_of marks page) (subst (λ o. IfSome o (λ x. at_hand new page ≡ Some x)) (sym e) (hand_resident new page h kept)) now (m.fit page)

      -- a page that did not leave
      enter_of : (q : ℕ) → has_left left q ≡ false → (q ≡ page) ⊎ (q ≢ page) → IsFit hash new q (marks_of (marked Enters page marks) q)
      enter_of q stays (inl same) =
          subst (λ p. IsFit hash new p (marks_of (marked Enters page marks) p)) (sym same)
          (subst (IsFit hash new page) (sym (marked_here Enters page marks (inside_of old marks page m inside))) enters_here)
      enter_of q stays (inr apart) = subst (IsFit hash new q) (sym (marked_other Enters page q marks apart)) (old_of (resident_page old q) refl)
        where
          old_of : (o : Option Held) → resident_page old q ≡ o → IsFit hash new q (marks_of marks q)
          old_of None e = fit_blank hash new q (marks_of marks q) (beside q apart e)
          old_of (Some h) e =
              let found = gives.found.others q (other q apart) ∙ ap (λ l. if has_left l q then None else resident_page old q) (sym gives.left) ∙ ap (λ b. if b then None else resident_page old q) stays ∙ e in
              fit_kept hash old new q (marks_of marks q) (stays_resident hash old new q h e found) (m.fit q)

      left_of : (l : Option ℕ) → left ≡ l → (q : ℕ) → IsFit hash new q (marks_of (marked_if Goes l (marked Enters page marks)) q)
      left_of None e q = enter_of q (ap (λ l. has_left l q) e) (same_or q page)
      left_of (Some gone) e q = gone_of (same_or q gone)
        where
          gone_of : (q ≡ gone) ⊎ (q ≢ gone) → IsFit hash new q (marks_of (marked Goes gone (marked Enters page marks)) q)
          gone_of (inl same) = fit_blank hash new q _ (ap (marks_of (marked Goes gone (marked Enters page marks))) same ∙ gone_blank gone (marked Enters page marks))
          gone_of (inr apart) =
              let stays : has_left left q ≡ false = ap (λ l. has_left l q) e ∙ (grind (arith, common_steps)) in
              subst (IsFit hash new q) (sym (marked_other Goes gone q (marked Enters page marks) apart)) (enter_of q stays (same_or q page))

  -- ---- check, and what says of writers

  -- the page was found sealed
  pub sealed_marked : (cache : CacheNow) (marks : List Marks) (page : ℕ) (seal : Seal) → page < cache.pager.pages → Checked hash seal (bytes_at_hand cache page) Sealed → IsMarked hash cache marks → IsMarked hash cache (sealed_at seal page marks)
  sealed_marked cache marks page seal inside found m =
      one_marked hash cache cache marks (sealed_at seal page marks) page (length-set marks page (sealed seal (marks_of marks page))) refl
      (subst (IsFit hash cache page) (sym (sealed_here seal page marks (inside_of cache marks page m inside))) (fit_sealed hash cache page seal (marks_of marks page) (seals_of (at_hand cache page) found.at_hand)))
      (λ q apart. sealed_other seal page q marks apart)
      (λ q apart. m.fit q)
      m
    where
      seals_of : (o : Option Held) → option_map (λ (h : Held). h.bytes) o ≡ Some found.present → IsSomeAnd o (λ held. IsSealed hash seal held.bytes)
      seals_of None e = absurd (cc)
      seals_of (Some h) e = let same : h.bytes ≡ found.present = cc in subst (IsSealed hash seal) (sym same) found.answer

  -- a page that was checked is at hand
  pub checked_hand : (cache : CacheNow) (page : ℕ) (seal : Seal) (check : Check) → Checked hash seal (bytes_at_hand cache page) check → IsSome (at_hand cache page)
  checked_hand cache page seal check found = hand_of (at_hand cache page) found.at_hand
    where
      hand_of : (o : Option Held) → option_map (λ (h : Held). h.bytes) o ≡ Some found.present → IsSome o
      hand_of None e = absurd (cc)
      hand_of (Some h) e = refl

  -- nothing is known of the page any more
  pub unvalidated_marked : (cache : CacheNow) (marks : List Marks) (page : ℕ) (row : Row) → IsSome (at_hand cache page) → ((m : Marks) → (after row m).validated ≡ None) → IsMarked hash cache marks → IsMarked hash cache (marked row page marks)
  unvalidated_marked cache marks page row there none m =
      one_marked hash cache cache marks (marked row page marks) page (length-marked row page marks) refl
      (marked_fit hash cache page row marks (fit_unvalidated hash cache page (after row (marks_of marks page)) there (none (marks_of marks page))))
      (λ q apart. marked_other row page q marks apart)
      (λ q apart. m.fit q)
      m

  -- no writer maps the page
  pub unmapped_marked : (cache : CacheNow) (marks : List Marks) (page : ℕ) → IsSome (at_hand cache page) → IsMarked hash cache marks → IsMarked hash cache (marked ClearsWritable page marks)
  unmapped_marked cache marks page there m =
      one_marked hash cache cache marks (marked ClearsWritable page marks) page (length-marked ClearsWritable page marks) refl
      (marked_fit hash cache page ClearsWritable marks (fit_unmapped hash cache cache page (marks_of marks page) (stays_same hash cache cache page refl) there (m.fit page)))
      (λ q apart. marked_other ClearsWritable page q marks apart)
      (λ q apart. m.fit q)
      m

  -- what a page was found sealed by seals it, and is kept as it is
  pub validated_seals : (cache : CacheNow) (marks : List Marks) (page : ℕ) (seal : Seal) → IsMarked hash cache marks → (marks_of marks page).validated ≡ Some seal → Checked hash seal (bytes_at_hand cache page) Sealed
  validated_seals cache marks page seal m v = seals_of (at_hand cache page) refl ((m.fit page).valid seal v).sealed
    where
      seals_of : (o : Option Held) → at_hand cache page ≡ o → IsSomeAnd o (λ held. IsSealed hash seal held.bytes) → Checked hash seal (bytes_at_hand cache page) Sealed
      seals_of None e s = absurd s
      seals_of (Some h) e s = record { present = h.bytes; at_hand = ap (option_map (λ (x : Held). x.bytes)) e; answer = s }

  pub validated_stays : (cache : CacheNow) (marks : List Marks) (page : ℕ) (seal : Seal) → IsMarked hash cache marks → (marks_of marks page).validated ≡ Some seal → sealed_at seal page marks ≡ marks
  validated_stays cache marks page seal m v =
      let valid = (m.fit page).valid seal v in
      set_same marks page (sealed seal (marks_of marks page)) (same_of (marks_of marks page) v valid.untainted valid.unmapped)
    where
      same_of : (x : Marks) → x.validated ≡ Some seal → x.tainted ≡ false → x.writable ≡ false → sealed seal x ≡ x
      same_of x v t w =
          ap (λ b. record { validated = if b then None else Some seal; tainted = false; writable = x.writable }) w
          ∙ ap (λ o. record { validated = o; tainted = false; writable = x.writable }) (sym v)
          ∙ ap (λ b. record { validated = x.validated; tainted = b; writable = x.writable }) (sym t)

  -- a check of a page that is validated
  pub resident_leaves : (cache : CacheNow) (page : ℕ) → IsSound cache → page < cache.pager.pages → IsSome (resident_page cache page) → PeekLeaves cache page false cache
  resident_leaves cache page sound inside there = peek_leaves cache cache page false sound inside (peeks_of (resident_page cache page) refl there)
    where
      peeks_of : (o : Option Held) → resident_page cache page ≡ o → IsSome o → Peeks cache page false cache
      peeks_of None e s = absurd (cc)
      peeks_of (Some h) e s = subst (λ o. MatchOption o (ReadsSpare cache page false cache) (λ _. (false ≡ false) × (cache ≡ cache))) (sym e) (refl, refl)

  -- what is told of the page is sealed
  pub known_seals : (cache : CacheNow) (page : ℕ) (seal : Seal) → IsSound cache → page < cache.pager.pages → Checked hash seal (bytes_at_hand cache page) Sealed → IfSome (contents cache) (λ pages. IfSome (slice_get pages page) (λ bytes. IsSealed hash seal bytes))
  known_seals cache page seal sound inside found = known_of (contents cache) (hand_known_bytes cache page found.present sound inside found.at_hand)
    where
      known_of : (o : Option (List (List ℕ))) → IfSome o (λ pages. slice_get pages page ≡ Some found.present) → IfSome o (λ pages. IfSome (slice_get pages page) (λ bytes. IsSealed hash seal bytes))
      known_of None k = tt
      known_of (Some pages) k = subst (λ o. IfSome o (λ bytes. IsSealed hash seal bytes)) (sym k) found.answer

  -- its marks stay
  pub lazy_marks : (cache : CacheNow) (marks : List Marks) (page : ℕ) (seal : Seal) → IsSome (resident_page cache page) → IsMarked hash cache marks → (marks_of marks page).validated ≡ Some seal → marks ≡ sealed_at seal page (peeked cache page marks)
  lazy_marks cache marks page seal there m v =
      sym (ap (λ b. sealed_at seal page (if b then marks else spare_gone cache marks)) there ∙ validated_stays cache marks page seal m v)

-- four digests of a page at most
few_of : (size part : ℕ) (kind : HashKind) → (size ≡ 4096) ⊎ (size ≡ 16384) → (part ≡ 4096) ⊎ (part ≡ 16384) → size / part * size_of kind ≤ 192
few_of size part kind s p = few_by kind (parts_of s p)
  where
    parts_of : (size ≡ 4096) ⊎ (size ≡ 16384) → (part ≡ 4096) ⊎ (part ≡ 16384) → size / part ≤ 4
    parts_of (inl s) (inl p) = rw (s, p) (lit≤ tt)
    parts_of (inl s) (inr p) = rw (s, p) (lit≤ tt)
    parts_of (inr s) (inl p) = rw (s, p) (lit≤ tt)
    parts_of (inr s) (inr p) = rw (s, p) (lit≤ tt)

    few_by : (k : HashKind) → size / part ≤ 4 → size / part * size_of k ≤ 192
    few_by Sha1 f = omega arith
    few_by Sha256 f = omega arith
    few_by Sha256Short f = omega arith
    few_by Sha384 f = omega arith

pub few_digests : (size part : ℕ) (kind : HashKind) → IsTrue (is_page_size size) → IsTrue (is_page_size part) → size / part * size_of kind ≤ 192
few_digests size part kind s p = few_of size part kind (page_sizes size s) (page_sizes part p)

-- a part is no longer than the page
pub part_fits : (size part : ℕ) → IsTrue (is_page_size size) → size % part ≡ 0 → part ≤ size
part_fits size part known divides =
    let most = least_page size known in
    fits_of (nat_le part size) refl
  where
    fits_of : (b : Bool) → nat_le part size ≡ b → part ≤ size
    fits_of true e = grind (arith, nat_tests, e)
    fits_of false e =
        let less : size < part = grind (arith, nat_tests, e) in
        let same : size % part ≡ size = mod-eq_of_lt less in
        let least = least_page size known in
        absurd (omega arith)
