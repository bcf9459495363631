-- What `put`, `write` and `evict` answer and leave follows from their steps.
use Rattle.std.proofs.Common.{◌≡◌, ◌≢◌, ℕ, ◌+◌, ◌<◌, ◌≤◌, ◌==◌, List, length, Bool, true, false, Some, None, refl, ap, sym, subst, ◌∙◌, arith, map}
use Rattle.std.specs.Prelude.{Option, Result, Ok, Err, IfSome, IsSome, IfErr, MatchOption, MatchBool, is_err, is_some, nat_le, not, slice_get, if◌then◌else◌}
use Rattle.std.specs.Option.{option_map}
use Rattle.std.proofs.lemmas.Grind.{common_steps}
use Rattle.std.proofs.lemmas.Bool.Decides.{nat_tests}
use Rattle.pg_io.specs.PageBytes.{written_over}
use Rattle.pg_io.specs.MemPagesLaws.{length-over}
use Rattle.pg_io.specs.Pager.{FaultsAfter}
use Rattle.pg_cache.specs.Held.{Held, clean, find_held, without, changed, dirtied, cleaned}
use Rattle.pg_cache.specs.Contents.{with_piece}
use Rattle.pg_cache.specs.Cache.{CacheNow, Resident, resident_of, resident, residents, contents, resident_page, IsSound, KeepsSizes}
use Rattle.pg_cache.specs.Steps.{ReadsSpare, WritesThrough, ReadsAndWrites, Writes, Leaves, Evicts}
use Rattle.pg_cache.specs.Gives.{ChangesPage, marked, rewritten, PutGives, WriteGives, EvictGives}
use Rattle.pg_cache.specs.declared.fault.PagerFault.{PagerFault}
use Rattle.pg_cache.proofs.HeldFacts.{found_page, find-without, find-changed, find-changed_same, changed-absent}
use Rattle.pg_cache.proofs.SoundFacts.{gone_without}
use Rattle.pg_cache.proofs.ContentsFacts.{now_of, now-called, now-put, now-left, now-written, now-written_absent, map-changed, spare_told, spare_was, whole_was}
use Rattle.pg_cache.proofs.StepFacts.{put_sound, without_sound, through_sound, unwritten_sound, written_sound}
use Rattle.pg_cache.proofs.SizeFacts.{put_sized, without_sized, sized_write, whole_found, whole_changed}
use Rattle.pg_cache.proofs.ListFacts.{map_absent, map_without, map_marked, marked_none}
use Rattle.pg_cache.proofs.GiveFacts.{cache_is, Quiet, quiet_refl, sizes_both, read_quiet, save_quiet, beside_of}

apart_of : (q page : ℕ) → (q == page) ≡ false → q ≢ page
apart_of q page other = grind (arith, common_steps)

-- ---- put

pub put_gives : (old new : CacheNow) (page at : ℕ) (bytes : List ℕ) → IsSound old → IsSome (resident_page old page) → at + length bytes ≤ old.pager.page_size → new ≡ record old { held = changed (dirtied at bytes) old.held page } → PutGives old page at bytes new
put_gives old new page at bytes sound there fits after = subst (PutGives old page at bytes) (sym after) (put_of (resident_page old page) refl there)
  where
    put_of : (o : Option Held) → resident_page old page ≡ o → IsSome o → PutGives old page at bytes (record old { held = changed (dirtied at bytes) old.held page })
    put_of None e there = absurd (cc)
    put_of (Some h) e there = record {
      after = refl;
      numbers = map-changed (dirtied at bytes) old.held page (λ x. refl);
      list = map_marked old.pager.pages old.pager.told (dirtied at bytes) page true old.held (λ x. refl) sound.listed.kept;
      found = record {
        here = find-changed_same (dirtied at bytes) old.held page h (λ x. refl) e ∙ sym (ap (option_map (dirtied at bytes)) e);
        others = λ q other. find-changed (dirtied at bytes) old.held page q (λ x. refl) (apart_of q page other);
      };
      content = now-put old.held old.pager.told page at bytes h e;
      sound = record { listed = put_sound old page at bytes sound.listed; sized = put_sized old page at bytes sound.sized fits };
    }

-- ---- evict

-- a resident page leaves the list, or could not be written
leaves_gives : (old new : CacheNow) (page : ℕ) (h : Held) (result : Result Bool PagerFault) → IsSound old → resident_page old page ≡ Some h → Leaves old h result new → Evicts old page result new → IfErr result (λ fault. fault.page ≡ page) → EvictGives old page result new
leaves_gives old new page h (Err fault) sound e l steps at =
    let number = found_page old.held page h e in
    let s = save_quiet old l.saved h true sound (ap (find_held old.held) number ∙ e) l.saves in
    subst (λ (n : CacheNow). EvictGives old page (Err fault) n) (sym l.leaves) (record {
      steps = subst (λ (n : CacheNow). Evicts old page (Err fault) n) l.leaves steps;
      answer = tt;
      numbers = tt;
      list = tt;
      found = tt;
      content = s.quiet.content;
      unchanged = s.quiet.held;
      reads = s.reads;
      fault = at;
      faults = s.faults;
      spare = s.spare;
      sizes = s.quiet.sizes;
      sound = s.quiet.sound;
    })
leaves_gives old new page h (Ok left) sound e l steps at =
    let number = found_page old.held page h e in
    let s = save_quiet old l.saved h false sound (ap (find_held old.held) number ∙ e) l.saves in
    let is : new ≡ record l.saved { held = without l.saved.held page } = l.leaves ∙ ap (λ p. record l.saved { held = without l.saved.held p }) number in
    let held = ap (λ (hs : List Held). without hs page) s.quiet.held in
    let kept = sound.listed.kept in
    let in_saved : find_held l.saved.held page ≡ Some h = ap (λ (hs : List Held). find_held hs page) s.quiet.held ∙ e in
    subst (λ (n : CacheNow). EvictGives old page (Ok left) n) (sym is) (record {
      steps = subst (λ (n : CacheNow). Evicts old page (Ok left) n) is steps;
      answer = l.answer ∙ sym (ap is_some e);
      numbers = ap (map (λ (x : Held). x.page)) held ∙ map_without (λ (x : Held). x.page) (λ q. not (q == page)) page (λ x. refl) old.pager.pages old.pager.told old.held kept;
      list = ap (map resident_of) held ∙ map_without resident_of (λ (r : Resident). not (r.page == page)) page (λ x. refl) old.pager.pages old.pager.told old.held kept;
      found = record {
        here = ap (λ (hs : List Held). find_held hs page) held ∙ gone_without old.pager.pages old.pager.told old.held page kept;
        others = λ q other. ap (λ (hs : List Held). find_held hs q) held ∙ find-without old.held page q (apart_of q page other);
      };
      content =
          now-left l.saved.pager.pages l.saved.held l.saved.pager.told page h s.quiet.sound.listed.kept in_saved (s.saved refl) ∙ s.quiet.content;
      unchanged = tt;
      reads = s.reads;
      fault = tt;
      faults = s.faults;
      spare = s.spare;
      sizes = record { limit = s.quiet.sizes.limit; pages = s.quiet.sizes.pages; page_size = s.quiet.sizes.page_size };
      sound = record {
        listed = without_sound l.saved page h s.quiet.sound.listed in_saved;
        sized = without_sized l.saved page s.quiet.sound.sized;
      };
    })

pub evict_gives : (old new : CacheNow) (page : ℕ) (result : Result Bool PagerFault) → IsSound old → Evicts old page result new → IfErr result (λ fault. fault.page ≡ page) → EvictGives old page result new
evict_gives old new page result sound steps fault = evicts_of (resident_page old page) refl steps
  where
    absent_gives : resident_page old page ≡ None → Evicts old page (Ok false) old → EvictGives old page (Ok false) old
    absent_gives e steps = record {
      steps = steps;
      answer = sym (ap is_some e);
      numbers = sym (map_absent (λ (h : Held). h.page) (λ q. not (q == page)) page (λ x. refl) old.held e);
      list = sym (map_absent resident_of (λ (r : Resident). not (r.page == page)) page (λ x. refl) old.held e);
      found = record { here = e; others = λ q other. refl };
      content = refl;
      unchanged = tt;
      reads = refl;
      fault = tt;
      faults = refl;
      spare = refl;
      sizes = record { limit = refl; pages = refl; page_size = refl };
      sound = sound;
    }

    evicts_of : (o : Option Held) → resident_page old page ≡ o → MatchOption o ((result ≡ Ok false) × (new ≡ old)) (λ held. Leaves old held result new) → EvictGives old page result new
    evicts_of None e s =
        let there = subst (λ (n : CacheNow). Evicts old page result n) s.1 steps in
        subst (λ (n : CacheNow). EvictGives old page result n) (sym s.1) (subst (λ r. EvictGives old page r old) (sym s.0) (absent_gives e (subst (λ r. Evicts old page r old) s.0 there)))
    evicts_of (Some h) e l = leaves_gives old new page h result sound e l steps fault

-- ---- write

-- What one write of a whole page through to the pager leaves.
record Through (old : CacheNow) (page at : ℕ) (bytes : List ℕ) (failed : Bool) (new : CacheNow) : Type 0 where
  numbers : resident new ≡ resident old
  list : failed ≡ false → residents new ≡ marked page false (residents old)
  found : failed ≡ false → ChangesPage old new page (option_map (rewritten at bytes) (resident_page old page))
  content : contents new ≡ (if failed then contents old else option_map (with_piece page at bytes) (contents old))
  unchanged : failed ≡ true → new.held ≡ old.held
  reads : new.pager.reads ≡ old.pager.reads
  faults : FaultsAfter failed old.pager.faults new.pager.faults
  spare : new.spare ≡ None
  sizes : KeepsSizes old new
  sound : IsSound new

-- the write failed
failed_through : (old new : CacheNow) (page at : ℕ) (bytes whole : List ℕ) → IsSound old → length whole ≡ old.pager.page_size → WritesThrough old page whole true new → Through old page at bytes true new
failed_through old new page at bytes whole sound long w =
    let is = cache_is new old.held old.limit None w.held w.limit w.spare in
    record {
      numbers = ap (map (λ (x : Held). x.page)) w.held;
      list = λ f. absurd (cc);
      found = λ f. absurd (cc);
      content = ap (λ h. now_of h new.pager.told) w.held ∙ ap (now_of old.held) w.write.told ∙ now-called old.held old.pager.told;
      unchanged = λ _. w.held;
      reads = w.write.reads;
      faults = w.write.faults;
      spare = w.spare;
      sizes = record { limit = w.limit; pages = w.write.pages; page_size = w.write.page_size };
      sound = subst IsSound is (record {
        listed = unwritten_sound old page whole new.pager sound.listed w.write;
        sized = sized_write old page true whole new.pager old.held None sound.sized w.write long sound.sized.whole tt;
      });
    }

-- a resident page was written
resident_through : (old new : CacheNow) (page at : ℕ) (bytes : List ℕ) (h : Held) → IsSound old → page < old.pager.pages → resident_page old page ≡ Some h → at + length bytes ≤ old.pager.page_size
    → WritesThrough old page (written_over h.bytes at bytes) false new → Through old page at bytes false new
resident_through old new page at bytes h sound inside found fits w =
    let whole = written_over h.bytes at bytes in
    let is_whole = whole_found old.pager.page_size old.held page h sound.sized.whole found in
    let long : length whole ≡ old.pager.page_size = length-over h.bytes bytes at (omega arith) ∙ is_whole in
    let is = cache_is new (changed (cleaned whole) old.held page) old.limit None w.held w.limit w.spare in
    record {
      numbers = ap (map (λ (x : Held). x.page)) w.held ∙ map-changed (cleaned whole) old.held page (λ x. refl);
      list = λ _. ap (map resident_of) w.held ∙ map_marked old.pager.pages old.pager.told (cleaned whole) page false old.held (λ x. refl) sound.listed.kept;
      found = λ _. record {
        here = ap (λ (l : List Held). find_held l page) w.held ∙ find-changed_same (cleaned whole) old.held page h (λ x. refl) found ∙ sym (ap (option_map (rewritten at bytes)) found);
        others = λ q other. ap (λ (l : List Held). find_held l q) w.held ∙ find-changed (cleaned whole) old.held page q (λ x. refl) (apart_of q page other);
      };
      content = ap (λ l. now_of l new.pager.told) w.held ∙ ap (now_of (changed (cleaned whole) old.held page)) w.write.told ∙ now-written old.held old.pager.told page at bytes h found;
      unchanged = λ f. absurd (cc);
      reads = w.write.reads;
      faults = w.write.faults;
      spare = w.spare;
      sizes = record { limit = w.limit; pages = w.write.pages; page_size = w.write.page_size };
      sound = subst IsSound is (record {
        listed = written_sound old page whole new.pager sound.listed inside sound.sized.tells w.write;
        sized = sized_write old page false whole new.pager (changed (cleaned whole) old.held page) None sound.sized w.write long (whole_changed old.pager.page_size (cleaned whole) old.held page (λ x _. long) sound.sized.whole) tt;
      });
    }

-- another page was written
absent_through : (old new : CacheNow) (page at : ℕ) (bytes whole : List ℕ) → IsSound old → resident_page old page ≡ None → length whole ≡ old.pager.page_size
    → IfSome old.pager.told (λ t. (b : List ℕ) → slice_get t.holds page ≡ Some b → written_over b at bytes ≡ whole)
    → WritesThrough old page whole false new → Through old page at bytes false new
absent_through old new page at bytes whole sound absent long was w =
    let same : new.held ≡ old.held = w.held ∙ changed-absent (cleaned whole) old.held page absent in
    let is = cache_is new old.held old.limit None same w.limit w.spare in
    record {
      numbers = ap (map (λ (x : Held). x.page)) same;
      list = λ _. ap (map resident_of) same ∙ marked_none page false old.held absent;
      found = λ _. record {
        here = ap (λ (l : List Held). find_held l page) same ∙ absent ∙ sym (ap (option_map (rewritten at bytes)) absent);
        others = λ q other. ap (λ (l : List Held). find_held l q) same;
      };
      content = ap (λ l. now_of l new.pager.told) same ∙ ap (now_of old.held) w.write.told ∙ now-written_absent old.held old.pager.told page at bytes whole absent was;
      unchanged = λ f. absurd (cc);
      reads = w.write.reads;
      faults = w.write.faults;
      spare = w.spare;
      sizes = record { limit = w.limit; pages = w.write.pages; page_size = w.write.page_size };
      sound = subst IsSound is (record {
        listed = through_sound old page whole false new.pager sound.listed absent w.write;
        sized = sized_write old page false whole new.pager old.held None sound.sized w.write long sound.sized.whole tt;
      });
    }

-- the clauses of `write`, where a first read left all but the counts
write_from : (old now new : CacheNow) (page at : ℕ) (bytes : List ℕ) (failed : Bool) (result : Result (Unit {0}) PagerFault) → is_err result ≡ failed → Quiet old now → now.pager.faults ≡ old.pager.faults
    → (IsSome (resident_page old page) → now.pager.reads ≡ old.pager.reads) → Through now page at bytes failed new → Writes old page at bytes (is_err result) new → IfErr result (λ fault. fault.page ≡ page) → WriteGives old page at bytes result new
write_from old now new page at bytes failed (Err fault) is q faults reads t steps at_page = record {
  steps = steps;
  numbers = t.numbers ∙ ap (map (λ (x : Held). x.page)) q.held;
  list = tt;
  found = tt;
  content = t.content ∙ ap (λ b. if b then contents now else option_map (with_piece page at bytes) (contents now)) (sym is) ∙ q.content;
  unchanged = t.unchanged (sym is) ∙ q.held;
  reads = λ there. t.reads ∙ reads there;
  fault = at_page;
  faults = subst (λ n. FaultsAfter true n new.pager.faults) faults (subst (λ b. FaultsAfter b now.pager.faults new.pager.faults) (sym is) t.faults);
  spare = t.spare;
  sizes = sizes_both old now new q.sizes t.sizes;
  sound = t.sound;
}
write_from old now new page at bytes failed (Ok done) is q faults reads t steps at_page =
    let f = t.found (sym is) in
    let same : (p : ℕ) → resident_page now p ≡ resident_page old p = λ p. ap (λ (l : List Held). find_held l p) q.held in
    record {
      steps = steps;
      numbers = t.numbers ∙ ap (map (λ (x : Held). x.page)) q.held;
      list = t.list (sym is) ∙ ap (λ (l : List Held). marked page false (map resident_of l)) q.held;
      found = record {
        here = f.here ∙ ap (option_map (rewritten at bytes)) (same page);
        others = λ p other. f.others p other ∙ same p;
      };
      content = t.content ∙ ap (λ b. if b then contents now else option_map (with_piece page at bytes) (contents now)) (sym is) ∙ ap (option_map (with_piece page at bytes)) q.content;
      unchanged = tt;
      reads = λ there. t.reads ∙ reads there;
      fault = tt;
      faults = subst (λ n. FaultsAfter false n new.pager.faults) faults (subst (λ b. FaultsAfter b now.pager.faults new.pager.faults) (sym is) t.faults);
      spare = t.spare;
      sizes = sizes_both old now new q.sizes t.sizes;
      sound = t.sound;
    }

-- the resident page was written, or was not
write_resident_gives : (old new : CacheNow) (page at : ℕ) (bytes : List ℕ) (h : Held) (failed : Bool) (result : Result (Unit {0}) PagerFault) → is_err result ≡ failed → IsSound old → page < old.pager.pages → at + length bytes ≤ old.pager.page_size
    → resident_page old page ≡ Some h → WritesThrough old page (written_over h.bytes at bytes) failed new → Writes old page at bytes (is_err result) new → IfErr result (λ fault. fault.page ≡ page) → WriteGives old page at bytes result new
write_resident_gives old new page at bytes h true result is sound inside fits found w steps at_page =
    let is_whole = whole_found old.pager.page_size old.held page h sound.sized.whole found in
    write_from old old new page at bytes true result is (quiet_refl old sound) refl (λ _. refl)
    (failed_through old new page at bytes (written_over h.bytes at bytes) sound (length-over h.bytes bytes at (omega arith) ∙ is_whole) w) steps at_page
write_resident_gives old new page at bytes h false result is sound inside fits found w steps at_page =
    write_from old old new page at bytes false result is (quiet_refl old sound) refl (λ _. refl)
    (resident_through old new page at bytes h sound inside found fits w) steps at_page

-- a page that is not resident was written, or was not, with these whole bytes
write_absent_gives : (old now new : CacheNow) (page at : ℕ) (bytes whole : List ℕ) (failed : Bool) (result : Result (Unit {0}) PagerFault) → is_err result ≡ failed → Quiet old now → now.pager.faults ≡ old.pager.faults
    → resident_page old page ≡ None → length whole ≡ now.pager.page_size → IfSome now.pager.told (λ t. (b : List ℕ) → slice_get t.holds page ≡ Some b → written_over b at bytes ≡ whole)
    → WritesThrough now page whole failed new → Writes old page at bytes (is_err result) new → IfErr result (λ fault. fault.page ≡ page) → WriteGives old page at bytes result new
write_absent_gives old now new page at bytes whole true result is q faults absent long was w steps at_page =
    write_from old now new page at bytes true result is q faults (λ there. absurd (let n = sym there ∙ ap is_some absent in cc))
    (failed_through now new page at bytes whole q.sound long w) steps at_page
write_absent_gives old now new page at bytes whole false result is q faults absent long was w steps at_page =
    let none = ap (λ (l : List Held). find_held l page) q.held ∙ absent in
    write_from old now new page at bytes false result is q faults (λ there. absurd (let n = sym there ∙ ap is_some absent in cc))
    (absent_through now new page at bytes whole q.sound none long was w) steps at_page

-- the page was not read, so nothing was written
unread_write_gives : (old now : CacheNow) (page at : ℕ) (bytes : List ℕ) (result : Result (Unit {0}) PagerFault) → is_err result ≡ true → IsSound old → page < old.pager.pages → resident_page old page ≡ None → ReadsSpare old page true now
    → Writes old page at bytes (is_err result) now → IfErr result (λ fault. fault.page ≡ page) → WriteGives old page at bytes result now
unread_write_gives old now page at bytes (Ok done) is sound inside absent r steps at_page = absurd (cc)
unread_write_gives old now page at bytes (Err fault) is sound inside absent r steps at_page =
    let q = read_quiet old now page true sound absent inside r in
    record {
      steps = steps;
      numbers = ap (map (λ (x : Held). x.page)) q.held;
      list = tt;
      found = tt;
      content = q.content;
      unchanged = q.held;
      reads = λ there. absurd (let n = sym there ∙ ap is_some absent in cc);
      fault = at_page;
      faults = r.read.faults;
      spare = r.spare;
      sizes = q.sizes;
      sound = q.sound;
    }

pub write_gives : (old new : CacheNow) (page at : ℕ) (bytes : List ℕ) (result : Result (Unit {0}) PagerFault) → IsSound old → page < old.pager.pages → at + length bytes ≤ old.pager.page_size
    → Writes old page at bytes (is_err result) new → IfErr result (λ fault. fault.page ≡ page) → WriteGives old page at bytes result new
write_gives old new page at bytes result sound inside fits steps at_page = write_of (resident_page old page) refl steps
  where
    -- a whole page
    whole_of : resident_page old page ≡ None → nat_le old.pager.page_size (length bytes) ≡ true → WritesThrough old page bytes (is_err result) new → WriteGives old page at bytes result new
    whole_of absent all w =
        let much : old.pager.page_size ≤ length bytes = grind (arith, nat_tests, all) in
        let first : at ≡ 0 = omega arith in
        let long : length bytes ≡ old.pager.page_size = omega arith in
        write_absent_gives old old new page at bytes bytes (is_err result) result refl (quiet_refl old sound) refl absent long
        (subst (λ a. IfSome old.pager.told (λ t. (b : List ℕ) → slice_get t.holds page ≡ Some b → written_over b a bytes ≡ bytes)) (sym first) (whole_was old.pager page bytes sound.sized.tells long)) w steps at_page

    -- a part of a page that was read before
    part_of : (unread : Bool) (now : CacheNow) → resident_page old page ≡ None → ReadsSpare old page unread now
        → MatchBool unread ((is_err result ≡ true) × (new ≡ now)) (IfSome now.spare (λ held. WritesThrough now page (written_over held.bytes at bytes) (is_err result) new)) → WriteGives old page at bytes result new
    part_of true now absent r ends =
        subst (WriteGives old page at bytes result) (sym ends.1) (unread_write_gives old now page at bytes result ends.0 sound inside absent r (subst (Writes old page at bytes (is_err result)) ends.1 steps) at_page)
    part_of false now absent r writes =
        let q = read_quiet old now page false sound absent inside r in
        let b = beside_of now (clean page r.bytes) q.sound r.spare in
        let w : WritesThrough now page (written_over r.bytes at bytes) (is_err result) new = subst (λ o. IfSome o (λ held. WritesThrough now page (written_over held.bytes at bytes) (is_err result) new)) r.spare writes in
        let long : length (written_over r.bytes at bytes) ≡ now.pager.page_size = length-over r.bytes bytes at (let l = r.whole in omega arith) ∙ r.whole ∙ sym q.sizes.page_size in
        write_absent_gives old now new page at bytes (written_over r.bytes at bytes) (is_err result) result refl q r.read.faults absent long
        (spare_was now.pager.told page at bytes (clean page r.bytes) (spare_told now.pager.pages now.pager.told page (clean page r.bytes) b.kept b.is_clean refl)) w steps at_page

    absent_of : (all : Bool) → nat_le old.pager.page_size (length bytes) ≡ all → resident_page old page ≡ None → MatchBool all (WritesThrough old page bytes (is_err result) new) (ReadsAndWrites old page at bytes (is_err result) new) → WriteGives old page at bytes result new
    absent_of true e absent w = whole_of absent e w
    absent_of false e absent w = part_of w.unread w.filled absent w.reads w.writes

    write_of : (o : Option Held) → resident_page old page ≡ o
        → MatchOption o (MatchBool (nat_le old.pager.page_size (length bytes)) (WritesThrough old page bytes (is_err result) new) (ReadsAndWrites old page at bytes (is_err result) new)) (λ held. WritesThrough old page (written_over held.bytes at bytes) (is_err result) new)
        → WriteGives old page at bytes result new
    write_of None absent w = absent_of (nat_le old.pager.page_size (length bytes)) refl absent w
    write_of (Some h) found w = write_resident_gives old new page at bytes h (is_err result) result refl sound inside fits found w steps at_page
