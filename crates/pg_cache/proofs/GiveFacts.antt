-- What each call of a cache answers and leaves follows from its steps: what all steps have in common, and looking up.
use Rattle.std.proofs.Common.{◌≡◌, ℕ, ◌-◌, ◌<◌, ◌==◌, List, ◌∷◌, length, take, Bool, true, false, Some, None, refl, ap, sym, subst, ◌∙◌, arith}
use Rattle.std.specs.Prelude.{Option, IfSome, IsSome, MatchOption, MatchBool, is_some, slice_get, if◌then◌else◌}
use Rattle.std.specs.Option.{option_map}
use Rattle.std.proofs.lemmas.Grind.{common_steps}
use Rattle.pg_io.specs.Pager.{FaultsAfter}
use Rattle.pg_cache.specs.Held.{Held, clean, find_held}
use Rattle.pg_cache.specs.Cache.{CacheNow, contents, victim, in_spare, spare_of, at_hand, or_else, resident_page, IsBeside, IsSaved, IsSound, IsWhole, KeepsSizes}
use Rattle.pg_cache.specs.Gives.{PeekLeaves}
use Rattle.pg_cache.specs.Steps.{ReadsSpare, Saves, WritesBack, SavesVictim, Peeks}
use Rattle.pg_cache.proofs.SoundFacts.{find_at_place, kept_find, told_written}
use Rattle.pg_cache.proofs.ContentsFacts.{now_of, now-called, now-saved, now-entered, saved-clean, saved-written, known_of, resident_here, spare_told, spare_here}
use Rattle.pg_cache.proofs.StepFacts.{read_sound, saved_sound, entered_sound}
use Rattle.pg_cache.proofs.SizeFacts.{sized_read, sized_write, entered_sized, whole_found}

-- a cache by its fields
pub cache_is : (c : CacheNow) (held : List Held) (limit : ℕ) (spare : Option Held) → c.held ≡ held → c.limit ≡ limit → c.spare ≡ spare → record { held = held; limit = limit; spare = spare; pager = c.pager } ≡ c
cache_is c held limit spare h l s =
    sym (ap (λ x. record { held = x; limit = c.limit; spare = c.spare; pager = c.pager }) h
    ∙ ap (λ x. record { held = held; limit = x; spare = c.spare; pager = c.pager }) l
    ∙ ap (λ x. record { held = held; limit = limit; spare = x; pager = c.pager }) s)

-- What a step leaves that changes neither list nor contents.
pub record Quiet (old new : CacheNow) : Type 0 where
  pub held : new.held ≡ old.held
  pub content : contents new ≡ contents old
  pub sizes : KeepsSizes old new
  pub sound : IsSound new

pub quiet_refl : (c : CacheNow) → IsSound c → Quiet c c
quiet_refl c sound = record { held = refl; content = refl; sizes = record { limit = refl; pages = refl; page_size = refl }; sound = sound }

pub sizes_both : (a b c : CacheNow) → KeepsSizes a b → KeepsSizes b c → KeepsSizes a c
sizes_both a b c one two = record { limit = two.limit ∙ one.limit; pages = two.pages ∙ one.pages; page_size = two.page_size ∙ one.page_size }

-- one read into the spare buffer
pub read_quiet : (old new : CacheNow) (page : ℕ) (failed : Bool) → IsSound old → find_held old.held page ≡ None → page < old.pager.pages → ReadsSpare old page failed new → Quiet old new
read_quiet old new page failed sound absent inside r = record {
  held = r.held;
  content = ap (λ h. now_of h new.pager.told) r.held ∙ ap (now_of old.held) r.read.told ∙ now-called old.held old.pager.told;
  sizes = record { limit = r.limit; pages = r.read.pages; page_size = r.read.page_size };
  sound =
      let is = cache_is new old.held old.limit (if failed then None else Some (clean page r.bytes)) r.held r.limit r.spare in
      subst IsSound is (record {
        listed = read_sound old page failed r.bytes new.pager sound.listed absent inside r.read;
        sized = sized_read old page failed r.bytes new.pager sound.sized r.read r.whole;
      });
}

-- What a page that is saved leaves.
pub record Saved (old : CacheNow) (held : Held) (failed : Bool) (new : CacheNow) : Type 0 where
  pub quiet : Quiet old new
  pub saved : failed ≡ false → IsSaved new.pager.told held
  pub spare : new.spare ≡ old.spare
  pub reads : new.pager.reads ≡ old.pager.reads
  pub faults : FaultsAfter failed old.pager.faults new.pager.faults

pub save_quiet : (old new : CacheNow) (h : Held) (failed : Bool) → IsSound old → find_held old.held h.page ≡ Some h → Saves old h failed new → Saved old h failed new
save_quiet old new h failed sound found saves = saved_of h.dirty refl saves
  where
    written_back : (f : Bool) → h.dirty ≡ true → WritesBack old h f new → Saved old h f new
    written_back f is_dirty w =
        let whole = whole_found old.pager.page_size old.held h.page h sound.sized.whole found in
        record {
          quiet = subst (Quiet old) (sym w.others) (record {
            held = refl;
            content = ap (now_of old.held) w.write.told ∙ now-saved old.held old.pager.told h f found;
            sizes = record { limit = refl; pages = w.write.pages; page_size = w.write.page_size };
            sound = record {
              listed = saved_sound old h f new.pager sound.listed is_dirty found w.write;
              sized = sized_write old h.page f h.bytes new.pager old.held old.spare sound.sized w.write whole sound.sized.whole sound.sized.spare;
            };
          });
          saved = λ done. subst (λ t. IsSaved t h) (sym w.write.told) (subst (λ b. IsSaved (option_map (told_written h.page h.bytes b) old.pager.told) h) (sym done) (saved-written old.pager.told h));
          spare = ap (λ (c : CacheNow). c.spare) w.others;
          reads = w.write.reads;
          faults = w.write.faults;
        }

    saved_of : (b : Bool) → h.dirty ≡ b → MatchBool b (WritesBack old h failed new) ((failed ≡ false) × (new ≡ old)) → Saved old h failed new
    saved_of true e s = written_back failed e s
    saved_of false e s =
        subst (λ (n : CacheNow). Saved old h failed n) (sym s.1) (subst (λ f. Saved old h f old) (sym s.0) (record {
          quiet = quiet_refl old sound;
          saved = λ _. saved-clean old.pager.pages old.pager.told h (kept_find old.pager.pages old.pager.told old.held h.page h sound.listed.kept found) e;
          spare = refl;
          reads = refl;
          faults = refl;
        }))

-- What is left where the victim is saved, if there is one.
pub record VictimSaved (old : CacheNow) (failed : Bool) (new : CacheNow) : Type 0 where
  pub quiet : Quiet old new
  pub saved : failed ≡ false → IfSome (victim old) (IsSaved new.pager.told)
  pub spare : new.spare ≡ old.spare
  pub reads : new.pager.reads ≡ old.pager.reads
  pub faults : FaultsAfter failed old.pager.faults new.pager.faults
  pub fails : failed ≡ true → IsSome (victim old)

pub victim_quiet : (old new : CacheNow) (failed : Bool) → IsSound old → SavesVictim old failed new → VictimSaved old failed new
victim_quiet old new failed sound saves = victim_of (victim old) refl saves
  where
    victim_of : (o : Option Held) → victim old ≡ o → MatchOption o ((failed ≡ false) × (new ≡ old)) (λ held. Saves old held failed new) → VictimSaved old failed new
    victim_of None e s =
        subst (λ (n : CacheNow). VictimSaved old failed n) (sym s.1) (subst (λ f. VictimSaved old f old) (sym s.0) (record {
          quiet = quiet_refl old sound;
          saved = λ _. subst (λ o. IfSome o (IsSaved old.pager.told)) (sym e) tt;
          spare = refl;
          reads = refl;
          faults = refl;
          fails = λ f. absurd (cc);
        }))
    victim_of (Some h) e s =
        let found = find_at_place old.pager.pages old.pager.told old.held (old.limit - 1) h sound.listed.kept e in
        let v = save_quiet old new h failed sound found s in
        record {
          quiet = v.quiet;
          saved = λ done. subst (λ o. IfSome o (IsSaved new.pager.told)) (sym e) (v.saved done);
          spare = v.spare;
          reads = v.reads;
          faults = v.faults;
          fails = λ _. ap is_some e;
        }

-- the page in the spare buffer takes the place of a victim that is saved
abbrev pub entered_with : CacheNow → Held → CacheNow
entered_with c h = record { held = h ∷ take (c.limit - 1) c.held; limit = c.limit; spare = None; pager = c.pager }

pub enter_sound : (c : CacheNow) (h : Held) → IsSound c → c.spare ≡ Some h → IsSound (entered_with c h)
enter_sound c h sound stands = record { listed = entered_sound c h sound.listed stands; sized = entered_sized c h sound.sized stands }

pub beside_of : (c : CacheNow) (h : Held) → IsSound c → c.spare ≡ Some h → IsBeside c.pager.pages c.pager.told c.held h
beside_of c h sound stands = subst (λ s. IfSome s (IsBeside c.pager.pages c.pager.told c.held)) stands sound.listed.beside

pub enter_content : (c : CacheNow) (h : Held) → IsSound c → c.spare ≡ Some h → IfSome (victim c) (IsSaved c.pager.told) → contents (entered_with c h) ≡ contents c
enter_content c h sound stands saved =
    let b = beside_of c h sound stands in
    now-entered c.pager.pages c.held c.limit h c.pager.told sound.listed.limited sound.listed.some b.kept b.is_clean b.absent saved

-- ---- looking up

-- the page in the spare buffer that was found there
pub spare_found : (c : CacheNow) (page : ℕ) (h : Held) → in_spare c page ≡ Some h → (c.spare ≡ Some h) × (h.page ≡ page)
spare_found c page h found = found_of c.spare found
  where
    found_of : (o : Option Held) → spare_of o page ≡ Some h → (o ≡ Some h) × (h.page ≡ page)
    found_of None e = absurd (cc)
    found_of (Some s) e = here_of (s.page == page) refl e
      where
        here_of : (b : Bool) → (s.page == page) ≡ b → (if s.page == page then Some s else None) ≡ Some h → (Some s ≡ Some h) × (h.page ≡ page)
        here_of true t e =
            let same : Some s ≡ Some h = sym (ap (λ b. if b then Some s else None) t) ∙ e in
            let number : s.page ≡ page = grind (arith, common_steps, t) in
            let is : s ≡ h = cc in
            (same, sym (ap (λ (x : Held). x.page) is) ∙ number)
        here_of false t e = absurd (let n = sym (ap (λ b. if b then Some s else None) t) ∙ e in cc)

-- a page that is at hand is resident, or stands in the spare buffer
pub hand_resident : (c : CacheNow) (page : ℕ) (h : Held) → resident_page c page ≡ Some h → at_hand c page ≡ Some h
hand_resident c page h found = ap (λ o. or_else o (in_spare c page)) found

pub hand_spare : (c : CacheNow) (page : ℕ) → resident_page c page ≡ None → at_hand c page ≡ in_spare c page
hand_spare c page absent = ap (λ o. or_else o (in_spare c page)) absent

-- the bytes of a page at hand are the page's
pub hand_known : (c : CacheNow) (page : ℕ) (h : Held) → IsSound c → page < c.pager.pages → at_hand c page ≡ Some h → IfSome (contents c) (λ pages. slice_get pages page ≡ Some h.bytes)
hand_known c page h sound inside found = known_by (resident_page c page) refl
  where
    known_by : (o : Option Held) → resident_page c page ≡ o → IfSome (contents c) (λ pages. slice_get pages page ≡ Some h.bytes)
    known_by (Some r) e =
        let same : Some r ≡ Some h = sym (hand_resident c page r e) ∙ found in
        let here : find_held c.held page ≡ Some h = e ∙ same in
        known_of c.held c.pager page h.bytes sound.sized.tells inside (resident_here c.held c.pager.told page h h.bytes here refl)
    known_by None e =
        let stands = spare_found c page h (sym (hand_spare c page e) ∙ found) in
        let b = beside_of c h sound stands.0 in
        known_of c.held c.pager page h.bytes sound.sized.tells inside
        (spare_here c.held c.pager.told page h h.bytes e refl (spare_told c.pager.pages c.pager.told page h b.kept b.is_clean stands.1))

-- and they are a whole page
pub hand_whole : (c : CacheNow) (page : ℕ) (h : Held) → IsSound c → at_hand c page ≡ Some h → length h.bytes ≡ c.pager.page_size
hand_whole c page h sound found = whole_by (resident_page c page) refl
  where
    whole_by : (o : Option Held) → resident_page c page ≡ o → length h.bytes ≡ c.pager.page_size
    whole_by (Some r) e =
        let same : Some r ≡ Some h = sym (hand_resident c page r e) ∙ found in
        whole_found c.pager.page_size c.held page h sound.sized.whole (e ∙ same)
    whole_by None e =
        let stands = spare_found c page h (sym (hand_spare c page e) ∙ found) in
        subst (λ s. IfSome s (IsWhole c.pager.page_size)) stands.0 sound.sized.spare

-- peek leaves a sound cache
pub peek_quiet : (old new : CacheNow) (page : ℕ) (failed : Bool) → IsSound old → page < old.pager.pages → Peeks old page failed new → Quiet old new
peek_quiet old new page failed sound inside peeks = peek_of (resident_page old page) refl peeks
  where
    peek_of : (o : Option Held) → resident_page old page ≡ o → MatchOption o (ReadsSpare old page failed new) (λ _. (failed ≡ false) × (new ≡ old)) → Quiet old new
    peek_of None e r = read_quiet old new page failed sound e inside r
    peek_of (Some h) e r = subst (Quiet old) (sym r.1) (quiet_refl old sound)

-- what peek leaves
pub peek_leaves : (old new : CacheNow) (page : ℕ) (failed : Bool) → IsSound old → page < old.pager.pages → Peeks old page failed new → PeekLeaves old page failed new
peek_leaves old new page failed sound inside peeks = leaves_of (peek_quiet old new page failed sound inside peeks) (resident_page old page) refl peeks
  where
    read_of : (f : Bool) → resident_page old page ≡ None → ReadsSpare old page f new → f ≡ false → IsSome (at_hand new page)
    read_of true e r done = absurd (cc)
    read_of false e r done =
        let none : resident_page new page ≡ None = ap (λ (l : List Held). find_held l page) r.held ∙ e in
        ap is_some (hand_spare new page none ∙ ap (λ o. spare_of o page) r.spare) ∙ own
      where
        own : is_some (if page == page then Some (clean page r.bytes) else None) ≡ true
        own = grind (arith, common_steps)

    leaves_of : Quiet old new → (o : Option Held) → resident_page old page ≡ o → MatchOption o (ReadsSpare old page failed new) (λ _. (failed ≡ false) × (new ≡ old)) → PeekLeaves old page failed new
    leaves_of quiet None e r = record {
      steps = peeks;
      at_hand = read_of failed e r;
      list = r.held;
      content = quiet.content;
      no_call = λ there. absurd (let n = sym there ∙ ap is_some e in cc);
      faults = r.read.faults;
      sizes = quiet.sizes;
      sound = quiet.sound;
    }
    leaves_of quiet (Some h) e r = record {
      steps = peeks;
      at_hand = λ _. ap is_some (ap (λ (c : CacheNow). at_hand c page) r.1 ∙ hand_resident old page h e);
      list = quiet.held;
      content = quiet.content;
      no_call = λ _. r;
      faults = subst (λ b. FaultsAfter b old.pager.faults new.pager.faults) (sym r.0) (ap (λ (c : CacheNow). c.pager.faults) r.1);
      sizes = quiet.sizes;
      sound = quiet.sound;
    }

-- the same, by the bytes alone
pub hand_of : (o : Option Held) (bytes : List ℕ) → option_map (λ h. h.bytes) o ≡ Some bytes → (h : Held) × ((o ≡ Some h) × (h.bytes ≡ bytes))
hand_of None bytes e = absurd (cc)
hand_of (Some h) bytes e = (h, (refl, cc))

pub hand_known_bytes : (c : CacheNow) (page : ℕ) (bytes : List ℕ) → IsSound c → page < c.pager.pages → option_map (λ h. h.bytes) (at_hand c page) ≡ Some bytes → IfSome (contents c) (λ pages. slice_get pages page ≡ Some bytes)
hand_known_bytes c page bytes sound inside found =
    let h = hand_of (at_hand c page) bytes found in
    subst (λ b. IfSome (contents c) (λ pages. slice_get pages page ≡ Some b)) h.1.1 (hand_known c page h.0 sound inside h.1.0)

pub hand_whole_bytes : (c : CacheNow) (page : ℕ) (bytes : List ℕ) → IsSound c → option_map (λ h. h.bytes) (at_hand c page) ≡ Some bytes → length bytes ≡ c.pager.page_size
hand_whole_bytes c page bytes sound found =
    let h = hand_of (at_hand c page) bytes found in
    subst (λ (b : List ℕ). length b ≡ c.pager.page_size) h.1.1 (hand_whole c page h.0 sound h.1.0)
