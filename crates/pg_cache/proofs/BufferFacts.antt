-- Each step leaves the parts of a cache in order.
use Rattle.std.proofs.Common.{◌≡◌, ℕ, ◌+◌, ◌-◌, ◌<◌, ◌≤◌, ◌==◌, List, [], ◌∷◌, length, take, Bool, true, false, Option, Some, None, refl, ap, sym, subst, ◌∙◌, unwrap_or, rules}
use Rattle.std.specs.Prelude.{IfSome, IsSome, MatchBool, Ok, is_some, if◌then◌else◌}
use Rattle.std.specs.Option.{option_map}
use Rattle.pg_io.specs.Pager.{PagerNow, IsRead, IsWrite}
use Rattle.pg_io.specs.PageBytes.{written_over}
use Rattle.pg_cache.specs.Held.{Held, clean, find_held, without, changed, fronted, fronted_by, dirtied, cleaned}
use Rattle.pg_cache.specs.Contents.{bytes_or}
use Rattle.pg_cache.specs.Cache.{CacheNow, resident_page, victim, at_hand, or_else, IsListed, IsSized}
use Rattle.pg_cache.specs.Steps.{Saves, WritesBack, WritesThrough, Evicts}
use Rattle.pg_cache.specs.Store.{Stored, Fronts, overwritten}
use Rattle.pg_cache.specs.Buffers.{cache_of, HasBuffers}
use Rattle.pg_cache.proofs.HeldFacts.{found_page, without-absent}
use Rattle.pg_cache.proofs.SoundFacts.{find_at_place}
use Rattle.pg_cache.proofs.StepFacts.{fronted_sound, without_sound, put_sound, entered_sound, read_sound, saved_sound, through_sound, unwritten_sound, written_sound, evicts_ok}
use Rattle.pg_cache.proofs.SizeFacts.{fronted_sized, without_sized, put_sized, entered_sized, sized_read, sized_write, whole_changed, whole_found, AreWhole}

module _ (store : Stored) (buffer : List ℕ) (has_spare : Bool) (pager : PagerNow) (is : HasBuffers store buffer has_spare pager) where
  abbrev now : CacheNow
  now = cache_of store has_spare pager

  -- a page goes to the front of the list
  pub kept_fronted : (page : ℕ) → HasBuffers (record store { held = fronted store.held page }) buffer has_spare pager
  kept_fronted page = fronted_of (find_held store.held page) refl
    where
      fronted_of : (o : Option Held) → find_held store.held page ≡ o → HasBuffers (record store { held = fronted_by o store.held (without store.held page) }) buffer has_spare pager
      fronted_of None e = is
      fronted_of (Some entry) e = record {
        count = is.count;
        size = is.size;
        buffer_whole = is.buffer_whole;
        spare_whole = is.spare_whole;
        sound = fronted_sound now page entry is.sound e;
        sized = fronted_sized now page entry is.sized e;
      }

  -- a page leaves the list
  pub kept_left : (page : ℕ) → HasBuffers (record store { held = without store.held page }) buffer has_spare pager
  kept_left page = left_of (find_held store.held page) refl
    where
      left_of : (o : Option Held) → find_held store.held page ≡ o → HasBuffers (record store { held = without store.held page }) buffer has_spare pager
      left_of None e = subst (λ (l : List Held). HasBuffers (record store { held = l }) buffer has_spare pager) (sym (without-absent store.held page e)) is
      left_of (Some entry) e = record {
        count = is.count;
        size = is.size;
        buffer_whole = is.buffer_whole;
        spare_whole = is.spare_whole;
        sound = without_sound now page entry is.sound e;
        sized = without_sized now page is.sized;
      }

  -- bytes are put into a page of the list
  pub kept_put : (page at : ℕ) (bytes : List ℕ) → at + length bytes ≤ pager.page_size → HasBuffers (record store { held = changed (dirtied at bytes) store.held page }) buffer has_spare pager
  kept_put page at bytes fits = record {
    count = is.count;
    size = is.size;
    buffer_whole = is.buffer_whole;
    spare_whole = is.spare_whole;
    sound = put_sound now page at bytes is.sound;
    sized = put_sized now page at bytes is.sized fits;
  }

  -- a page was read into the spare frame
  pub kept_read : (page : ℕ) (bytes : List ℕ) (after : PagerNow) → find_held store.held page ≡ None → page < pager.pages → IsRead pager page false bytes after → length bytes ≡ pager.page_size
      → HasBuffers (record store { spare = clean page bytes }) buffer true after
  kept_read page bytes after absent inside read long = record {
    count = is.count ∙ sym read.pages;
    size = is.size ∙ sym read.page_size;
    buffer_whole = is.buffer_whole ∙ sym read.page_size;
    spare_whole = long ∙ sym read.page_size;
    sound = read_sound now page false bytes after is.sound absent inside read;
    sized = sized_read now page false bytes after is.sized read long;
  }

  -- or was not
  pub kept_unread : (page : ℕ) (bytes : List ℕ) (after : PagerNow) → find_held store.held page ≡ None → page < pager.pages → IsRead pager page true bytes after → length bytes ≡ pager.page_size
      → HasBuffers (record store { spare = clean page bytes }) buffer false after
  kept_unread page bytes after absent inside read long = record {
    count = is.count ∙ sym read.pages;
    size = is.size ∙ sym read.page_size;
    buffer_whole = is.buffer_whole ∙ sym read.page_size;
    spare_whole = long ∙ sym read.page_size;
    sound = read_sound now page true bytes after is.sound absent inside read;
    sized = sized_read now page true bytes after is.sized read long;
  }

  -- a dirty page of the list was written back, or was not
  pub kept_saved : (held : Held) (failed : Bool) (after : PagerNow) → held.dirty ≡ true → find_held store.held held.page ≡ Some held → IsWrite pager held.page failed held.bytes after
      → length held.bytes ≡ pager.page_size → HasBuffers store buffer has_spare after
  kept_saved held failed after is_dirty found write long = record {
    count = is.count ∙ sym write.pages;
    size = is.size ∙ sym write.page_size;
    buffer_whole = is.buffer_whole ∙ sym write.page_size;
    spare_whole = is.spare_whole ∙ sym write.page_size;
    sound = saved_sound now held failed after is.sound is_dirty found write;
    sized = sized_write now held.page failed held.bytes after store.held now.spare is.sized write long is.sized.whole is.sized.spare;
  }

  -- a page that is not in the list was written through, or was not
  pub kept_through : (page : ℕ) (bytes : List ℕ) (failed : Bool) (after : PagerNow) → find_held store.held page ≡ None → IsWrite pager page failed bytes after → length bytes ≡ pager.page_size
      → HasBuffers store buffer false after
  kept_through page bytes failed after absent write long = record {
    count = is.count ∙ sym write.pages;
    size = is.size ∙ sym write.page_size;
    buffer_whole = is.buffer_whole ∙ sym write.page_size;
    spare_whole = is.spare_whole ∙ sym write.page_size;
    sound = through_sound now page bytes failed after is.sound absent write;
    sized = sized_write now page failed bytes after store.held None is.sized write long is.sized.whole tt;
  }

  -- a write through of any page failed
  pub kept_unwritten : (page : ℕ) (bytes other : List ℕ) (after : PagerNow) → IsWrite pager page true bytes after → length bytes ≡ pager.page_size → length other ≡ length buffer
      → HasBuffers store other false after
  kept_unwritten page bytes other after write long alike = record {
    count = is.count ∙ sym write.pages;
    size = is.size ∙ sym write.page_size;
    buffer_whole = alike ∙ is.buffer_whole ∙ sym write.page_size;
    spare_whole = is.spare_whole ∙ sym write.page_size;
    sound = unwritten_sound now page bytes after is.sound write;
    sized = sized_write now page true bytes after store.held None is.sized write long is.sized.whole tt;
  }

  -- a page was written through
  pub kept_written : (page : ℕ) (bytes other : List ℕ) (after : PagerNow) → page < pager.pages → IsWrite pager page false bytes after → length bytes ≡ pager.page_size → length other ≡ length buffer
      → HasBuffers (record store { held = changed (cleaned bytes) store.held page }) other false after
  kept_written page bytes other after inside write long alike = record {
    count = is.count ∙ sym write.pages;
    size = is.size ∙ sym write.page_size;
    buffer_whole = alike ∙ is.buffer_whole ∙ sym write.page_size;
    spare_whole = is.spare_whole ∙ sym write.page_size;
    sound = written_sound now page bytes after is.sound inside is.sized.tells write;
    sized = sized_write now page false bytes after (changed (cleaned bytes) store.held page) None is.sized write long
        (whole_changed pager.page_size (cleaned bytes) store.held page (λ h _. long) is.sized.whole) tt;
  }

-- the page in the spare frame enters
pub kept_entered : (store new : Stored) (buffer : List ℕ) (pager : PagerNow) → HasBuffers store buffer true pager → Fronts store (take (store.limit - 1) store.held) new → HasBuffers new buffer false pager
kept_entered store new buffer pager is fronts =
    let old = cache_of store true pager in
    let all : cache_of new false pager ≡ record { held = store.spare ∷ take (store.limit - 1) store.held; limit = store.limit; spare = None; pager = pager } =
    ap (λ (l : List Held). record { held = l; limit = new.limit; spare = None; pager = pager }) fronts.held
    ∙ ap (λ n. record { held = store.spare ∷ take (store.limit - 1) store.held; limit = n; spare = None; pager = pager }) fronts.limit in
    record {
      count = fronts.pages ∙ is.count;
      size = fronts.page_size ∙ is.size;
      buffer_whole = is.buffer_whole;
      spare_whole = fronts.spare ∙ fronts.page_size ∙ is.size;
      sound = subst IsListed (sym all) (entered_sound old store.spare is.sound refl);
      sized = subst IsSized (sym all) (entered_sized old store.spare is.sized refl);
    }

-- bytes are put over a part of a page, which is found in the list or else has these bytes
pub changed_part : (held : List Held) (page at : ℕ) (piece others : List ℕ) → changed (overwritten at piece false) held page ≡ changed (cleaned (written_over (bytes_or (find_held held page) others) at piece)) held page
changed_part [] page at piece others = refl
changed_part (h ∷ hs) page at piece others = part_of (h.page == page) refl (changed_part hs page at piece others)
  where
    part_of : (b : Bool) → (h.page == page) ≡ b → changed (overwritten at piece false) hs page ≡ changed (cleaned (written_over (bytes_or (find_held hs page) others) at piece)) hs page
        → changed (overwritten at piece false) (h ∷ hs) page ≡ changed (cleaned (written_over (bytes_or (find_held (h ∷ hs) page) others) at piece)) (h ∷ hs) page
    part_of true e rest =
        ap (λ c. if c then overwritten at piece false h ∷ hs else h ∷ changed (overwritten at piece false) hs page) e
        ∙ sym (ap (λ c. if c then cleaned (written_over (bytes_or (if c then Some h else find_held hs page) others) at piece) h ∷ hs
        else h ∷ changed (cleaned (written_over (bytes_or (if c then Some h else find_held hs page) others) at piece)) hs page) e)
    part_of false e rest =
        ap (λ c. if c then overwritten at piece false h ∷ hs else h ∷ changed (overwritten at piece false) hs page) e
        ∙ ap (λ (l : List Held). h ∷ l) rest
        ∙ sym (ap (λ c. if c then cleaned (written_over (bytes_or (if c then Some h else find_held hs page) others) at piece) h ∷ hs
        else h ∷ changed (cleaned (written_over (bytes_or (if c then Some h else find_held hs page) others) at piece)) hs page) e)

-- ---- what is known of a page where a step begins

-- the page is resident and dirty, and these are its bytes
pub record IsDirty (held : List Held) (page : ℕ) (bytes : List ℕ) : Type 0 where
  pub entry : Held
  pub found : find_held held entry.page ≡ Some entry
  pub here : find_held held page ≡ Some entry
  pub numbered : entry.page ≡ page
  pub is_dirty : entry.dirty ≡ true
  pub same : bytes ≡ entry.bytes

pub dirty_page : (held : List Held) (page : ℕ) (bytes : List ℕ) → IsSome (find_held held page)
    → IfSome (find_held held page) (λ h. ◌≡◌ {A = Option (List ℕ)} (Some bytes) (if h.dirty then Some h.bytes else None)) → IsDirty held page bytes
dirty_page held page bytes some tells = dirty_of (find_held held page) refl some tells
  where
    dirty_of : (o : Option Held) → find_held held page ≡ o → IsSome o → IfSome o (λ h. ◌≡◌ {A = Option (List ℕ)} (Some bytes) (if h.dirty then Some h.bytes else None)) → IsDirty held page bytes
    dirty_of None e some tells = absurd (search rules)
    dirty_of (Some h) e some tells = mark_of h.dirty refl tells
      where
        number : h.page ≡ page
        number = found_page held page h e

        mark_of : (b : Bool) → h.dirty ≡ b → ◌≡◌ {A = Option (List ℕ)} (Some bytes) (if b then Some h.bytes else None) → IsDirty held page bytes
        mark_of true d same = record { entry = h; found = ap (find_held held) number ∙ e; here = e; numbered = number; is_dirty = d; same = ap (λ o. unwrap_or o []) same }
        mark_of false d same = absurd (cc)

-- the last page of a full list
pub record IsVictim (cache : CacheNow) (page : ℕ) : Type 0 where
  pub entry : Held
  pub last : victim cache ≡ Some entry
  pub found : resident_page cache page ≡ Some entry

pub victim_page : (cache : CacheNow) (page : ℕ) → IsListed cache → ◌≡◌ {A = Option ℕ} (Some page) (option_map (λ held. held.page) (victim cache)) → IsVictim cache page
victim_page cache page listed number = victim_of (victim cache) refl number
  where
    victim_of : (o : Option Held) → victim cache ≡ o → ◌≡◌ {A = Option ℕ} (Some page) (option_map (λ held. held.page) o) → IsVictim cache page
    victim_of None e number = absurd (cc)
    victim_of (Some h) e number =
        let same : page ≡ h.page = ap (λ o. unwrap_or o 0) number in
        record { entry = h; last = e; found = ap (find_held cache.held) same ∙ find_at_place cache.pager.pages cache.pager.told cache.held (cache.limit - 1) h listed.kept e }

-- the bytes of a page at hand
pub hand_bytes : (store : Stored) (has_spare : Bool) (pager : PagerNow) (page : ℕ) → IsSome (at_hand (cache_of store has_spare pager) page)
    → option_map (λ held. held.bytes) (at_hand (cache_of store has_spare pager) page) ≡ Some (bytes_or (find_held store.held page) store.spare.bytes)
hand_bytes store true pager page some = hand_of (find_held store.held page) (store.spare.page == page) some
  where
    hand_of : (o : Option Held) (b : Bool) → IsSome (or_else o (if b then Some store.spare else None)) → option_map (λ held. held.bytes) (or_else o (if b then Some store.spare else None)) ≡ Some (bytes_or o store.spare.bytes)
    hand_of (Some h) b some = refl
    hand_of None true some = refl
    hand_of None false some = absurd (search rules)
hand_bytes store false pager page some = hand_of (find_held store.held page) some
  where
    hand_of : (o : Option Held) → IsSome (or_else o None) → option_map (λ held. held.bytes) (or_else o None) ≡ Some (bytes_or o store.spare.bytes)
    hand_of (Some h) some = refl
    hand_of None some = absurd (search rules)

pub whole_seat : (size : ℕ) (held : List Held) (page : ℕ) (others : List ℕ) → AreWhole size held → length others ≡ size → length (bytes_or (find_held held page) others) ≡ size
whole_seat size held page others whole long = seat_of (find_held held page) refl
  where
    seat_of : (o : Option Held) → find_held held page ≡ o → length (bytes_or o others) ≡ size
    seat_of None e = long
    seat_of (Some h) e = whole_found size held page h whole e

-- ---- what a step does

-- a dirty page of the list was written back
pub saves_found : (view old new : CacheNow) (page : ℕ) (entry : Held) (failed : Bool) → view ≡ old → find_held view.held page ≡ Some entry → entry.dirty ≡ true → IsWrite view.pager entry.page failed entry.bytes new.pager
    → new ≡ record view { pager = new.pager } → IfSome (resident_page old page) (λ held. Saves old held failed new)
saves_found view old new page entry failed is found is_dirty write others =
    subst (λ (v : CacheNow). IfSome (resident_page v page) (λ held. Saves v held failed new)) is
    (subst (λ o. IfSome o (λ held. Saves view held failed new)) (sym found)
    (subst (λ b. MatchBool b (WritesBack view entry failed new) ((failed ≡ false) × (new ≡ view))) (sym is_dirty) (record { write = write; others = others })))

-- the same victim as before
pub victim-saves : (old new : CacheNow) (h : Held) (failed : Bool) → Saves old h failed new → victim new ≡ victim old
victim-saves old new h failed saves = victim_of h.dirty saves
  where
    victim_of : (b : Bool) → MatchBool b (WritesBack old h failed new) ((failed ≡ false) × (new ≡ old)) → victim new ≡ victim old
    victim_of true s = ap (λ (c : CacheNow). victim c) s.others
    victim_of false s = ap (λ (c : CacheNow). victim c) s.1

-- a resident page was saved and left
pub evicts_found : (old saved new : CacheNow) (page : ℕ) → is_some (resident_page old page) ≡ true → IfSome (resident_page old page) (λ held. Saves old held false saved)
    → new ≡ record saved { held = without saved.held page } → Evicts old page (Ok true) new
evicts_found old saved new page some saves leaves = evicts_of (resident_page old page) refl some saves
  where
    evicts_of : (o : Option Held) → resident_page old page ≡ o → is_some o ≡ true → IfSome o (λ held. Saves old held false saved) → Evicts old page (Ok true) new
    evicts_of None e some saves = absurd (cc)
    evicts_of (Some h) e some saves = evicts_ok old saved new page h e saves leaves

-- a page was written through, with bytes over a part of it
pub through_part : (view old new : CacheNow) (page at : ℕ) (whole piece : List ℕ) → view ≡ old → option_map (λ held. held.bytes) (at_hand view page) ≡ Some whole
    → IsWrite view.pager page false (written_over whole at piece) new.pager
    → new ≡ record { held = changed (cleaned (written_over whole at piece)) view.held page; limit = view.limit; spare = None; pager = new.pager }
    → IfSome (at_hand old page) (λ held. WritesThrough old page (written_over held.bytes at piece) false new)
through_part view old new page at whole piece is seat write others =
    subst (λ (v : CacheNow). IfSome (at_hand v page) (λ held. WritesThrough v page (written_over held.bytes at piece) false new)) is (part_of (at_hand view page) seat)
  where
    part_of : (o : Option Held) → option_map (λ held. held.bytes) o ≡ Some whole → IfSome o (λ held. WritesThrough view page (written_over held.bytes at piece) false new)
    part_of None e = tt
    part_of (Some h) e =
        let same : whole ≡ h.bytes = sym (ap (λ o. unwrap_or o []) e) in
        subst (λ (b : List ℕ). WritesThrough view page (written_over b at piece) false new) same (record {
          write = write;
          held = ap (λ (c : CacheNow). c.held) others;
          spare = ap (λ (c : CacheNow). c.spare) others;
          limit = ap (λ (c : CacheNow). c.limit) others;
        })
