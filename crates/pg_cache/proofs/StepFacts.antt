-- Each step leaves a cache of which the same is true as before.
use Rattle.std.proofs.Common.{◌≡◌, ◌≢◌, ℕ, ◌-◌, ◌<◌, ◌==◌, List, [], ◌∷◌, length, take, Bool, true, false, Some, None, refl, ap, sym, subst, ◌∙◌, arith}
use Rattle.std.specs.Prelude.{Option, IfSome, MatchOption, Ok, Result, is_some, slice_get, slice_set, if◌then◌else◌}
use Rattle.std.specs.Option.{option_map}
use Rattle.std.proofs.lemmas.Grind.{common_steps}
use Rattle.std.proofs.lemmas.List.{length-take}
use Rattle.pg_cache.specs.Steps.{Saves, WritesThrough, Evicts, Leaves, Fills, Enters, TakesPlace, Brings}
use Rattle.pg_cache.specs.declared.fault.PagerFault.{PagerFault}
use Rattle.pg_io.specs.Pager.{PagerNow, ToldPages, TellsWhole, IsRead, IsWrite, after_call, with_page}
use Rattle.pg_cache.specs.Held.{Held, clean, find_held, without, fronted, fronted_by, changed, dirtied, cleaned}
use Rattle.pg_cache.specs.Cache.{CacheNow, AreKept, IsBeside, IsListed}
use Rattle.pg_cache.proofs.HeldFacts.{found_page, changed-absent, absent-without, absent-take, absent-changed}
use Rattle.pg_cache.proofs.SoundFacts.{kept_map, kept_find, kept_without, gone_without, kept_take, kept_changed, length-without, length-changed, absent_front, told_written, kept_called, kept_written, kept_absent_written, kept_dirty, kept_saved, get-set_same}

pub beside_map : (pages pages' : ℕ) (told told' : Option ToldPages) (all all' : List Held) (spare : Option Held) → ((h : Held) → IsBeside pages told all h → IsBeside pages' told' all' h) → IfSome spare (IsBeside pages told all) → IfSome spare (IsBeside pages' told' all')
beside_map pages pages' told told' all all' None step beside = tt
beside_map pages pages' told told' all all' (Some h) step beside = step h beside

-- a resident page goes to the front
pub fronted_sound : (c : CacheNow) (page : ℕ) (entry : Held) → IsListed c → find_held c.held page ≡ Some entry → IsListed (record c { held = entry ∷ without c.held page })
fronted_sound c page entry sound found =
    let number = found_page c.held page entry found in
    let long = length-without c.held page entry found in
    let limited = sound.limited in
    record {
      limited = omega arith;
      some = sound.some;
      kept = (
        kept_find c.pager.pages c.pager.told c.held page entry sound.kept found,
        ap (find_held (without c.held page)) number ∙ gone_without c.pager.pages c.pager.told c.held page sound.kept,
        kept_without c.pager.pages c.pager.told c.held page sound.kept,
      );
      beside = beside_map c.pager.pages c.pager.pages c.pager.told c.pager.told c.held (entry ∷ without c.held page) c.spare
          (λ (h : Held) (b : IsBeside c.pager.pages c.pager.told c.held h). record { kept = b.kept; is_clean = b.is_clean; absent = absent_front c.held page h.page entry b.absent found }) sound.beside;
    }

-- a page leaves the list
pub without_sound : (c : CacheNow) (page : ℕ) (entry : Held) → IsListed c → find_held c.held page ≡ Some entry → IsListed (record c { held = without c.held page })
without_sound c page entry sound found =
    let long = length-without c.held page entry found in
    let limited = sound.limited in
    record {
      limited = omega arith;
      some = sound.some;
      kept = kept_without c.pager.pages c.pager.told c.held page sound.kept;
      beside = beside_map c.pager.pages c.pager.pages c.pager.told c.pager.told c.held (without c.held page) c.spare
          (λ (h : Held) (b : IsBeside c.pager.pages c.pager.told c.held h). record { kept = b.kept; is_clean = b.is_clean; absent = absent-without c.held page h.page b.absent }) sound.beside;
    }

-- bytes are put into a page of the list
pub put_sound : (c : CacheNow) (page at : ℕ) (bytes : List ℕ) → IsListed c → IsListed (record c { held = changed (dirtied at bytes) c.held page })
put_sound c page at bytes sound =
    let long = length-changed (dirtied at bytes) c.held page in
    let limited = sound.limited in
    record {
      limited = omega arith;
      some = sound.some;
      kept = kept_changed c.pager.pages c.pager.told (dirtied at bytes) c.held page (λ h. refl)
          (λ h same kept. kept_dirty c.pager.pages c.pager.told c.pager.told (dirtied at bytes h) refl (record { inside = kept.inside; agrees = dirty_agrees c.pager.told h }))
          sound.kept;
      beside = beside_map c.pager.pages c.pager.pages c.pager.told c.pager.told c.held (changed (dirtied at bytes) c.held page) c.spare
          (λ (h : Held) (b : IsBeside c.pager.pages c.pager.told c.held h). record { kept = b.kept; is_clean = b.is_clean; absent = absent-changed (dirtied at bytes) c.held page h.page (λ x. refl) b.absent }) sound.beside;
    }
  where
    dirty_agrees : (told : Option ToldPages) (h : Held) → IfSome told (λ t. true ≡ false → slice_get t.holds h.page ≡ Some (dirtied at bytes h).bytes)
    dirty_agrees None h = tt
    dirty_agrees (Some t) h = λ is_clean. absurd (cc)

-- the page in the spare buffer enters
pub entered_sound : (c : CacheNow) (h : Held) → IsListed c → c.spare ≡ Some h → IsListed (record { held = h ∷ take (c.limit - 1) c.held; limit = c.limit; spare = None; pager = c.pager })
entered_sound c h sound stands =
    let b : IsBeside c.pager.pages c.pager.told c.held h = subst (λ s. IfSome s (IsBeside c.pager.pages c.pager.told c.held)) stands sound.beside in
    let long = length-take (c.limit - 1) c.held in
    let some = sound.some in
    record {
      limited = omega arith;
      some = sound.some;
      kept = (b.kept, absent-take c.held (c.limit - 1) h.page b.absent, kept_take c.pager.pages c.pager.told c.held (c.limit - 1) sound.kept);
      beside = tt;
    }

-- the page that was read, or nothing, stands in the spare buffer
abbrev pub spare_after : Bool → ℕ → List ℕ → Option Held
spare_after failed page bytes = if failed then None else Some (clean page bytes)

read_beside : (pages : ℕ) (told : Option ToldPages) (held : List Held) (page : ℕ) (failed : Bool) (bytes : List ℕ) → find_held held page ≡ None → page < pages
    → IfSome told (λ t. failed ≡ false → slice_get t.holds page ≡ Some bytes) → IfSome (spare_after failed page bytes) (IsBeside pages (option_map after_call told) held)
read_beside pages told held page true bytes absent inside content = tt
read_beside pages None held page false bytes absent inside content = record { kept = record { inside = inside; agrees = tt }; is_clean = refl; absent = absent }
read_beside pages (Some t) held page false bytes absent inside content = record { kept = record { inside = inside; agrees = λ _. content refl }; is_clean = refl; absent = absent }

pub read_sound : (c : CacheNow) (page : ℕ) (failed : Bool) (bytes : List ℕ) (pager : PagerNow) → IsListed c → find_held c.held page ≡ None → page < c.pager.pages → IsRead c.pager page failed bytes pager
    → IsListed (record { held = c.held; limit = c.limit; spare = spare_after failed page bytes; pager = pager })
read_sound c page failed bytes pager sound absent inside read = record {
  limited = sound.limited;
  some = sound.some;
  kept = rw (read.pages, read.told) (kept_map c.pager.pages c.pager.pages c.pager.told (option_map after_call c.pager.told) c.held (kept_called c.pager.pages c.pager.told) sound.kept);
  beside = rw (read.pages, read.told) (read_beside c.pager.pages c.pager.told c.held page failed bytes absent inside read.content);
}

-- a dirty page of the list is written back
pub saved_sound : (c : CacheNow) (v : Held) (failed : Bool) (pager : PagerNow) → IsListed c → v.dirty ≡ true → find_held c.held v.page ≡ Some v → IsWrite c.pager v.page failed v.bytes pager → IsListed (record c { pager = pager })
saved_sound c v failed pager sound is_dirty found write = record {
  limited = sound.limited;
  some = sound.some;
  kept = rw (write.pages, write.told) (kept_saved c.pager.pages c.pager.told v failed c.held is_dirty found sound.kept);
  beside = rw (write.pages, write.told) (beside_map c.pager.pages c.pager.pages c.pager.told (option_map (told_written v.page v.bytes failed) c.pager.told) c.held c.held c.spare
      (λ (h : Held) (b : IsBeside c.pager.pages c.pager.told c.held h).
      let apart : h.page ≢ v.page = λ same. absurd (let e : Some v ≡ None = sym found ∙ ap (find_held c.held) (sym same) ∙ b.absent in cc) in
      record { kept = kept_written c.pager.pages c.pager.told v.page v.bytes failed h apart b.kept; is_clean = b.is_clean; absent = b.absent }) sound.beside);
}

-- a page that is not in the list is written through
pub through_sound : (c : CacheNow) (page : ℕ) (bytes : List ℕ) (failed : Bool) (pager : PagerNow) → IsListed c → find_held c.held page ≡ None → IsWrite c.pager page failed bytes pager
    → IsListed (record { held = c.held; limit = c.limit; spare = None; pager = pager })
through_sound c page bytes failed pager sound absent write = record {
  limited = sound.limited;
  some = sound.some;
  kept = rw (write.pages, write.told) (kept_absent_written c.pager.pages c.pager.told page bytes failed c.held absent sound.kept);
  beside = tt;
}

-- a write through of any page failed
pub unwritten_sound : (c : CacheNow) (page : ℕ) (bytes : List ℕ) (pager : PagerNow) → IsListed c → IsWrite c.pager page true bytes pager
    → IsListed (record { held = c.held; limit = c.limit; spare = None; pager = pager })
unwritten_sound c page bytes pager sound write = record {
  limited = sound.limited;
  some = sound.some;
  kept = rw (write.pages, write.told) (kept_map c.pager.pages c.pager.pages c.pager.told (option_map after_call c.pager.told) c.held (kept_called c.pager.pages c.pager.told) sound.kept);
  beside = tt;
}

-- a page of the list was written through
kept_through : (pages : ℕ) (told : Option ToldPages) (page : ℕ) (bytes : List ℕ) (held : List Held) → IfSome told (λ t. page < length t.holds) → AreKept pages told held
    → AreKept pages (option_map (with_page page bytes) told) (changed (cleaned bytes) held page)
kept_through pages told page bytes [] inside kept = tt
kept_through pages told page bytes (h ∷ hs) inside kept = through_of (h.page == page) refl (kept_through pages told page bytes hs inside kept.2)
  where
    now_agrees : (told : Option ToldPages) → IfSome told (λ t. page < length t.holds) → h.page ≡ page → IfSome (option_map (with_page page bytes) told) (λ t. false ≡ false → slice_get t.holds h.page ≡ Some bytes)
    now_agrees None inside same = tt
    now_agrees (Some t) inside same = λ _. ap (λ p. slice_get (slice_set t.holds page bytes) p) same ∙ get-set_same t.holds page bytes inside

    through_of : (b : Bool) → (h.page == page) ≡ b → AreKept pages (option_map (with_page page bytes) told) (changed (cleaned bytes) hs page)
        → AreKept pages (option_map (with_page page bytes) told) (if h.page == page then cleaned bytes h ∷ hs else h ∷ changed (cleaned bytes) hs page)
    through_of true e rest =
        let same : h.page ≡ page = grind (arith, common_steps, e) in
        let none : find_held hs page ≡ None = sym (ap (find_held hs) same) ∙ kept.1 in
        subst (λ b. AreKept pages (option_map (with_page page bytes) told) (if b then cleaned bytes h ∷ hs else h ∷ changed (cleaned bytes) hs page)) (sym e)
        (record { inside = kept.0.inside; agrees = now_agrees told inside same }, kept.1, kept_absent_written pages told page bytes false hs none kept.2)
    through_of false e rest =
        let apart : h.page ≢ page = grind (arith, common_steps, e) in
        subst (λ b. AreKept pages (option_map (with_page page bytes) told) (if b then cleaned bytes h ∷ hs else h ∷ changed (cleaned bytes) hs page)) (sym e)
        (kept_written pages told page bytes false h apart kept.0, absent-changed (cleaned bytes) hs page h.page (λ x. refl) kept.1, rest)

tells_inside : (pager : PagerNow) (page : ℕ) → page < pager.pages → TellsWhole pager → IfSome pager.told (λ t. page < length t.holds)
tells_inside pager page inside whole = told_of pager.told whole
  where
    told_of : (told : Option ToldPages) → TellsWhole (record pager { told = told }) → IfSome told (λ t. page < length t.holds)
    told_of None whole = tt
    told_of (Some t) whole = let e = whole.0 in omega arith

pub written_sound : (c : CacheNow) (page : ℕ) (bytes : List ℕ) (pager : PagerNow) → IsListed c → page < c.pager.pages → TellsWhole c.pager → IsWrite c.pager page false bytes pager
    → IsListed (record { held = changed (cleaned bytes) c.held page; limit = c.limit; spare = None; pager = pager })
written_sound c page bytes pager sound inside whole write =
    let long = length-changed (cleaned bytes) c.held page in
    let limited = sound.limited in
    record {
      limited = omega arith;
      some = sound.some;
      kept = rw (write.pages, write.told) (kept_through c.pager.pages c.pager.told page bytes c.held (tells_inside c.pager page inside whole) sound.kept);
      beside = tt;
    }

-- ---- calls of the pager

-- a call that is known to have failed, or not
pub read_as : (old : PagerNow) (page : ℕ) (failed failed' : Bool) (bytes : List ℕ) (new : PagerNow) → failed ≡ failed' → IsRead old page failed bytes new → IsRead old page failed' bytes new
read_as old page failed failed' bytes new same read = subst (λ b. IsRead old page b bytes new) same read

pub write_as : (old : PagerNow) (page : ℕ) (failed failed' : Bool) (bytes : List ℕ) (new : PagerNow) → failed ≡ failed' → IsWrite old page failed bytes new → IsWrite old page failed' bytes new
write_as old page failed failed' bytes new same write = subst (λ b. IsWrite old page b bytes new) same write

-- a page that is not in the list was written through
pub through_absent : (view old new : CacheNow) (page : ℕ) (bytes : List ℕ) (failed : Bool) → view ≡ old → find_held view.held page ≡ None → IsWrite view.pager page failed bytes new.pager
    → new ≡ record { held = view.held; limit = view.limit; spare = None; pager = new.pager } → WritesThrough old page bytes failed new
through_absent view old new page bytes failed is absent write others =
    subst (λ (v : CacheNow). WritesThrough v page bytes failed new) is (record {
      write = write;
      held = ap (λ (c : CacheNow). c.held) others ∙ held_of failed;
      spare = ap (λ (c : CacheNow). c.spare) others;
      limit = ap (λ (c : CacheNow). c.limit) others;
    })
  where
    held_of : (b : Bool) → view.held ≡ (if b then view.held else changed (cleaned bytes) view.held page)
    held_of true = refl
    held_of false = sym (changed-absent (cleaned bytes) view.held page absent)

-- a page was written, and its number is known by another name
pub write_to : (old : PagerNow) (at page : ℕ) (failed failed' : Bool) (bytes : List ℕ) (new : PagerNow) → at ≡ page → failed ≡ failed' → IsWrite old at failed bytes new → IsWrite old page failed' bytes new
write_to old at page failed failed' bytes new same known write = subst (λ p. IsWrite old p failed' bytes new) same (write_as old at failed failed' bytes new known write)

-- a resident page was saved and left
pub evicts_ok : (old saved new : CacheNow) (page : ℕ) (entry : Held) → find_held old.held page ≡ Some entry → Saves old entry false saved → new ≡ record saved { held = without saved.held page } → Evicts old page (Ok true) new
evicts_ok old saved new page entry found saves leaves =
    let result : Result Bool PagerFault = Ok true in
    let kept : Result Bool PagerFault = Ok false in
    subst (λ o. MatchOption o ((result ≡ kept) × (new ≡ old)) (λ held. Leaves old held result new)) (sym found) (record {
      saved = saved;
      saves = saves;
      leaves = leaves ∙ ap (λ p. record saved { held = without saved.held p }) (sym (found_page old.held page entry found));
      answer = refl;
    })

-- a page that was not resident entered
none_of : (o : Option Held) → is_some o ≡ false → o ≡ None
none_of None absent = refl
none_of (Some h) absent = absurd (cc)

pub brings_absent : (old front filled new : CacheNow) (page : ℕ) (result : Result (Option ℕ) PagerFault) → is_some (find_held old.held page) ≡ false → front ≡ record old { held = fronted old.held page }
    → Fills front page false filled → TakesPlace filled result new → Brings old page result new
brings_absent old front filled new page result absent fronts fills takes =
    let none = none_of (find_held old.held page) absent in
    let same : front ≡ old = fronts ∙ ap (λ o. record old { held = fronted_by o old.held (without old.held page) }) none in
    let kept : Result (Option ℕ) PagerFault = Ok None in
    subst (λ o. MatchOption o (Enters old page result new) (λ _. (result ≡ kept) × (new ≡ record old { held = fronted old.held page }))) (sym none)
    (record { unread = false; filled = filled; fills = subst (λ (v : CacheNow). Fills v page false filled) same fills; goes_on = takes })
