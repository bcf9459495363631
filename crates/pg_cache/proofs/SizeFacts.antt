-- Each step leaves whole pages.
use Rattle.std.proofs.Common.{◌≡◌, ℕ, ◌+◌, ◌-◌, ◌≤◌, ◌==◌, List, [], ◌∷◌, length, take, Bool, true, false, Some, None, refl, sym, subst, ◌∙◌, arith}
use Rattle.std.specs.Prelude.{All, Option, IfSome, if◌then◌else◌}
use Rattle.std.specs.Option.{option_map}
use Rattle.std.proofs.lemmas.Grind.{common_steps}
use Rattle.std.proofs.lemmas.List.Elements.{All-cons, All-head, All-tail, All-set, All-take}
use Rattle.std.proofs.Math.ListN.{length-set}
use Rattle.pg_io.specs.Pager.{PagerNow, ToldPages, TellsWhole, IsRead, IsWrite, after_call, with_page}
use Rattle.pg_io.specs.MemPagesLaws.{length-over}
use Rattle.pg_cache.specs.Held.{Held, clean, find_held, without, changed, dirtied}
use Rattle.pg_cache.specs.Cache.{CacheNow, IsSized, IsWhole}

-- ---- lists of whole pages

abbrev pub AreWhole : ℕ → List Held → Type 0
AreWhole size held = All (IsWhole size) held

-- under a size that is the same
pub whole_same : (old new : ℕ) (held : List Held) → new ≡ old → AreWhole old held → AreWhole new held
whole_same old new held same whole = subst (λ n. AreWhole n held) (sym same) whole

pub whole_without : (size : ℕ) (held : List Held) (page : ℕ) → AreWhole size held → AreWhole size (without held page)
whole_without size [] page whole = whole
whole_without size (h ∷ hs) page whole = without_of (h.page == page) (whole_without size hs page (All-tail (IsWhole size) h hs whole))
  where
    without_of : (b : Bool) → AreWhole size (without hs page) → AreWhole size (if b then hs else h ∷ without hs page)
    without_of true rest = All-tail (IsWhole size) h hs whole
    without_of false rest = All-cons (IsWhole size) h (without hs page) (All-head (IsWhole size) h hs whole) rest

pub whole_changed : (size : ℕ) (change : Held → Held) (held : List Held) (page : ℕ) → ((h : Held) → IsWhole size h → IsWhole size (change h)) → AreWhole size held → AreWhole size (changed change held page)
whole_changed size change [] page keeps whole = whole
whole_changed size change (h ∷ hs) page keeps whole =
    let first = All-head (IsWhole size) h hs whole in
    let others = All-tail (IsWhole size) h hs whole in
    changed_of (h.page == page) (All-cons (IsWhole size) (change h) hs (keeps h first) others)
    (All-cons (IsWhole size) h (changed change hs page) first (whole_changed size change hs page keeps others))
  where
    changed_of : (b : Bool) → AreWhole size (change h ∷ hs) → AreWhole size (h ∷ changed change hs page) → AreWhole size (if b then change h ∷ hs else h ∷ changed change hs page)
    changed_of true here there = here
    changed_of false here there = there

pub whole_found : (size : ℕ) (held : List Held) (page : ℕ) (entry : Held) → AreWhole size held → find_held held page ≡ Some entry → IsWhole size entry
whole_found size [] page entry whole found = absurd (cc)
whole_found size (h ∷ hs) page entry whole found = found_of (h.page == page) refl (whole_found size hs page entry (All-tail (IsWhole size) h hs whole))
  where
    found_of : (b : Bool) → (h.page == page) ≡ b → (find_held hs page ≡ Some entry → IsWhole size entry) → IsWhole size entry
    found_of true e rest =
        let same : h ≡ entry = grind (arith, common_steps, e, found) in
        subst (IsWhole size) same (All-head (IsWhole size) h hs whole)
    found_of false e rest = rest (grind (arith, common_steps, e, found))

-- ---- what is told after a call

pub tells_read : (old new : PagerNow) (page : ℕ) (failed : Bool) (bytes : List ℕ) → IsRead old page failed bytes new → TellsWhole old → TellsWhole new
tells_read old new page failed bytes read tells = rw (read.pages, read.page_size, read.told) (called old.told tells)
  where
    called : (told : Option ToldPages) → TellsWhole (record old { told = told }) → TellsWhole (record old { told = option_map after_call told })
    called None whole = tt
    called (Some t) whole = whole

abbrev told_after : ℕ → List ℕ → Bool → ToldPages → ToldPages
told_after page bytes failed told = if failed then after_call told else with_page page bytes told

pub tells_write : (old new : PagerNow) (page : ℕ) (failed : Bool) (bytes : List ℕ) → IsWrite old page failed bytes new → length bytes ≡ old.page_size → TellsWhole old → TellsWhole new
tells_write old new page failed bytes write long tells = rw (write.pages, write.page_size, write.told) (called failed old.told tells)
  where
    called : (f : Bool) (told : Option ToldPages) → TellsWhole (record old { told = told }) → TellsWhole (record old { told = option_map (told_after page bytes f) told })
    called f None whole = tt
    called true (Some t) whole = whole
    called false (Some t) whole = (length-set t.holds page bytes ∙ whole.0, All-set (λ (b : List ℕ). length b ≡ old.page_size) t.holds page bytes long whole.1)

-- ---- a cache after a step

-- other pages are resident
pub sized_held : (c : CacheNow) (held : List Held) → IsSized c → AreWhole c.pager.page_size held → IsSized (record c { held = held })
sized_held c held sized whole = record { most = sized.most; size = sized.size; whole = whole; spare = sized.spare; tells = sized.tells }

spare_read : (size page : ℕ) (failed : Bool) (bytes : List ℕ) → length bytes ≡ size → IfSome (if failed then None else Some (clean page bytes)) (IsWhole size)
spare_read size page true bytes long = tt
spare_read size page false bytes long = long

-- a page was read into the spare buffer, or not
pub sized_read : (c : CacheNow) (page : ℕ) (failed : Bool) (bytes : List ℕ) (pager : PagerNow) → IsSized c → IsRead c.pager page failed bytes pager → length bytes ≡ c.pager.page_size
    → IsSized (record { held = c.held; limit = c.limit; spare = (if failed then None else Some (clean page bytes)); pager = pager })
sized_read c page failed bytes pager sized read long = record {
  most = sized.most;
  size = rw read.page_size sized.size;
  whole = whole_same c.pager.page_size pager.page_size c.held read.page_size sized.whole;
  spare = spare_read pager.page_size page failed bytes (long ∙ sym read.page_size);
  tells = tells_read c.pager pager page failed bytes read sized.tells;
}

-- a page was written, or not
pub sized_write : (c : CacheNow) (page : ℕ) (failed : Bool) (bytes : List ℕ) (pager : PagerNow) (held : List Held) (spare : Option Held) → IsSized c → IsWrite c.pager page failed bytes pager → length bytes ≡ c.pager.page_size
    → AreWhole c.pager.page_size held → IfSome spare (IsWhole c.pager.page_size) → IsSized (record { held = held; limit = c.limit; spare = spare; pager = pager })
sized_write c page failed bytes pager held spare sized write long whole whole_spare = record {
  most = sized.most;
  size = rw write.page_size sized.size;
  whole = whole_same c.pager.page_size pager.page_size held write.page_size whole;
  spare = subst (λ n. IfSome spare (IsWhole n)) (sym write.page_size) whole_spare;
  tells = tells_write c.pager pager page failed bytes write long sized.tells;
}

-- a resident page goes to the front
pub fronted_sized : (c : CacheNow) (page : ℕ) (entry : Held) → IsSized c → find_held c.held page ≡ Some entry → IsSized (record c { held = entry ∷ without c.held page })
fronted_sized c page entry sized found =
    sized_held c (entry ∷ without c.held page) sized (All-cons (IsWhole c.pager.page_size) entry (without c.held page) (whole_found c.pager.page_size c.held page entry sized.whole found)
    (whole_without c.pager.page_size c.held page sized.whole))

-- a page leaves the list
pub without_sized : (c : CacheNow) (page : ℕ) → IsSized c → IsSized (record c { held = without c.held page })
without_sized c page sized = sized_held c (without c.held page) sized (whole_without c.pager.page_size c.held page sized.whole)

-- bytes are put into a page of the list
pub put_sized : (c : CacheNow) (page at : ℕ) (bytes : List ℕ) → IsSized c → at + length bytes ≤ c.pager.page_size → IsSized (record c { held = changed (dirtied at bytes) c.held page })
put_sized c page at bytes sized fits =
    sized_held c (changed (dirtied at bytes) c.held page) sized (whole_changed c.pager.page_size (dirtied at bytes) c.held page
    (λ h whole. length-over h.bytes bytes at (omega arith) ∙ whole) sized.whole)

-- the page in the spare buffer enters
pub entered_sized : (c : CacheNow) (h : Held) → IsSized c → c.spare ≡ Some h → IsSized (record { held = h ∷ take (c.limit - 1) c.held; limit = c.limit; spare = None; pager = c.pager })
entered_sized c h sized stands = record {
  most = sized.most;
  size = sized.size;
  whole = All-cons (IsWhole c.pager.page_size) h (take (c.limit - 1) c.held) (subst (λ o. IfSome o (IsWhole c.pager.page_size)) stands sized.spare)
      (All-take (IsWhole c.pager.page_size) (c.limit - 1) c.held sized.whole);
  spare = tt;
  tells = sized.tells;
}
