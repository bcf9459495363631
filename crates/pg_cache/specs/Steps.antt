-- The steps of each call of a cache: which pager calls it makes, and the whole cache afterwards.
use Rattle.std.specs.Prelude.{ℕ, ◌≡◌, ◌-◌, List, ◌∷◌, length, take, Bool, true, false, MatchBool, Option, Some, None, MatchOption, IfSome, Result, Ok, Err, IfOk, IfErr, nat_le, is_err, if◌then◌else◌}
use Rattle.std.specs.Option.{option_map}
use Rattle.pg_io.specs.Pager.{IsRead, IsWrite}
use Rattle.pg_io.specs.PageBytes.{written_over}
use Rattle.pg_cache.specs.Held.{Held, clean, without, changed, fronted, cleaned}
use Rattle.pg_cache.specs.Cache.{CacheNow, resident_page, in_spare, victim}
use Rattle.pg_cache.specs.declared.fault.PagerFault.{PagerFault}

-- One read of a page into the spare buffer. Where it failed, nothing stands there.
pub record ReadsSpare (old : CacheNow) (page : ℕ) (failed : Bool) (new : CacheNow) : Type 0 where
  -- what was read
  pub bytes : List ℕ
  pub read : IsRead old.pager page failed bytes new.pager
  pub whole : length bytes ≡ old.pager.page_size
  pub spare : new.spare ≡ (if failed then None else Some (clean page bytes))
  pub held : new.held ≡ old.held
  pub limit : new.limit ≡ old.limit

-- One write of a resident page, which stays in the list as it is.
pub record WritesBack (old : CacheNow) (held : Held) (failed : Bool) (new : CacheNow) : Type 0 where
  pub write : IsWrite old.pager held.page failed held.bytes new.pager
  pub others : new ≡ record old { pager = new.pager }

-- A dirty page is written once, and for a clean one there is no call.
abbrev pub Saves : CacheNow → Held → Bool → CacheNow → Type 0
Saves old held failed new = MatchBool held.dirty (WritesBack old held failed new) ((failed ≡ false) × (new ≡ old))

-- One write of a whole page, which stands in the list with these bytes, and clean, where it is resident.
-- The spare buffer is used up.
pub record WritesThrough (old : CacheNow) (page : ℕ) (bytes : List ℕ) (failed : Bool) (new : CacheNow) : Type 0 where
  pub write : IsWrite old.pager page failed bytes new.pager
  pub held : new.held ≡ (if failed then old.held else changed (cleaned bytes) old.held page)
  pub spare : new.spare ≡ None
  pub limit : new.limit ≡ old.limit

-- Peek: no call for a resident page, and one read of another.
abbrev pub Peeks : CacheNow → ℕ → Bool → CacheNow → Type 0
Peeks old page failed new = MatchOption (resident_page old page) (ReadsSpare old page failed new) (λ _. (failed ≡ false) × (new ≡ old))

-- The page is brought to the spare buffer: no call where it stands there, else one read.
abbrev pub Fills : CacheNow → ℕ → Bool → CacheNow → Type 0
Fills old page failed new = MatchOption (in_spare old page) (ReadsSpare old page failed new) (λ _. (failed ≡ false) × (new ≡ old))

-- The victim is saved, if there is one.
abbrev pub SavesVictim : CacheNow → Bool → CacheNow → Type 0
SavesVictim old failed new = MatchOption (victim old) ((failed ≡ false) × (new ≡ old)) (λ held. Saves old held failed new)

-- the page in the spare buffer goes to the front of the list, and the victim leaves
abbrev pub entered_by : Option Held → CacheNow → CacheNow
entered_by None cache = cache
entered_by (Some held) cache = record { held = held ∷ take (cache.limit - 1) cache.held; limit = cache.limit; spare = None; pager = cache.pager }

abbrev pub entered : CacheNow → CacheNow
entered cache = entered_by cache.spare cache

-- The page in the spare buffer takes the place of the victim, which is saved before. Where that failed, nothing enters.
pub record TakesPlace (old : CacheNow) (result : Result (Option ℕ) PagerFault) (new : CacheNow) : Type 0 where
  pub saved : CacheNow
  pub saves : SavesVictim old (is_err result) saved
  pub enters : new ≡ (if is_err result then saved else entered saved)
  pub leaver : IfOk result (λ leaver. leaver ≡ option_map (λ held. held.page) (victim old))
  pub fault : IfErr result (λ fault. IfSome (victim old) (λ held. fault.page ≡ held.page))

-- A page that is not resident enters: it is brought to the spare buffer, and then it takes the victim's place.
-- After a read that failed there is no other call.
pub record Enters (old : CacheNow) (page : ℕ) (result : Result (Option ℕ) PagerFault) (new : CacheNow) : Type 0 where
  pub unread : Bool
  pub filled : CacheNow
  pub fills : Fills old page unread filled
  pub goes_on : MatchBool unread ((result ≡ Err (record { page = page })) × (new ≡ filled)) (TakesPlace filled result new)

-- Bring: a resident page goes to the front, with no call and no victim.
abbrev pub Brings : CacheNow → ℕ → Result (Option ℕ) PagerFault → CacheNow → Type 0
Brings old page result new = MatchOption (resident_page old page) (Enters old page result new)
    (λ _. (result ≡ Ok None) × (new ≡ record old { held = fronted old.held page }))

-- Write to a page that is not resident, of which a part stays: one read and then one write of the whole new
-- page. No write follows a read that failed.
pub record ReadsAndWrites (old : CacheNow) (page at : ℕ) (bytes : List ℕ) (failed : Bool) (new : CacheNow) : Type 0 where
  pub unread : Bool
  pub filled : CacheNow
  pub reads : ReadsSpare old page unread filled
  pub writes : MatchBool unread ((failed ≡ true) × (new ≡ filled)) (IfSome filled.spare (λ held. WritesThrough filled page (written_over held.bytes at bytes) failed new))

-- Write: of a resident page the whole new page; of another the data where they are a whole page.
abbrev pub Writes : CacheNow → ℕ → ℕ → List ℕ → Bool → CacheNow → Type 0
Writes old page at bytes failed new = MatchOption (resident_page old page)
    (MatchBool (nat_le old.pager.page_size (length bytes)) (WritesThrough old page bytes failed new) (ReadsAndWrites old page at bytes failed new))
    (λ held. WritesThrough old page (written_over held.bytes at bytes) failed new)

-- Evict: the page is saved and leaves the list.
pub record Leaves (old : CacheNow) (held : Held) (result : Result Bool PagerFault) (new : CacheNow) : Type 0 where
  pub saved : CacheNow
  pub saves : Saves old held (is_err result) saved
  pub leaves : new ≡ (if is_err result then saved else record saved { held = without saved.held held.page })
  pub answer : IfOk result (λ left. left ≡ true)

abbrev pub Evicts : CacheNow → ℕ → Result Bool PagerFault → CacheNow → Type 0
Evicts old page result new = MatchOption (resident_page old page) ((result ≡ Ok false) × (new ≡ old)) (λ held. Leaves old held result new)
