-- What each call of a cache answers and leaves. All of it follows from the call's steps.
use Rattle.std.specs.Prelude.{ℕ, ◌≡◌, ◌⊎◌, ◌-◌, ◌==◌, List, ◌∷◌, take, filter, map, not, Bool, true, false, Option, Some, None, IfSome, IsSome, IsSomeAnd, Result, IfOk, IfErr, OnOk, OnErr, is_err, is_some, slice_get, if◌then◌else◌}
use Rattle.std.specs.Option.{option_map}
use Rattle.std.specs.Borrow.{Bor}
use Rattle.pg_io.specs.PageBytes.{written_over}
use Rattle.pg_io.specs.Pager.{FaultsAfter}
use Rattle.pg_cache.specs.Held.{Held, changed, dirtied, cleaned}
use Rattle.pg_cache.specs.Contents.{with_piece}
use Rattle.pg_cache.specs.Cache.{CacheNow, Resident, resident, residents, resident_page, is_dirty, contents, victim, leaver, at_hand, IsSound, KeepsSizes}
use Rattle.pg_cache.specs.Steps.{Peeks, Brings, Writes, Evicts}
use Rattle.pg_cache.specs.declared.fault.PagerFault.{PagerFault}

-- ---- what is found afterwards

-- Of this page `found` is found, and of each other what was found before.
pub record ChangesPage (old new : CacheNow) (page : ℕ) (found : Option Held) : Type 0 where
  pub here : resident_page new page ≡ found
  pub others : (q : ℕ) → (q == page) ≡ false → resident_page new q ≡ resident_page old q

-- whether this is the page that left
abbrev pub has_left : Option ℕ → ℕ → Bool
has_left None page = false
has_left (Some left) page = left == page

-- This page is resident, as it was at hand. The page that left for it is not, and of each other what was found before
-- is found.
pub record FindsBrought (old : CacheNow) (page : ℕ) (new : CacheNow) : Type 0 where
  pub here : IsSome (resident_page new page)
  pub kept : IfSome (at_hand old page) (λ held. resident_page new page ≡ Some held)
  pub others : (q : ℕ) → (q == page) ≡ false
      → resident_page new q ≡ (if has_left (leaver old page) q then None else resident_page old q)

-- ---- the list afterwards

abbrev pub other_pages : ℕ → List ℕ → List ℕ
other_pages page pages = filter (λ q. not (q == page)) pages

abbrev pub other_residents : ℕ → List Resident → List Resident
other_residents page residents = filter (λ r. not (r.page == page)) residents

-- the list with the page marked as dirty, or as clean
abbrev pub marked_at : ℕ → Bool → Resident → Resident
marked_at page dirty r = if r.page == page then record r { dirty = dirty } else r

abbrev pub marked : ℕ → Bool → List Resident → List Resident
marked page dirty residents = map (marked_at page dirty) residents

-- ---- the calls

-- Peek: what it leaves. The list stays; a page that was not resident stands in the spare buffer then, unless its read
-- failed.
pub record PeekLeaves (old : CacheNow) (page : ℕ) (failed : Bool) (new : CacheNow) : Type 0 where
  pub steps : Peeks old page failed new
  pub at_hand : failed ≡ false → IsSome (at_hand new page)
  pub list : new.held ≡ old.held
  pub content : contents new ≡ contents old
  -- for a resident page there is no call
  pub no_call : IsSome (resident_page old page) → (failed ≡ false) × (new ≡ old)
  pub faults : FaultsAfter failed old.pager.faults new.pager.faults
  pub sizes : KeepsSizes old new
  pub sound : IsSound new

-- Peek: what it answers besides.
pub record PeekGives (old : CacheNow) (page : ℕ) (result : Result (Bor (List ℕ)) PagerFault) (new : CacheNow) : Type 0 where
  pub leaves : PeekLeaves old page (is_err result) new
  pub bytes : IfOk result (λ bytes. option_map (λ held. held.bytes) (at_hand new page) ≡ Some bytes.now)
  -- where the content is told, these are the page's bytes in it
  pub known : IfOk result (λ bytes. IfSome (contents old) (λ pages. slice_get pages page ≡ Some bytes.now))
  pub fault : IfErr result (λ fault. fault.page ≡ page)

-- Bring.
pub record BringGives (old : CacheNow) (page : ℕ) (result : Result (Option ℕ) PagerFault) (new : CacheNow) : Type 0 where
  pub steps : Brings old page result new
  pub left : IfOk result (λ left. left ≡ leaver old page)
  -- this page, and then the others in their order, as many as may be resident
  pub numbers : OnOk result (resident new ≡ page ∷ take (old.limit - 1) (other_pages page (resident old)))
  pub list : OnOk result (residents new ≡ record { page = page; dirty = is_dirty old page } ∷ take (old.limit - 1) (other_residents page (residents old)))
  pub found : OnOk result (FindsBrought old page new)
  pub content : contents new ≡ contents old
  pub unchanged : OnErr result (new.held ≡ old.held)
  -- no call for a resident page, and no read for one that stands in the spare buffer, as after a `peek`
  pub no_call : IsSome (resident_page old page) → (is_err result ≡ false) × (new.pager ≡ old.pager)
  pub no_read : IsSome (at_hand old page) → new.pager.reads ≡ old.pager.reads
  -- a fault is that of the read, or of the write of the victim: of the latter alone where there is no read
  pub fault : IfErr result (λ fault. (fault.page ≡ page) ⊎ IsSomeAnd (victim old) (λ held. fault.page ≡ held.page))
  pub fault_at_hand : IsSome (at_hand old page) → IfErr result (λ fault. IsSomeAnd (victim old) (λ held. fault.page ≡ held.page))
  pub faults : FaultsAfter (is_err result) old.pager.faults new.pager.faults
  -- the spare buffer is used up where the page was not resident; after a fault only this page may stand there
  pub spare : OnOk result (new.spare ≡ (if is_some (resident_page old page) then old.spare else None))
  pub spare_at_hand : IsSome (at_hand old page) → OnErr result (new.spare ≡ old.spare)
  pub spare_after : OnErr result (IfSome new.spare (λ held. held.page ≡ page))
  pub sizes : KeepsSizes old new
  pub sound : IsSound new

-- Put.
pub record PutGives (old : CacheNow) (page at : ℕ) (bytes : List ℕ) (new : CacheNow) : Type 0 where
  pub after : new ≡ record old { held = changed (dirtied at bytes) old.held page }
  pub numbers : resident new ≡ resident old
  pub list : residents new ≡ marked page true (residents old)
  pub found : ChangesPage old new page (option_map (dirtied at bytes) (resident_page old page))
  pub content : contents new ≡ option_map (with_piece page at bytes) (contents old)
  pub sound : IsSound new

-- a page with bytes written over a part of it, which the pager has
abbrev pub rewritten : ℕ → List ℕ → Held → Held
rewritten at bytes held = cleaned (written_over held.bytes at bytes) held

-- Write.
pub record WriteGives (old : CacheNow) (page at : ℕ) (bytes : List ℕ) (result : Result (Unit {0}) PagerFault) (new : CacheNow) : Type 0 where
  pub steps : Writes old page at bytes (is_err result) new
  pub numbers : resident new ≡ resident old
  pub list : OnOk result (residents new ≡ marked page false (residents old))
  pub found : OnOk result (ChangesPage old new page (option_map (rewritten at bytes) (resident_page old page)))
  pub content : contents new ≡ (if is_err result then contents old else option_map (with_piece page at bytes) (contents old))
  pub unchanged : OnErr result (new.held ≡ old.held)
  pub reads : IsSome (resident_page old page) → new.pager.reads ≡ old.pager.reads
  pub fault : IfErr result (λ fault. fault.page ≡ page)
  pub faults : FaultsAfter (is_err result) old.pager.faults new.pager.faults
  pub spare : new.spare ≡ None
  pub sizes : KeepsSizes old new
  pub sound : IsSound new

-- Evict.
pub record EvictGives (old : CacheNow) (page : ℕ) (result : Result Bool PagerFault) (new : CacheNow) : Type 0 where
  pub steps : Evicts old page result new
  pub answer : IfOk result (λ left. left ≡ is_some (resident_page old page))
  pub numbers : OnOk result (resident new ≡ other_pages page (resident old))
  pub list : OnOk result (residents new ≡ other_residents page (residents old))
  pub found : OnOk result (ChangesPage old new page None)
  pub content : contents new ≡ contents old
  pub unchanged : OnErr result (new.held ≡ old.held)
  pub reads : new.pager.reads ≡ old.pager.reads
  pub fault : IfErr result (λ fault. fault.page ≡ page)
  pub faults : FaultsAfter (is_err result) old.pager.faults new.pager.faults
  pub spare : new.spare ≡ old.spare
  pub sizes : KeepsSizes old new
  pub sound : IsSound new
