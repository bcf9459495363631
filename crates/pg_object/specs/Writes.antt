-- What a write puts on each page that its data reach, page by page.
use Rattle.std.specs.Prelude.{ℕ, zero, ◌≡◌, ◌+◌, ◌-◌, ◌*◌, ◌/◌, ◌||◌, true, false, List, [], ◌∷◌, ◌++◌, length, map, take, drop, replicate, Some, None, is_some, if◌then◌else◌}
use Rattle.std.specs.List.{range_with_len, flat_map}
use Rattle.pg_bytes.specs.Counts.{Rose}
use Rattle.pg_digest.specs.Kinds.{Hash}
use Rattle.pg_io.specs.declared.pager_call.PagerCall.{PagerCall}
use Rattle.pg_io.specs.Pager.{MadeCalls}
use Rattle.pg_cache.specs.Cache.{CacheNow, resident_page, IsSound, KeepsSizes}
use Rattle.pg_cache.specs.Finds.{Finds}
use Rattle.pg_pages.specs.Marks.{Seal, Marks, marks_of}
use Rattle.pg_pages.specs.Pages.{PagesNow, IsMarked}
use Rattle.pg_plain.specs.Calls.{is_whole, failed_page}
use Rattle.pg_plain.specs.Steps.{is_reached, written_pages, cleaned}
use Rattle.pg_object.specs.Acts.{results}
use Rattle.pg_object.specs.Object.{resident_of}
use Rattle.pg_object.specs.PagerCalls.{reached_calls, Called, reads_of, ReadsAfter}

-- where on a page the data begin, and the part of the data that lies on it
abbrev pub offset_on : ℕ → ℕ → ℕ → ℕ
offset_on size at page = at - page * size

abbrev pub part_on : ℕ → ℕ → List ℕ → ℕ → List ℕ
part_on size at bytes page = take (page * size + size - (at + (page * size - at))) (drop (page * size - at) bytes)

-- the data that lie before a page
abbrev pub part_before : ℕ → ℕ → List ℕ → ℕ → List ℕ
part_before size at bytes page = take (page * size - at) bytes

-- the first page that data reach, and the first behind those that they reach
abbrev pub first_reached : ℕ → ℕ → ℕ
first_reached size at = at / size

abbrev pub end_reached : ℕ → ℕ → ℕ → ℕ
end_reached size at zero = at / size
end_reached size at count = (at + (count - 1)) / size + 1

-- Marks that say no more than others: nothing is kept but what was, and no writer came.
pub record IsLess (old new : Marks) : Type 0 where
  pub validated : (seal : Seal) → new.validated ≡ Some seal → old.validated ≡ Some seal
  pub writable : new.writable ≡ true → old.writable ≡ true

-- What stands once the data before a page were written: these data lie in the pages that they reach, which are clean, and
-- nothing is kept of them.
pub record Wrote (hash : Hash) (old : PagesNow) (at : ℕ) (bytes : List ℕ) (new : PagesNow) : Type 0 where
  pub found : (pages : List (List ℕ)) → Finds old.cache pages → Finds new.cache (written_pages old.cache.pager.page_size at bytes 0 pages)
  pub residents : map resident_of new.cache.held ≡ map (cleaned old.cache.pager.page_size at (length bytes)) (map resident_of old.cache.held)
  pub resident : (page : ℕ) → is_some (resident_page new.cache page) ≡ is_some (resident_page old.cache page)
  pub less : (page : ℕ) → IsLess (marks_of old.marks page) (marks_of new.marks page)
  pub changed : (page : ℕ) → is_reached old.cache.pager.page_size at (length bytes) page ≡ true → (marks_of new.marks page).validated ≡ None
  pub others : (page : ℕ) → is_reached old.cache.pager.page_size at (length bytes) page ≡ false → is_some (resident_page old.cache page) ≡ true
      → (marks_of new.marks page).validated ≡ (marks_of old.marks page).validated
  pub calls : new.calls ≡ old.calls
  pub sizes : KeepsSizes old.cache new.cache
  pub sound : IsSound new.cache
  pub marked : IsMarked hash new.cache new.marks

-- ---- the pager calls

-- the data are a whole page there, or the page is resident: one write; else one read and then one write
abbrev pub calls_on : CacheNow → ℕ → ℕ → ℕ → List ℕ
calls_on cache at count page =
    if is_some (resident_page cache page) || is_whole cache.pager.page_size at count page then page ∷ [] else page ∷ page ∷ []

-- the calls for the pages that are reached before this one
abbrev pub calls_before : CacheNow → ℕ → ℕ → ℕ → List ℕ
calls_before cache at count page =
    flat_map (calls_on cache at count) (range_with_len (at / cache.pager.page_size) (page - at / cache.pager.page_size))

-- the same with what each call is
abbrev pub kinds_on : CacheNow → ℕ → ℕ → ℕ → List PagerCall
kinds_on cache at count page = reached_calls (is_some (resident_page cache page) || is_whole cache.pager.page_size at count page) page

abbrev pub kinds_before : CacheNow → ℕ → ℕ → ℕ → List PagerCall
kinds_before cache at count page =
    flat_map (kinds_on cache at count) (range_with_len (at / cache.pager.page_size) (page - at / cache.pager.page_size))

-- All calls for the pages before this one were made, and none failed.
pub record Went (old : CacheNow) (at count page : ℕ) (new : CacheNow) : Type 0 where
  pub called : Called old.pager (kinds_before old at count page) new.pager
  pub reads : ReadsAfter (reads_of (kinds_before old at count page)) old.pager.reads new.pager.reads
  pub made : MadeCalls old.pager (replicate (length (calls_before old at count page)) false) new.pager
  pub faults : new.pager.faults ≡ old.pager.faults

-- A call for this page failed, and none before it.
pub record Stopped (old : CacheNow) (at count page : ℕ) (new : CacheNow) : Type 0 where
  pub outcome : ℕ
  pub made : MadeCalls old.pager (results 0 outcome) new.pager
  pub called : Called old.pager (take outcome (kinds_before old at count page ++ kinds_on old at count page)) new.pager
  pub reads : ReadsAfter (reads_of (take outcome (kinds_before old at count page ++ kinds_on old at count page))) old.pager.reads new.pager.reads
  pub failed : failed_page (calls_before old at count page ++ calls_on old at count page) outcome ≡ Some page
  pub faults : Rose old.pager.faults new.pager.faults

-- What writing all data did: all of them stand, or those before the page that failed, which the data reach.
pub record WroteBefore (hash : Hash) (old : PagesNow) (at : ℕ) (bytes : List ℕ) (page : ℕ) (new : PagesNow) : Type 0 where
  pub wrote : Wrote hash old at (part_before old.cache.pager.page_size at bytes page) new
  pub reached : is_reached old.cache.pager.page_size at (length bytes) page ≡ true
  pub stopped : Stopped old.cache at (length bytes) page new.cache

pub record WroteAll (hash : Hash) (old : PagesNow) (at : ℕ) (bytes : List ℕ) (new : PagesNow) : Type 0 where
  pub wrote : Wrote hash old at bytes new
  pub went : Went old.cache at (length bytes) (end_reached old.cache.pager.page_size at (length bytes)) new.cache

-- The same while it goes on: the data before this page stand.
pub record WroteSoFar (hash : Hash) (old : PagesNow) (at : ℕ) (bytes : List ℕ) (page : ℕ) (new : PagesNow) : Type 0 where
  pub wrote : Wrote hash old at (part_before old.cache.pager.page_size at bytes page) new
  pub went : Went old.cache at (length bytes) page new.cache
