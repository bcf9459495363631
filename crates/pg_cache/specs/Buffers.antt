-- The parts of a cache.
use Rattle.std.specs.Prelude.{ℕ, ◌≡◌, List, Bool, Some, None, length, if◌then◌else◌}
use Rattle.pg_io.specs.Pager.{PagerNow}
use Rattle.pg_cache.specs.Store.{Stored}
use Rattle.pg_cache.specs.Cache.{CacheNow, IsListed, IsSized, IsWhole}

-- what is seen of a cache: the page in the spare frame only where that was read
abbrev pub cache_of : Stored → Bool → PagerNow → CacheNow
cache_of store has_spare pager = record { held = store.held; limit = store.limit; spare = if has_spare then Some store.spare else None; pager = pager }

-- The store is one for the pager's pages, and the buffer is as long as a page.
pub record HasBuffers (store : Stored) (buffer : List ℕ) (has_spare : Bool) (pager : PagerNow) : Type 0 where
  pub count : store.pages ≡ pager.pages
  pub size : store.page_size ≡ pager.page_size
  pub buffer_whole : length buffer ≡ pager.page_size
  pub spare_whole : IsWhole pager.page_size store.spare
  pub sound : IsListed (cache_of store has_spare pager)
  pub sized : IsSized (cache_of store has_spare pager)
