-- The file whose pages are timed.
use Rattle.std.specs.Prelude.{◌≡◌}
use Rattle.pg_cache.specs.Cache.{CacheNow}
use Rattle.pg_pages.specs.Pages.{PagesNow}

-- the file of a cache has 4,096 pages of 4,096 bytes
pub record HasBenched (cache : CacheNow) : Type 0 where
  pub pages : cache.pager.pages ≡ 4096
  pub page_size : cache.pager.page_size ≡ 4096

abbrev pub IsBenched : PagesNow → Type 0
IsBenched now = HasBenched now.cache
