-- What may be the bytes of all pages, whether the pager tells or not.
use Rattle.std.specs.Prelude.{ℕ, ◌≡◌, List, All, length, Some, IfSome, slice_get}
use Rattle.pg_cache.specs.Held.{Held}
use Rattle.pg_cache.specs.Cache.{CacheNow, resident_page, contents}

-- These may be the bytes of all pages: as many pages as there are, each whole; of resident pages their own; and where
-- the content is told, all of it.
pub record Finds (cache : CacheNow) (pages : List (List ℕ)) : Type 0 where
  pub count : length pages ≡ cache.pager.pages
  pub whole : All (λ bytes. length bytes ≡ cache.pager.page_size) pages
  pub resident : (page : ℕ) (held : Held) → resident_page cache page ≡ Some held → slice_get pages page ≡ Some held.bytes
  pub told : IfSome (contents cache) (λ content. pages ≡ content)
