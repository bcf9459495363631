-- A page cache as it is seen: which pages are resident, and what every page holds now.
use Rattle.std.specs.Prelude.{ℕ, ◌≡◌, ◌-◌, ◌<◌, ◌≤◌, ◌==◌, List, [], ◌∷◌, All, length, map, Bool, false, IsTrue, Option, Some, None, IfSome, slice_get, if◌then◌else◌}
use Rattle.std.specs.Option.{option_map, option_map_or}
use Rattle.pg_io.specs.PageBytes.{is_page_size}
use Rattle.pg_io.specs.Pager.{PagerNow, ToldPages, TellsWhole}
use Rattle.pg_cache.specs.Held.{Held, find_held}
use Rattle.pg_cache.specs.Contents.{overlaid}

pub record CacheNow : Type 0 where
  -- the resident pages, most recent first
  pub held : List Held
  -- how many pages may be resident
  pub limit : ℕ
  -- the page that was read beside the resident ones, if one still stands there
  pub spare : Option Held
  pub pager : PagerNow

-- the numbers of the resident pages, most recent first
abbrev pub resident : CacheNow → List ℕ
resident cache = map (λ held. held.page) cache.held

-- the resident page of this number, if there is one
abbrev pub resident_page : CacheNow → ℕ → Option Held
resident_page cache = find_held cache.held

-- a resident page by its number, and whether it is dirty: the pager does not have its bytes yet
pub record Resident : Type 0 where
  pub page : ℕ
  pub dirty : Bool

abbrev pub resident_of : Held → Resident
resident_of held = record { page = held.page; dirty = held.dirty }

-- the resident pages in that way, most recent first
abbrev pub residents : CacheNow → List Resident
residents cache = map resident_of cache.held

-- whether the page is resident and dirty
abbrev pub is_dirty : CacheNow → ℕ → Bool
is_dirty cache page = option_map_or (λ held. held.dirty) (resident_page cache page) false

-- What every page holds now, where the pager tells: the pager's pages, and over them the resident ones.
abbrev pub contents : CacheNow → Option (List (List ℕ))
contents cache = option_map (λ told. overlaid cache.held 0 told.holds) cache.pager.told

-- the page that has to leave for another: the last of the list where the list is full, else none
abbrev pub victim : CacheNow → Option Held
victim cache = slice_get cache.held (cache.limit - 1)

-- the number of the page that leaves when a page is brought: the victim where that page is not resident, else none
abbrev pub leaver_by : Option Held → Option Held → Option ℕ
leaver_by None last = option_map (λ held. held.page) last
leaver_by (Some _) last = None

abbrev pub leaver : CacheNow → ℕ → Option ℕ
leaver cache page = leaver_by (resident_page cache page) (victim cache)

-- the page of this number in the spare buffer, if it stands there
abbrev pub spare_of : Option Held → ℕ → Option Held
spare_of None page = None
spare_of (Some held) page = if held.page == page then Some held else None

abbrev pub in_spare : CacheNow → ℕ → Option Held
in_spare cache page = spare_of cache.spare page

-- the page of this number where it is resident, or else in the spare buffer
abbrev pub or_else : Option Held → Option Held → Option Held
or_else None other = other
or_else (Some held) other = Some held

abbrev pub at_hand : CacheNow → ℕ → Option Held
at_hand cache page = or_else (resident_page cache page) (in_spare cache page)

-- the pager has the page's bytes
abbrev pub IsSaved : Option ToldPages → Held → Type 0
IsSaved told held = IfSome told (λ t. (bytes : List ℕ) → slice_get t.holds held.page ≡ Some bytes → bytes ≡ held.bytes)

-- A page lies in the file; where it is clean, the pager has its bytes.
pub record IsKept (pages : ℕ) (told : Option ToldPages) (held : Held) : Type 0 where
  pub inside : held.page < pages
  pub agrees : IfSome told (λ t. held.dirty ≡ false → slice_get t.holds held.page ≡ Some held.bytes)

-- Each page is kept, and stands in the list once.
abbrev pub AreKept : ℕ → Option ToldPages → List Held → Type 0
AreKept pages told [] = Unit {0}
AreKept pages told (held ∷ others) = IsKept pages told held × (find_held others held.page ≡ None) × AreKept pages told others

-- the page in the spare buffer is clean and not resident
pub record IsBeside (pages : ℕ) (told : Option ToldPages) (all : List Held) (held : Held) : Type 0 where
  pub kept : IsKept pages told held
  pub is_clean : held.dirty ≡ false
  pub absent : find_held all held.page ≡ None

-- the page has as many bytes as a page has
abbrev pub IsWhole : ℕ → Held → Type 0
IsWhole size held = length held.bytes ≡ size

-- Which pages stand in the list and in the spare buffer, and what the pager has of them.
pub record IsListed (cache : CacheNow) : Type 0 where
  pub limited : length cache.held ≤ cache.limit
  pub some : 0 < cache.limit
  pub kept : AreKept cache.pager.pages cache.pager.told cache.held
  pub beside : IfSome cache.spare (IsBeside cache.pager.pages cache.pager.told cache.held)

-- How many pages may be resident, and that each page, here and as it is told, is whole.
pub record IsSized (cache : CacheNow) : Type 0 where
  pub most : cache.limit ≤ 4096
  pub size : IsTrue (is_page_size cache.pager.page_size)
  pub whole : All (IsWhole cache.pager.page_size) cache.held
  pub spare : IfSome cache.spare (IsWhole cache.pager.page_size)
  pub tells : TellsWhole cache.pager

-- What is true of every cache.
pub record IsSound (cache : CacheNow) : Type 0 where
  pub listed : IsListed cache
  pub sized : IsSized cache

-- the limit stays, and how many pages the file has, and their size
pub record KeepsSizes (old new : CacheNow) : Type 0 where
  pub limit : new.limit ≡ old.limit
  pub pages : new.pager.pages ≡ old.pager.pages
  pub page_size : new.pager.page_size ≡ old.pager.page_size
