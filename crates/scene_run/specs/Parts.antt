-- The parts of a scene's machine as they are opened.
use Rattle.std.specs.Prelude.{ℕ, ◌≡◌, ◌≤◌, ◌/◌, List, [], length, slice_get, Some, None}
use Rattle.pg_bytes.specs.PageSize.{IsPageSize}
use Rattle.pg_digest.specs.Digests.{sha_hash}
use Rattle.pg_io.specs.MemPages.{MemPagerNow, pages_reached, shown}
use Rattle.cs_policy.specs.declared.layout.Layout.{Layout}
use Rattle.pg_book.specs.declared.needs.Needs.{Needs}
use Rattle.pg_plain.specs.PlainFile.{opened}
use Rattle.pg_object.specs.Object.{ObjectNow, seen}
use Rattle.pg_object.specs.Kept.{IsLaid, IsKept}
use Rattle.pg_parts.specs.Rooms.{part_needs}
use Rattle.pg_parts.specs.Opened.{HasSpare}
use Rattle.scene_open.specs.Opening.{limit_of}

-- The pager has just the pages that its bytes reach, the layout lies in them, and few of them can be resident.
pub record FileFits (resident : ℕ) (pager : MemPagerNow) (layout : Layout) : Type 0 where
  pub known : IsPageSize pager.page_size
  pub reached : length pager.bytes / pager.page_size ≡ pages_reached pager.page_size pager.length
  pub laid : IsLaid pager.length layout
  pub few : limit_of resident (length pager.bytes / pager.page_size) ≤ 4096

-- each of them does
abbrev pub AllFit : ℕ → List MemPagerNow → List Layout → Type 0
AllFit resident pagers layouts = (k : ℕ) (pager : MemPagerNow) (layout : Layout)
    → slice_get pagers k ≡ Some pager → slice_get layouts k ≡ Some layout → FileFits resident pager layout

-- The file is that of the pager and the layout, nobody has mapped it, and there is room for what callers need of it.
pub record IsFileOf (resident : ℕ) (needs : Needs) (pager : MemPagerNow) (layout : Layout) (object : ObjectNow) : Type 0 where
  pub kept : IsKept sha_hash object
  pub cache : object.pages.cache ≡ record {
    held = [];
    limit = limit_of resident (length pager.bytes / pager.page_size);
    spare = None;
    pager = shown pager;
  }
  pub plain : (pages : List (List ℕ))
      → seen object pages ≡ opened pager.page_size pager.length (limit_of resident (length pager.bytes / pager.page_size)) pages layout
  pub spare : HasSpare object needs

-- The files are those of these pagers and layouts by place, where callers need so much.
pub record AreFiles (resident : ℕ) (needs : List (List Needs)) (pagers : List MemPagerNow) (layouts : List Layout) (objects : List ObjectNow) : Type 0 where
  pub count : length objects ≡ length pagers
  pub each : (k : ℕ) (object : ObjectNow) (pager : MemPagerNow) (layout : Layout) → slice_get objects k ≡ Some object
      → slice_get pagers k ≡ Some pager → slice_get layouts k ≡ Some layout → IsFileOf resident (part_needs needs k) pager layout object
