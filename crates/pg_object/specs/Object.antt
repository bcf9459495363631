-- The object of a file as it is seen, and the plain file that it is.
use Rattle.std.specs.Prelude.{ℕ, List, [], map, Option}
use Rattle.cs_policy.specs.declared.layout.Layout.{Layout}
use Rattle.pg_cache.specs.Held.{Held}
use Rattle.pg_pages.specs.Pages.{PagesNow}
use Rattle.pg_regions.specs.Lookups.{record_of, bytes_of}
use Rattle.pg_regions.specs.RegionsNow.{RegionsNow}
use Rattle.pg_plain.specs.PlainFile.{Attached, Resident, PlainFile}
use Rattle.pg_plain.specs.Covers.{covering}

pub record ObjectNow : Type 0 where
  -- the pages with their marks, and the count of digests
  pub pages : PagesNow
  -- the regions with their records and private copies
  pub regions : RegionsNow
  -- the attached signatures, by their numbers
  pub blobs : List Attached
  -- how many bytes the file has
  pub length : ℕ
  pub layout : Layout

abbrev pub resident_of : Held → Resident
resident_of held = record { page = held.page; dirty = held.dirty }

-- the plain file, where these are the bytes of its pages
abbrev pub seen : ObjectNow → List (List ℕ) → PlainFile
seen now pages = record {
  page_size = now.pages.cache.pager.page_size;
  length = now.length;
  limit = now.pages.cache.limit;
  pages = pages;
  layout = now.layout;
  blobs = now.blobs;
  regions = now.regions.regions;
  records = record_of now.regions.records;
  copies = bytes_of now.regions.copies;
  residents = map resident_of now.pages.cache.held;
}

-- the attached signature that covers a page, if one does: it does not depend on the bytes of the pages
abbrev pub cover_of : ObjectNow → ℕ → Option Attached
cover_of now page = covering (seen now []) page

-- an object of these parts
abbrev pub object_of : PagesNow → RegionsNow → List Attached → ℕ → Layout → ObjectNow
object_of pages regions blobs length layout =
    record { pages = pages; regions = regions; blobs = blobs; length = length; layout = layout }
