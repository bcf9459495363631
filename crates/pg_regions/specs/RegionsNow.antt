-- The regions, records and private copies of a file as they are seen, and what is true of them after every call.
use Rattle.std.specs.Prelude.{ℕ, ◌≡◌, ◌-◌, ◌<◌, ◌≤◌, ◌^◌, IsTrue, List, [], length, All}
use Rattle.pg_bytes.specs.PageSize.{is_page_size}
use Rattle.cs_policy.specs.declared.region.Region.{Region}
use Rattle.cs_policy.specs.declared.region.Record.{Record}
use Rattle.pg_regions.specs.Lookups.{Copy, RegionsDiffer, RecordsDiffer, CopiesDiffer, RegionsRise, RecordsRise, CopiesRise, HasPage, HasPrivatePage}

-- numbers of regions, records and private copies
pub record Room : Type 0 where
  pub regions : ℕ
  pub records : ℕ
  pub copies : ℕ

pub record RegionsNow : Type 0 where
  -- how many bytes a page has
  pub page : ℕ
  -- in the order of their numbers
  pub regions : List Region
  -- in the order of their pages and, of one page, of their regions
  pub records : List Record
  -- in the same order
  pub copies : List Copy
  -- how many of each there can be
  pub room : Room

-- no regions yet of a file with pages of this size, with room for so many regions, records and copies
abbrev pub empty : ℕ → ℕ → ℕ → ℕ → RegionsNow
empty page regions records copies = record {
  page = page;
  regions = [];
  records = [];
  copies = [];
  room = record { regions = regions; records = records; copies = copies };
}

-- how many more of each there can be
abbrev pub spare : RegionsNow → Room
spare now = record {
  regions = now.room.regions - length now.regions;
  records = now.room.records - length now.records;
  copies = now.room.copies - length now.copies;
}

-- What is true after every call.
pub record IsSound (now : RegionsNow) : Type 0 where
  -- at most one region has a number, and at most one record and one copy is of a region and page
  pub one_region : RegionsDiffer now.regions
  pub one_record : RecordsDiffer now.records
  pub one_copy : CopiesDiffer now.copies
  -- they stand in their order
  pub regions_rise : RegionsRise now.regions
  pub records_rise : RecordsRise now.records
  pub copies_rise : CopiesRise now.copies
  -- each record is of a page of a region that stands, each copy of one of a private region
  pub records_stand : All (λ r. HasPage now.regions r.region r.page) now.records
  pub copies_stand : All (λ copy. HasPrivatePage now.regions copy.region copy.page) now.copies
  -- each copy is a whole page
  pub page : IsTrue (is_page_size now.page)
  pub whole : All (λ copy. length copy.bytes ≡ now.page) now.copies
  -- there are no more of each than there is room for
  pub few_regions : length now.regions ≤ now.room.regions
  pub few_records : length now.records ≤ now.room.records
  pub few_copies : length now.copies ≤ now.room.copies
  -- regions can be counted in 32 bits
  pub countable : now.room.regions < 2 ^ 32
