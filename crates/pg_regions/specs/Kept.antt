-- The regions of a file as they are kept, and as they are seen.
use Rattle.std.specs.Prelude.{vec_capacity}
use Rattle.pg_regions.specs.declared.regions.Regions.TheInside.{Inside}
use Rattle.pg_regions.specs.RegionsNow.{RegionsNow}

-- the lists, and their room, which is what was taken for them
abbrev pub regions_of : Inside → RegionsNow
regions_of inside = record {
  page = inside.copies.page;
  regions = inside.regions.items;
  records = inside.records.items;
  copies = inside.copies.list;
  room = record {
    regions = vec_capacity inside.regions;
    records = vec_capacity inside.records;
    copies = inside.copies.room;
  };
}
