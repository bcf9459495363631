use Rattle.std.proofs.Common.{◌+◌, ◌≡◌, ◌≤◌}
use Rattle.pg_regions.specs.RegionsNow.{spare}
use Rattle.object_bench.proofs.file.map.Given as goal

abbrev pub invariant-loop-id : goal.invariant-loop-id
invariant-loop-id l = record {
  regions : (spare l.initial.object.regions).regions ≤ (spare l.object.regions).regions + l.id;
  records : (spare l.initial.object.regions).records ≤ (spare l.object.regions).records;
  pages : l.object.pages.cache.pager.pages ≡ 256;
}
