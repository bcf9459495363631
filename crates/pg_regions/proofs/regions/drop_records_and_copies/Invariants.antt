use Rattle.std.proofs.Common.{◌≡◌, not, filter, take, vec_capacity}
use Rattle.pg_regions.specs.Lookups.{is_of_pid}
use Rattle.pg_regions.proofs.regions.drop_records_and_copies.Given as goal

abbrev pub invariant-loop-region : goal.invariant-loop-region
invariant-loop-region l = record {
  records : l.records.items ≡ filter (λ r. not (is_of_pid (take l.region-index l.regions) l.pid r.region)) l.initial.records.items;
  copies : l.copies
      ≡ record l.initial.copies { list = filter (λ copy. not (is_of_pid (take l.region-index l.regions) l.pid copy.region)) l.initial.copies.list };
  room : vec_capacity l.records ≡ vec_capacity l.initial.records;
}
