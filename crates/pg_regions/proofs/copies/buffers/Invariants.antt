use Rattle.std.proofs.Common.{◌≡◌, vec_len, vec_capacity}
use Rattle.std.specs.Prelude.{All}
use Rattle.pg_regions.specs.Copies.{IsWhole}
use Rattle.pg_regions.proofs.copies.buffers.Given as goal

abbrev pub invariant-loop : goal.invariant-loop
invariant-loop l = record {
  count : vec_len l.buffers ≡ l.counter;
  capacity : vec_capacity l.buffers ≡ l.count;
  whole : All (IsWhole l.page) l.buffers.items;
}
